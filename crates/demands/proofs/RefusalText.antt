-- A refusal's line begins with F and a mesh's text with 0; two refusals with one line are one refusal; and what is printed over a buffer is
-- read off its front.
use Prim.Native.Nat.{ℕ, ◌^◌, ◌≤◌, ◌<◌}
use mathlib.Core.Path.{◌≡◌, refl, sym, ap, ap₂, ◌∙◌}
use mathlib.Core.List.{List, [], ◌∷◌, ◌++◌}
use native.Mathlib.Omega.{arith}
use lib.ListN.{length, get_or, drop}
use lib.Ieee.{Float}
use Rattle.laws.specs.Below.{over}
use Rattle.block.specs.declared.Refusal.{Refusal}
use Rattle.reading.specs.Text.{digits, number_at, hex_of, LF}
use Rattle.lines.specs.Output.{refusal_line, head_line, mesh_text, Prints}
use Rattle.reading.proofs.Rules.{hex_length, number_back}

-- ---- the first byte

abbrev first_byte : List ℕ → ℕ
first_byte text = get_or text 0 0

pub refusal_first : (r : Refusal) → first_byte (refusal_line r) ≡ 70
unfolding refusal_line hex_of digits
refusal_first r = refl

pub mesh_first : (v q : ℕ) (words : List ℕ) (offsets : List Float) (quads : List ℕ) → first_byte (mesh_text v q words offsets quads) ≡ 48
unfolding mesh_text head_line hex_of digits
mesh_first v q words offsets quads = refl

-- so a mesh's text is no refusal's line
pub mesh_no_refusal : (v q : ℕ) (words : List ℕ) (offsets : List Float) (quads : List ℕ) (r : Refusal) → mesh_text v q words offsets quads ≡ refusal_line r → ⊥
mesh_no_refusal v q words offsets quads r e = omega (arith, ap first_byte e, mesh_first v q words offsets quads, refusal_first r)

-- ---- two texts, each of two parts

parts : {A : Type 0} (xs zs ys ws : List A) → length xs ≡ length zs → xs ++ ys ≡ zs ++ ws → (xs ≡ zs) × (ys ≡ ws)
parts [] [] ys ws l e = (refl, e)
parts [] (z ∷ zs) ys ws l e = absurd (omega (arith, l))
parts (x ∷ xs) [] ys ws l e = absurd (omega (arith, l))
parts {A} (x ∷ xs) (z ∷ zs) ys ws l e =
    let first : x ≡ z = cc in
    let others : xs ++ ys ≡ zs ++ ws = cc in
    let rest = parts xs zs ys ws (omega (arith, l)) others in
    (ap₂ (λ (a : A) (b : List A). a ∷ b) first rest.0, rest.1)

-- a number in k digits is fixed by them
hex_same : (k v w : ℕ) → v < 16 ^ k → w < 16 ^ k → hex_of k v ≡ hex_of k w → v ≡ w
hex_same k v w hv hw e = sym (number_back k v hv) ∙ ap (λ (xs : List ℕ). number_at xs 0 k) e ∙ number_back k w hw

-- ---- two refusals

-- two digits tell a number, eight digits a value
pub refusal_same : (r q : Refusal) → r.number < 256 → r.value ≤ 4294967295 → q.number < 256 → q.value ≤ 4294967295 → refusal_line r ≡ refusal_line q → r ≡ q
unfolding refusal_line hex_of
refusal_same r q rn rv qn qv e =
    let a = parts (hex_of 2 255) (hex_of 2 255) (hex_of 2 r.number ++ hex_of 8 r.value ++ LF ∷ []) (hex_of 2 q.number ++ hex_of 8 q.value ++ LF ∷ []) refl e in
    let b = parts (hex_of 2 r.number) (hex_of 2 q.number) (hex_of 8 r.value ++ LF ∷ []) (hex_of 8 q.value ++ LF ∷ [])
    (hex_length 2 r.number ∙ sym (hex_length 2 q.number)) a.1 in
    let c = parts (hex_of 8 r.value) (hex_of 8 q.value) (LF ∷ []) (LF ∷ []) (hex_length 8 r.value ∙ sym (hex_length 8 q.value)) b.1 in
    ap₂ (λ (n v : ℕ). record { number = n; value = v }) (hex_same 2 r.number q.number rn qn b.0)
    (hex_same 8 r.value q.value (small rv) (small qv) c.0)
  where
    small : {v : ℕ} → v ≤ 4294967295 → v < 16 ^ 8
    small h = omega (arith, h)

-- ---- what is printed

-- two texts printed over one buffer, if the same is answered and the same stands there
pub prints_one : {text other out out' : List ℕ} {r : ℕ} → Prints text out r out' → Prints other out r out' → text ≡ other
unfolding over
prints_one {text} {other} {out} {out'} {r} p q =
    (parts text other (drop (length text) out) (drop (length other) out) (sym p.count ∙ q.count) (sym p.text ∙ q.text)).0
