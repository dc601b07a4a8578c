-- What the noise figure does: it parts doubtful faces and never joins one, it parts every tie if it is above 0, and without it the decider is 01's. A cube reads it by its
-- doubtful faces alone.
-- Assumes nothing.
use mathlib.Core.Path.{◌≡◌, refl, sym, ap, ap₂, ◌∙◌}
use mathlib.Core.Bool.{Bool, true, false, cond}
use mathlib.Core.List.{List, ◌∷◌}
use mathlib.Core.Logic.{⊎_elim}
use Prim.Native.Nat.{ℕ, ◌+◌, ◌-◌, ◌*◌, ◌≤◌, ◌<◌}
use native.Mathlib.Nat.{mul-pos, mul-le-mul}
use native.Mathlib.Omega.{arith}
use lib.Dec.{leb, eqb, lit<}
use lib.IntN.{ℤ, pos, ◌+ℤ◌, ◌*ℤ◌, +ℤ_idr}
use lib.Signed.{le_z, mag}
use borrow.Author.Tests.{eqb-true, leb-true, le-leb, lt-leb}
use Rattle.laws.specs.Bits.{holds}
use Rattle.laws.proofs.Bits.{bit_le}
use Rattle.block.specs.Grey.{cut_of}
use Rattle.cube_rule.specs.Edges.{corner_sample, pattern_of, crossed_mask}
use Rattle.cube_rule.specs.Faces.{ring_corner}
use Rattle.cube_rule.specs.Decider.{difference_of, joined, noiseless, loops_of}
use Rattle.cube_rule.specs.Links.{ring_crossed, ring_count, Decider, decisions}
use Rattle.cube_rule.specs.Loops.{ring_mask, first_link, second_link, placed, face_link, loops_from, loops_in, loops_by}
use Rattle.cube_rule.proofs.Decider.{product_pos, product_neg, joined_pos, joined_neg}
use Rattle.cube_rule.proofs.Doubtful.{doubtful_alternates}
use Rattle.cube_rule.proofs.Laws.{pattern_sign}
use Rattle.cube_rule.proofs.Tables.{ring_corner_lt}
use Rattle.cube_rule.proofs.Saddle.{Alternate}

-- with n = 0 the decider is 01's own sentence
pub no_noise : (t p q r s : ℕ) → joined (cut_of t 0) p q r s ≡ noiseless (cut_of t 0) p q r s
unfolding joined noiseless
no_noise t p q r s = ap₂ (cond (leb t p)) (plain (d q *ℤ d s) (d p *ℤ d r)) (plain (d p *ℤ d r) (d q *ℤ d s))
  where
    d : ℕ → ℤ
    d = difference_of (cut_of t 0)

    plain : (x y : ℤ) → le_z (x +ℤ pos 0) y ≡ le_z x y
    plain x y = ap (λ (z : ℤ). le_z z y) (+ℤ_idr x)

-- ---- a doubtful face by its two products: bd, that of the sizes at the negative corners, and ac, that at the positive ones

-- A·C is B·D
abbrev pub Tie : (t p q r s : ℕ) → Type 0
Tie t p q r s = difference_of (cut_of t 0) p *ℤ difference_of (cut_of t 0) r ≡ difference_of (cut_of t 0) q *ℤ difference_of (cut_of t 0) s

record Products (t p q r s bd ac : ℕ) : Type 0 where
  decide : (n : ℕ) → joined (cut_of t n) p q r s ≡ leb (bd + n) ac
  tied : Tie t p q r s → bd ≡ ac
  some : 0 < bd
  most : p < 65536 → q < 65536 → r < 65536 → s < 65536 → ac ≤ 65534 * 65534

below_ceiling : (a c : ℕ) → a ≤ 65534 → c ≤ 65534 → a * c ≤ 65534 * 65534
below_ceiling a c h k = mul-le-mul h k

positive_first : (t p q r s : ℕ) → Alternate t p q r s → Products t p q r s ((t - q) * (t - s)) ((p - t) * (r - t))
positive_first t p q r s h = record {
  decide = λ n. joined_pos (cut_of t n) p q r s h.0 h.1 h.2 h.3;
  tied = λ e. ap mag (sym (product_neg (cut_of t 0) q s h.1 h.3) ∙ sym e ∙ product_pos (cut_of t 0) p r h.0 h.2);
  some = mul-pos (omega (arith, h.1)) (omega (arith, h.3));
  most = λ a b c d. below_ceiling _ _ (omega (arith, a, h.1)) (omega (arith, c, h.1));
}

negative_first : (t p q r s : ℕ) → Alternate t q r s p → Products t p q r s ((t - p) * (t - r)) ((q - t) * (s - t))
negative_first t p q r s h = record {
  decide = λ n. joined_neg (cut_of t n) p q r s h.3 h.0 h.1 h.2;
  tied = λ e. ap mag (sym (product_neg (cut_of t 0) p r h.3 h.1) ∙ e ∙ product_pos (cut_of t 0) q s h.0 h.2);
  some = mul-pos (omega (arith, h.3)) (omega (arith, h.1));
  most = λ a b c d. below_ceiling _ _ (omega (arith, b, h.1)) (omega (arith, d, h.1));
}

module _ (t p q r s : ℕ) (four : ring_count (leb t p) (leb t q) (leb t r) (leb t s) ≡ 4) where
  products : (bd : ℕ) × (ac : ℕ) × Products t p q r s bd ac
  products =
      ⊎_elim
      (λ (h : Alternate t p q r s). ((t - q) * (t - s), (p - t) * (r - t), positive_first t p q r s h))
      (λ (h : Alternate t q r s p). ((t - p) * (t - r), (q - t) * (s - t), negative_first t p q r s h))
      (doubtful_alternates (cut_of t 0) p q r s four)

  -- a face that is joined under n is joined under every smaller figure: noise parts and never joins
  pub noise_parts : (m n : ℕ) → m ≤ n → joined (cut_of t n) p q r s ≡ true → joined (cut_of t m) p q r s ≡ true
  noise_parts m n h e =
      let ps = products.2 in
      ps.decide m ∙ le-leb (products.0 + m) products.1 (omega (arith, h, leb-true (products.0 + n) products.1 (sym (ps.decide n) ∙ e)))

  -- a tie is joined without noise, and parted by any
  pub tie_is_joined : Tie t p q r s → joined (cut_of t 0) p q r s ≡ true
  tie_is_joined e = let ps = products.2 in ps.decide 0 ∙ le-leb (products.0 + 0) products.1 (omega (arith, ps.tied e))

  pub tie_is_parted : Tie t p q r s → (n : ℕ) → 0 < n → joined (cut_of t n) p q r s ≡ false
  tie_is_parted e n h = let ps = products.2 in ps.decide n ∙ lt-leb (products.0 + n) products.1 (omega (arith, h, ps.tied e))

  -- no noise figure above 4,294,705,155 joins a face of 16-bit samples
  pub noise_parts_all : p < 65536 → q < 65536 → r < 65536 → s < 65536 → (n : ℕ) → 4294705155 < n → joined (cut_of t n) p q r s ≡ false
  noise_parts_all a b c d n h = let ps = products.2 in ps.decide n ∙ lt-leb (products.0 + n) products.1 (omega (arith, h, ps.some, ps.most a b c d))

-- ---- a cube reads its decisions at doubtful faces alone

-- four crossed edges, as a set and as a count
four_edges : (a b c d : Bool) → ring_mask a b c d ≡ 15 → ring_count a b c d ≡ 4
four_edges a b c d e = omega (arith, e, bit_le (ring_crossed a b c d 0), bit_le (ring_crossed a b c d 1), bit_le (ring_crossed a b c d 2), bit_le (ring_crossed a b c d 3))

links_alike : (a b c d j k : Bool) → (ring_count a b c d ≡ 4 → j ≡ k) → (first_link a b c d j ≡ first_link a b c d k) × (second_link a b c d j ≡ second_link a b c d k)
links_alike a b c d j k same = go (eqb (ring_mask a b c d) 15) refl
  where
    go : (x : Bool) → eqb (ring_mask a b c d) 15 ≡ x → (first_link a b c d j ≡ first_link a b c d k) × (second_link a b c d j ≡ second_link a b c d k)
    go true e = let h = same (four_edges a b c d (eqb-true _ _ e)) in (ap (first_link a b c d) h, ap (second_link a b c d) h)
    go false e = (rw e, rw e)

module _ (p : ℕ) (j k : ℕ → Bool)
    (same : (f : ℕ) → f < 6 → ring_count (holds p (ring_corner f 0)) (holds p (ring_corner f 1)) (holds p (ring_corner f 2)) (holds p (ring_corner f 3)) ≡ 4 → j f ≡ k f) where
  face_same : (f : ℕ) → f < 6 → (face_link first_link p f (j f) ≡ face_link first_link p f (k f)) × (face_link second_link p f (j f) ≡ face_link second_link p f (k f))
  face_same f h =
      let l = links_alike (holds p (ring_corner f 0)) (holds p (ring_corner f 1)) (holds p (ring_corner f 2)) (holds p (ring_corner f 3)) (j f) (k f) (same f h) in
      (ap (placed f) l.0, ap (placed f) l.1)

  next : (f : ℕ) → f < 6 → {xs ys : List ℕ} → xs ≡ ys
      → face_link first_link p f (j f) ∷ face_link second_link p f (j f) ∷ xs ≡ face_link first_link p f (k f) ∷ face_link second_link p f (k f) ∷ ys
  next f h e =
      let l = face_same f h in
      ap₂ (λ (x : ℕ) (xs : List ℕ). x ∷ xs) l.0 (ap₂ (λ (x : ℕ) (xs : List ℕ). x ∷ xs) l.1 e)

  loops_alike : loops_in p j ≡ loops_in p k
  loops_alike =
      ap (λ (ls : List ℕ). loops_from 4 ls (crossed_mask p))
      (next 0 (lit< tt) (next 1 (lit< tt) (next 2 (lit< tt) (next 3 (lit< tt) (next 4 (lit< tt) (next 5 (lit< tt) refl))))))

-- the face f of a cube is doubtful at the threshold t: all its four edges are crossed
abbrev pub DoubtfulAt : ℕ → List ℕ → ℕ → Type 0
DoubtfulAt t cs f =
    ring_count (leb t (corner_sample cs (ring_corner f 0))) (leb t (corner_sample cs (ring_corner f 1))) (leb t (corner_sample cs (ring_corner f 2))) (leb t (corner_sample cs (ring_corner f 3))) ≡ 4

-- two deciders, or one with two noise figures, that decide each doubtful face of a cube alike give it the same loops
pub decided_alike : (D E : Decider) (t m n : ℕ) (cs : List ℕ) → ((f : ℕ) → f < 6 → DoubtfulAt t cs f → decisions D (cut_of t m) cs f ≡ decisions E (cut_of t n) cs f)
    → loops_by D (cut_of t m) cs ≡ loops_by E (cut_of t n) cs
unfolding loops_by pattern_of
decided_alike D E t m n cs same = loops_alike (pattern_of (cut_of t 0) cs) (decisions D (cut_of t m) cs) (decisions E (cut_of t n) cs) (λ f h four. same f h (here f h four))
  where
    p : ℕ
    p = pattern_of (cut_of t 0) cs

    sign : (f i : ℕ) → f < 6 → i < 4 → holds p (ring_corner f i) ≡ leb t (corner_sample cs (ring_corner f i))
    sign f i hf hi = pattern_sign (cut_of t 0) cs (ring_corner f i) (ring_corner_lt f i hf hi)

    here : (f : ℕ) → f < 6 → ring_count (holds p (ring_corner f 0)) (holds p (ring_corner f 1)) (holds p (ring_corner f 2)) (holds p (ring_corner f 3)) ≡ 4 → DoubtfulAt t cs f
    here f h e = rw (← sign f 0 h (lit< tt), ← sign f 1 h (lit< tt), ← sign f 2 h (lit< tt), ← sign f 3 h (lit< tt)) e

-- so a cube without a doubtful face has the same loops under any two
pub sure_cube : (t m n : ℕ) (cs : List ℕ) → ((f : ℕ) → f < 6 → ¬ DoubtfulAt t cs f) → loops_of (cut_of t m) cs ≡ loops_of (cut_of t n) cs
sure_cube t m n cs none = decided_alike joined joined t m n cs (λ f h four. absurd (none f h four))

-- and without noise a cube has the loops of 01
pub no_noise_loops : (t : ℕ) (cs : List ℕ) → loops_of (cut_of t 0) cs ≡ loops_by noiseless (cut_of t 0) cs
no_noise_loops t cs = decided_alike joined noiseless t 0 0 cs (λ f h four. no_noise t _ _ _ _)
