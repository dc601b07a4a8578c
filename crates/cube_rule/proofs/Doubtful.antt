-- A doubtful face, one with four crossed edges: its signs alternate, the divisor S of its saddle is positive, and the decider joins its
-- positive corners exactly if the bilinear form at the saddle is at least t + n/S; without noise, exactly if it is at least t.
-- Assumes nothing.
use mathlib.Core.Path.{◌≡◌, refl, sym, ◌∙◌}
use mathlib.Core.Bool.{Bool, true, false, not, beq}
use mathlib.Core.Logic.{◌↔◌, ◌⊎◌, inl, inr, ⊎_elim}
use Prim.Native.Nat.{ℕ, ◌+◌, ◌*◌, ◌≤◌, ◌<◌}
use native.Mathlib.Nat.{mul-le-mul_left, le_of_mul-le-mul_left}
use native.Mathlib.Omega.{arith}
use lib.Dec.{T, eqb}
use borrow.Author.Tests.{eq-eqb, leb-true, leb-false}
use Rattle.laws.specs.Bits.{differ}
use Rattle.laws.proofs.Tests.{both, one_of, left, right, imply, same_eq, either_way, either_way_at}
use Rattle.block.specs.declared.Cut.{Cut}
use Rattle.block.specs.Grey.{positive}
use Rattle.cube_rule.specs.Decider.{joined, divisor}
use Rattle.cube_rule.specs.Links.{ring_count}
use Rattle.cube_rule.specs.Saddle.{form, Saddle}
use Rattle.cube_rule.proofs.Saddle.{Alternate, alternate, decider_is_saddle, saddle_exists}

-- ---- the signs alternate, by a test that antt computes at each of the sixteen

alternating : Bool → Bool → Bool → Bool → Bool
alternating a b c d = one_of (not (eqb (ring_count a b c d) 4)) (both (beq a c) (both (beq b d) (differ a b)))

computed : T (either_way (λ a. either_way (λ b. either_way (λ c. either_way (λ d. alternating a b c d)))))
unfolding alternating
computed = tt

signs : (a b c d : Bool) → ring_count a b c d ≡ 4 → T (both (beq a c) (both (beq b d) (differ a b)))
unfolding alternating
signs a b c d e =
    imply (eqb (ring_count a b c d) 4) _
    (either_way_at (λ d. alternating a b c d)
    (either_way_at (λ c. either_way (λ d. alternating a b c d))
    (either_way_at (λ b. either_way (λ c. either_way (λ d. alternating a b c d)))
    (either_way_at (λ a. either_way (λ b. either_way (λ c. either_way (λ d. alternating a b c d)))) computed a) b) c) d)
    (eq-eqb (ring_count a b c d) 4 e)

apart : (a b : Bool) → T (differ a b) → ¬ (a ≡ b)
apart true true t e = t
apart true false t e = let z : ◌≡◌ {A = ℕ} 0 1 = cc in absurd (omega arith)
apart false true t e = let z : ◌≡◌ {A = ℕ} 0 1 = cc in absurd (omega arith)
apart false false t e = t

-- what S times a comparison says without noise
without : (S t n M f : ℕ) → 0 < S → n ≡ 0 → ((t * S + n) * M ≤ S * f) ↔ (t * M ≤ f)
without S t n M f some none = rw none ((λ h. le_of_mul-le-mul_left {k = S} (omega arith) some), (λ h. let g : S * (t * M) ≤ S * f = mul-le-mul_left S h in omega arith))

module _ (cut : Cut) (p q r s : ℕ) (four : ring_count (positive cut p) (positive cut q) (positive cut r) (positive cut s) ≡ 4) where
  found : T (both (beq (positive cut p) (positive cut r)) (both (beq (positive cut q) (positive cut s)) (differ (positive cut p) (positive cut q))))
  found = signs (positive cut p) (positive cut q) (positive cut r) (positive cut s) four

  rest : T (both (beq (positive cut q) (positive cut s)) (differ (positive cut p) (positive cut q)))
  rest = right (beq (positive cut p) (positive cut r)) _ found

  p_as_r : positive cut p ≡ positive cut r
  p_as_r = same_eq (positive cut p) (positive cut r) (left (beq (positive cut p) (positive cut r)) _ found)

  q_as_s : positive cut q ≡ positive cut s
  q_as_s = same_eq (positive cut q) (positive cut s) (left (beq (positive cut q) (positive cut s)) _ rest)

  p_not_q : ¬ (positive cut p ≡ positive cut q)
  p_not_q = apart (positive cut p) (positive cut q) (right (beq (positive cut q) (positive cut s)) _ rest)

  -- it has the positive samples at p and r, or at q and s
  pub doubtful_alternates : Alternate cut.t p q r s ⊎ Alternate cut.t q r s p
  doubtful_alternates = alternate cut p q r s p_as_r q_as_s p_not_q

  -- "joined if A·C is at least B·D plus n": exactly if the form's value at the saddle is at least t + n/S
  pub noisy_saddle : (u w v x : ℕ) → 0 < u + w → 0 < v + x → Saddle p q r s u w v x
      → (joined cut p q r s ≡ true) ↔ ((cut.t * divisor cut p q r s + cut.noise) * ((u + w) * (v + x)) ≤ divisor cut p q r s * form p q r s u w v x)
  noisy_saddle = decider_is_saddle cut p q r s p_as_r q_as_s p_not_q

  -- there is a saddle, inside the face
  pub doubtful_has_saddle : (u : ℕ) × (w : ℕ) × (v : ℕ) × (x : ℕ) × (0 < u) × (0 < w) × (0 < v) × (0 < x) × Saddle p q r s u w v x
  doubtful_has_saddle = saddle_exists cut p q r s p_as_r q_as_s p_not_q

  -- "The divisor of the decider's saddle, A+C−B−D, is positive": the positive corners outweigh the negative ones
  pub divisor_positive : ((positive cut p ≡ true) × (q + s < p + r)) ⊎ ((positive cut p ≡ false) × (p + r < q + s))
  divisor_positive = go (positive cut p) (positive cut q) refl refl
    where
      go : (a b : Bool) → positive cut p ≡ a → positive cut q ≡ b → ((positive cut p ≡ true) × (q + s < p + r)) ⊎ ((positive cut p ≡ false) × (p + r < q + s))
      go true true e f = absurd (p_not_q (e ∙ sym f))
      go true false e f =
          inl (e, omega (arith, leb-true cut.t p e, leb-false cut.t q f, leb-true cut.t r (sym p_as_r ∙ e), leb-false cut.t s (sym q_as_s ∙ f)))
      go false true e f =
          inr (e, omega (arith, leb-true cut.t q f, leb-false cut.t r (sym p_as_r ∙ e), leb-true cut.t s (sym q_as_s ∙ f), leb-false cut.t p e))
      go false false e f = absurd (p_not_q (e ∙ sym f))

  -- S is above 0
  pub divisor_some : 0 < divisor cut p q r s
  divisor_some = ⊎_elim (λ h. rw h.0 (omega (arith, h.1))) (λ h. rw h.0 (omega (arith, h.1))) divisor_positive

  -- without noise, "joined if A·C is at least B·D": exactly if the form's value at the saddle is at least t
  pub doubtful_saddle : cut.noise ≡ 0 → (u w v x : ℕ) → 0 < u + w → 0 < v + x → Saddle p q r s u w v x
      → (joined cut p q r s ≡ true) ↔ (cut.t * ((u + w) * (v + x)) ≤ form p q r s u w v x)
  doubtful_saddle none u w v x along across saddle =
      let n = noisy_saddle u w v x along across saddle in
      let d = without (divisor cut p q r s) cut.t cut.noise ((u + w) * (v + x)) (form p q r s u w v x) divisor_some none in
      ((λ h. d.0 (n.0 h)), (λ h. n.1 (d.1 h)))
