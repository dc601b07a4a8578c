-- The decider over the natural numbers: the sizes of the differences in place of the signed differences, and the noise figure beside those of the negative corners.
-- Assumes nothing.
use mathlib.Core.Path.{◌≡◌, ap, ap₂, ◌∙◌}
use mathlib.Core.Bool.{Bool, true, false, cond}
use Prim.Native.Nat.{ℕ, zero, suc, ◌+◌, ◌-◌, ◌*◌, ◌≤◌, ◌<◌}
use native.Mathlib.Omega.{arith}
use lib.Dec.{leb, ltb}
use lib.IntN.{ℤ, pos, negsuc, ◌+ℤ◌, ◌-ℤ◌, ◌*ℤ◌}
use lib.Signed.{le_z}
use borrow.Author.Tests.{lt-ltb, le-ltb, le-leb, lt-leb}
use Rattle.block.specs.declared.Cut.{Cut}
use Rattle.block.specs.Grey.{positive}
use Rattle.cube_rule.specs.Decider.{difference_of, joined}

pick : {A : Type 0} (b c : Bool) (x y : A) → b ≡ c → cond b x y ≡ cond c x y
pick b c x y e = rw e

-- the difference of a positive sample, and of a negative one
difference_pos : (t s : ℕ) → t ≤ s → pos s -ℤ pos t ≡ pos (s - t)
difference_pos zero s h = ap pos (zeros s)
  where
    zeros : (s : ℕ) → s + 0 ≡ s - 0
    zeros s = omega arith
difference_pos (suc t) s h = pick (ltb s (suc t)) false (negsuc (suc t - suc s)) (pos (s - suc t)) (le-ltb s (suc t) h)

difference_neg : (t s : ℕ) → s < t → pos s -ℤ pos t ≡ negsuc (t - suc s)
difference_neg zero s h = absurd (none s h)
  where
    none : (s : ℕ) → s < 0 → ⊥
    none s h = omega arith
difference_neg (suc t) s h = pick (ltb s (suc t)) true (negsuc (suc t - suc s)) (pos (s - suc t)) (lt-ltb s (suc t) h)

module _ (cut : Cut) where
  -- the product of two differences of one sign is the product of their sizes
  pub product_pos : (a c : ℕ) → cut.t ≤ a → cut.t ≤ c → difference_of cut a *ℤ difference_of cut c ≡ pos ((a - cut.t) * (c - cut.t))
  product_pos a c a-pos c_pos = ap₂ (λ (x y : ℤ). x *ℤ y) (difference_pos cut.t a a-pos) (difference_pos cut.t c c_pos)

  pub product_neg : (b d : ℕ) → b < cut.t → d < cut.t → difference_of cut b *ℤ difference_of cut d ≡ pos ((cut.t - b) * (cut.t - d))
  product_neg b d b-neg d-neg =
      ap₂ (λ (x y : ℤ). x *ℤ y) (difference_neg cut.t b b-neg) (difference_neg cut.t d d-neg)
      ∙ ap₂ (λ (x y : ℕ). pos (x * y)) (size cut.t b b-neg) (size cut.t d d-neg)
    where
      size : (t s : ℕ) → s < t → suc (t - suc s) ≡ t - s
      size t s h = omega arith

  -- p and r at least t, q and s below it
  pub joined_pos : (p q r s : ℕ) → cut.t ≤ p → q < cut.t → cut.t ≤ r → s < cut.t →
      joined cut p q r s ≡ leb ((cut.t - q) * (cut.t - s) + cut.noise) ((p - cut.t) * (r - cut.t))
  unfolding joined
  joined_pos p q r s p-pos q-neg r-pos s-neg =
      pick (positive cut p) true _ _ (le-leb cut.t p p-pos)
      ∙ ap₂ (λ (x y : ℤ). le_z (x +ℤ pos cut.noise) y) (product_neg q s q-neg s-neg) (product_pos p r p-pos r-pos)

  -- p and r below t, q and s at least t
  pub joined_neg : (p q r s : ℕ) → p < cut.t → cut.t ≤ q → r < cut.t → cut.t ≤ s →
      joined cut p q r s ≡ leb ((cut.t - p) * (cut.t - r) + cut.noise) ((q - cut.t) * (s - cut.t))
  unfolding joined
  joined_neg p q r s p-neg q-pos r-neg s-pos =
      pick (positive cut p) false _ _ (lt-leb cut.t p p-neg)
      ∙ ap₂ (λ (x y : ℤ). le_z (x +ℤ pos cut.noise) y) (product_neg p r p-neg r-neg) (product_pos q s q-pos s-pos)
