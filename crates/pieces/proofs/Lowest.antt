-- The lowest vertex with the same top: it is the lowest, it has that top, and vertices with one top have the same.
-- Assumes nothing.
use Prim.Native.Nat.{ℕ, ◌≤◌, ◌<◌}
use mathlib.Core.Path.{◌≡◌, refl, ap, sym, ◌∙◌}
use mathlib.Core.Bool.{Bool, true, false, not, false≢true, true≢false}
use mathlib.Core.Logic.{◌⊎◌, inl, inr}
use native.Mathlib.Omega.{arith}
use lib.Dec.{eqb}
use borrow.Author.Tests.{eq-eqb, eqb-true}
use Rattle.laws.proofs.Leading.{leading_holds, leading_stops}
use Rattle.laws.proofs.Tests.{lt_or_ge}
use Rattle.pieces.specs.Steps.{lowest_with, low}

not_was : (b : Bool) → not b ≡ false → b ≡ true
not_was true e = refl
not_was false e = absurd (true≢false e)

module _ (n : ℕ) (root : ℕ → ℕ) where
  pub low_le : (v w : ℕ) → w < n → root w ≡ root v → low n root v ≤ w
  low_le v w l e = go (lt_or_ge w (low n root v))
    where
      go : (w < low n root v) ⊎ (low n root v ≤ w) → low n root v ≤ w
      go (inl g) = absurd (false≢true (sym (ap not (eq-eqb (root w) (root v) e)) ∙ leading_holds (λ (w : ℕ). not (eqb (root w) (root v))) n w g))
      go (inr g) = g

  pub low_lt : (v : ℕ) → v < n → low n root v < n
  low_lt v l = omega (arith, low_le v v l refl)

  pub low_root : (v : ℕ) → v < n → root (low n root v) ≡ root v
  low_root v l = eqb-true _ _ (not_was _ (leading_stops (λ (w : ℕ). not (eqb (root w) (root v))) n (low_lt v l)))

  pub low_same : (v w : ℕ) → root v ≡ root w → low n root v ≡ low n root w
  low_same v w e = ap (lowest_with n root) e

  pub low_low : (v : ℕ) → v < n → low n root (low n root v) ≡ low n root v
  low_low v l = low_same (low n root v) v (low_root v l)

  pub low_eq : (v w : ℕ) → v < n → w < n → low n root v ≡ low n root w → root v ≡ root w
  low_eq v w hv hw e = sym (low_root v hv) ∙ ap root e ∙ low_root w hw
