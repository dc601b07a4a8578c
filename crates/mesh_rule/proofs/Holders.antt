-- Masks that hold an edge: the first of them holds it, and where there is one it is the only one.
-- Assumes nothing.
use Prim.Native.Nat.{ℕ, zero, suc, ◌+◌, ◌≤◌, ◌<◌}
use mathlib.Core.Path.{◌≡◌, refl, ap}
use mathlib.Core.Bool.{Bool, true, false, cond}
use mathlib.Core.List.{List, [], ◌∷◌}
use native.Mathlib.Nat.{not-suc-le-zero, le_of_suc-le-suc}
use native.Mathlib.Omega.{arith}
use lib.ListN.{length, get_or}
use Rattle.laws.specs.Bits.{bit, holds}
use Rattle.block.specs.Rows.{lowest}
use Rattle.cube_rule.specs.Rule.{holders, first_holder}

module _ (e : ℕ) where
  -- the first holder stands among the masks
  pub first_lt : (ms : List ℕ) → 0 < holders e ms → first_holder e ms < length ms
  unfolding lowest
  first_lt [] h = absurd (not-suc-le-zero h)
  first_lt (m ∷ ms) h = go (holds m e) h (first_lt ms)
    where
      go : (b : Bool) → 0 < bit b + holders e ms → (0 < holders e ms → first_holder e ms < length ms)
          → cond b 0 (suc (first_holder e ms)) < suc (length ms)
      go true h ih = omega arith
      go false h ih = omega (arith, ih (omega arith))

  -- it holds the edge
  pub first_holds : (ms : List ℕ) → 0 < holders e ms → holds (get_or ms (first_holder e ms) 0) e ≡ true
  unfolding lowest
  first_holds [] h = absurd (not-suc-le-zero h)
  first_holds (m ∷ ms) h = go (holds m e) refl h (first_holds ms)
    where
      go : (b : Bool) → holds m e ≡ b → 0 < bit b + holders e ms → (0 < holders e ms → holds (get_or ms (first_holder e ms) 0) e ≡ true)
          → holds (get_or (m ∷ ms) (cond b 0 (suc (first_holder e ms))) 0) e ≡ true
      go true q h ih = q
      go false q h ih = ih (omega arith)

  some_holder : (ms : List ℕ) (p : ℕ) → p < length ms → holds (get_or ms p 0) e ≡ true → 0 < holders e ms
  some_holder [] p h x = absurd (not-suc-le-zero h)
  some_holder (m ∷ ms) zero h x = rw x (omega arith)
  some_holder (m ∷ ms) (suc p) h x = omega (arith, some_holder ms p (le_of_suc-le-suc h) x)

  -- and no other mask does, where there is at most one holder
  pub only_first : (ms : List ℕ) → holders e ms ≤ 1 → (p : ℕ) → p < length ms → holds (get_or ms p 0) e ≡ true → p ≡ first_holder e ms
  unfolding lowest
  only_first [] q p h x = absurd (not-suc-le-zero h)
  only_first (m ∷ ms) q zero h x = rw x
  only_first (m ∷ ms) q (suc p) h x = go (holds m e) q (λ r. only_first ms r p (le_of_suc-le-suc h) x)
    where
      go : (b : Bool) → bit b + holders e ms ≤ 1 → (holders e ms ≤ 1 → p ≡ first_holder e ms) → suc p ≡ cond b 0 (suc (first_holder e ms))
      go true q ih = absurd (omega (arith, q, some_holder ms p (le_of_suc-le-suc h) x))
      go false q ih = ap suc (ih (omega arith))
