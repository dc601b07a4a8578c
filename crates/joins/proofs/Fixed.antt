-- Each promise fixes the answer: any two that it allows are equal. Assumes nothing.
use Prim.Native.Nat.{ℕ}
use mathlib.Core.Path.{◌≡◌, sym, ◌∙◌}
use mathlib.Core.List.{List}
use Rattle.laws.specs.Fixed.{Fixes}
use Rattle.block.specs.declared.Cut.{Cut}
use Rattle.cube_rule.specs.Decider.{loops_of}
use Rattle.sorts.specs.declared.Sorts.{Sorts}
use Rattle.joins.specs.Joined.{sorted_of, singles_of, Single, Sorted}

module _ (lo hi : List ℕ) (nx p : ℕ) (cut : Cut) (e : List ℕ) (act : ℕ) where
  pub sorted_fixed : Fixes (λ (r : Sorts). (r ≡ sorted_of lo hi nx p cut e act) × Sorted loops_of lo hi cut nx p act r)
  sorted_fixed x y a b = a.0 ∙ sym b.0

  pub singles_fixed : Fixes (λ (r : ℕ). (r ≡ singles_of lo hi nx p cut e act) × Single loops_of lo hi cut nx p act r)
  singles_fixed x y a b = a.0 ∙ sym b.0
