-- The promise fixes the answer: any two that it allows are equal. Assumes nothing.
use mathlib.Core.Path.{◌≡◌}
use mathlib.Core.List.{List}
use Prim.Native.Nat.{ℕ}
use Rattle.laws.specs.Fixed.{Fixes}
use Rattle.laws.proofs.Fixed.{equation_fixes}
use Rattle.sorts.specs.declared.Sorts.{Sorts}
use Rattle.sorts.specs.Sorting.{sorts_of}

pub sorts_of_fixed : (e doubtful joined : List ℕ) → Fixes (λ (r : Sorts). r ≡ sorts_of e doubtful joined)
sorts_of_fixed e doubtful joined = equation_fixes (sorts_of e doubtful joined)
