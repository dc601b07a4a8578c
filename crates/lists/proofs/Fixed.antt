-- The promises of `check_length` and `check_numbers` fix their answers: any two that are allowed are equal.
-- Assumes nothing.
use Prim.Native.Nat.{ℕ}
use mathlib.Core.Path.{◌≡◌}
use mathlib.Core.List.{List}
use Rattle.laws.specs.Fixed.{Fixes}
use Rattle.laws.proofs.Fixed.{equation_fixes}
use Rattle.block.specs.declared.Checked.{Checked}
use Rattle.lists.specs.Rows.{length_row, number_row}

pub check_length_fixed : (quads : List ℕ) → Fixes (λ (r : Checked). r ≡ length_row quads)
check_length_fixed quads = equation_fixes (length_row quads)

pub check_numbers_fixed : (count : ℕ) (quads : List ℕ) → Fixes (λ (r : Checked). r ≡ number_row count quads)
check_numbers_fixed count quads = equation_fixes (number_row count quads)
