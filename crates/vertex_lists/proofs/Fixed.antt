-- The promises of `check`, `check_shape`, `cubes` and `all_in_unit` fix their answers: any two that are allowed are equal.
-- Assumes nothing.
use Prim.Native.Nat.{ℕ}
use mathlib.Core.Path.{◌≡◌}
use mathlib.Core.Bool.{Bool, ◌&&◌}
use mathlib.Core.List.{List}
use lib.Ieee.{Float}
use Rattle.laws.specs.Fixed.{Fixes}
use Rattle.laws.proofs.Fixed.{equation_fixes}
use Rattle.block.specs.declared.Checked.{Checked}
use Rattle.block.specs.declared.Size.{Size}
use Rattle.block.specs.Answer.{in_order}
use Rattle.block.specs.Numbering.{cube_count}
use Rattle.vertex_lists.specs.Rows.{shape_row, from_zero_to_one, vertex_rows}

pub vertex_check_fixed : (n : Size) (words : List ℕ) (offsets : List Float) → Fixes (λ (r : Checked). r ≡ in_order (vertex_rows n words offsets))
vertex_check_fixed n words offsets = equation_fixes (in_order (vertex_rows n words offsets))

pub check_shape_fixed : (words offsets : ℕ) → Fixes (λ (r : Checked). r ≡ shape_row words offsets)
check_shape_fixed words offsets = equation_fixes (shape_row words offsets)

pub cubes_fixed : (n : Size) → Fixes (λ (r : ℕ). r ≡ cube_count n)
cubes_fixed n = equation_fixes (cube_count n)

pub all_in_unit_fixed : (x y z : Float) → Fixes (λ (r : Bool). r ≡ (from_zero_to_one x && from_zero_to_one y && from_zero_to_one z))
all_in_unit_fixed x y z = equation_fixes (from_zero_to_one x && from_zero_to_one y && from_zero_to_one z)
