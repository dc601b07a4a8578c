-- Each promise of the crate fixes its answer: any two answers that it allows are equal.
-- Assumes nothing.
use mathlib.Core.Path.{◌≡◌}
use mathlib.Core.List.{List}
use Prim.Native.Nat.{ℕ}
use lib.Ieee.{Float}
use Rattle.laws.specs.Below.{over}
use Rattle.laws.specs.Fixed.{Fixes}
use Rattle.laws.proofs.Fixed.{equation_fixes}
use Rattle.block.specs.declared.Checked.{Checked}
use Rattle.readings.specs.declared.Reading.{Reading}
use Rattle.readings.specs.Reading.{reading_of, greys_of, bad_row}

-- of `read`
pub read_fixed : (x : Float) → Fixes (λ (r : Reading). r ≡ reading_of x)
read_fixed x = equation_fixes (reading_of x)

-- of `fill`: the window afterwards
pub readings_fill_fixed : (part : List Float) (window : List ℕ) → Fixes (λ (w : List ℕ). w ≡ over (greys_of part) window)
readings_fill_fixed part window = equation_fixes (over (greys_of part) window)

-- of `check_readings`
pub check_readings_fixed : (readings : List Float) → Fixes (λ (r : Checked). r ≡ bad_row readings)
check_readings_fixed readings = equation_fixes (bad_row readings)
