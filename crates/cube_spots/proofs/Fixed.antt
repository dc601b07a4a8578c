-- The promises of `spot_of` and `corners_of` fix their answers.
-- Assumes nothing.
use Prim.Native.Nat.{ℕ}
use mathlib.Core.Path.{◌≡◌}
use mathlib.Core.List.{List}
use Rattle.laws.specs.Fixed.{Fixes}
use Rattle.laws.proofs.Fixed.{equation_fixes}
use Rattle.block.specs.declared.Size.{Size}
use Rattle.mesh_rule.specs.Grid.{corners_of}
use Rattle.cube_spots.specs.declared.Spot.{Spot}
use Rattle.cube_spots.specs.Spots.{spot_of}

pub spot_of_fixed : (n : Size) (c : ℕ) → Fixes (λ (r : Spot). r ≡ spot_of n c)
spot_of_fixed n c = equation_fixes (spot_of n c)

pub corners_of_fixed : (n : Size) (s : List ℕ) (c : ℕ) → Fixes (λ (r : List ℕ). r ≡ corners_of n s c)
corners_of_fixed n s c = equation_fixes (corners_of n s c)
