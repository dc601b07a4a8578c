-- Where a cube lies, by its number: its coordinates, and the index of its first corner.
-- Assumes nothing.
use Rattle.std.specs.Prelude.{ℕ, ◌+◌, List, [], ◌∷◌, get_or}
use Rattle.block.specs.declared.Size.{Size}
use Rattle.block.specs.Numbering.{X, Y, Z, sample_index}
use Rattle.mesh_rule.specs.Orientation.{coordinate}
use Rattle.cube_spots.specs.declared.Spot.{Spot}

-- where the cube c lies: its coordinates, and the index of its first corner
abbrev pub spot_of : Size → ℕ → Spot
spot_of n c = record {
  x = coordinate n X c;
  y = coordinate n Y c;
  z = coordinate n Z c;
  first = sample_index n (coordinate n X c) (coordinate n Y c) (coordinate n Z c);
}

-- eight samples from the index p on, of two rows in each of two planes
abbrev pub eight_from : List ℕ → ℕ → ℕ → ℕ → List ℕ
eight_from s p row plane =
    get_or s p 0 ∷ get_or s (p + 1) 0 ∷ get_or s (p + row) 0 ∷ get_or s (p + row + 1) 0
    ∷ get_or s (p + plane) 0 ∷ get_or s (p + plane + 1) 0 ∷ get_or s (p + plane + row) 0 ∷ get_or s (p + plane + row + 1) 0 ∷ []
