-- What is read off the number of a cube is what it was made of.
-- Assumes nothing.
use Prim.Native.Nat.{ℕ, ◌-◌, ◌<◌}
use mathlib.Core.Path.{◌≡◌}
use Rattle.laws.proofs.Index.{index_x, index_y, index_z}
use Rattle.block.specs.declared.Size.{Size}
use Rattle.block.specs.Numbering.{cube_number, at_cube}

pub cube_back : {A : Type 0} (n : Size) (f : ℕ → ℕ → ℕ → A) (i j k : ℕ) → i < n.nx - 1 → j < n.ny - 1 → at_cube n f (cube_number n i j k) ≡ f i j k
cube_back n f i j k hi hj =
    rw (index_x (n.nx - 1) (n.ny - 1) i j k hi hj, index_y (n.nx - 1) (n.ny - 1) i j k hi hj, index_z (n.nx - 1) (n.ny - 1) i j k hi hj)
