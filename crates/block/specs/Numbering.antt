-- The numbering of a block's samples, cubes and edges, x fastest (document 01, "The block and its numbering").
use Rattle.std.specs.Prelude.{ℕ, ◌-◌, ◌*◌, ◌/◌, ◌%◌}
use Rattle.laws.specs.Index.{index_in}
use Rattle.block.specs.declared.Size.{Size}

-- "sample (i,j,k) has index i + nx·(j + ny·k)"
abbrev pub sample_index : Size → ℕ → ℕ → ℕ → ℕ
sample_index n i j k = index_in n.nx n.ny i j k

abbrev pub sample_count : Size → ℕ
sample_count n = n.nx * (n.ny * n.nz)

-- "Cube (i,j,k) has number i + (nx−1)·(j + (ny−1)·k)"
abbrev pub cube_number : Size → ℕ → ℕ → ℕ → ℕ
cube_number n i j k = index_in (n.nx - 1) (n.ny - 1) i j k

abbrev pub cube_count : Size → ℕ
cube_count n = (n.nx - 1) * ((n.ny - 1) * (n.nz - 1))

-- f of the coordinates of the sample with index p, and of the cube with number c
abbrev pub at_sample : {A : Type 0} → Size → (ℕ → ℕ → ℕ → A) → ℕ → A
at_sample n f p = f (p % n.nx) (p / n.nx % n.ny) (p / n.nx / n.ny)

abbrev pub at_cube : {A : Type 0} → Size → (ℕ → ℕ → ℕ → A) → ℕ → A
at_cube n f c = f (c % (n.nx - 1)) (c / (n.nx - 1) % (n.ny - 1)) (c / (n.nx - 1) / (n.ny - 1))

-- an edge of the block is named by the axis along which it runs and by its lower sample
pub data Axis : Type 0 where
  X Y Z : Axis
