-- The coordinates of a cube by its number lie in the box, and its corners are samples of the block.
-- Assumes nothing.
use Prim.Native.Nat.{ℕ, ◌+◌, ◌*◌, ◌-◌, ◌<◌}
use mathlib.Core.List.{List}
use native.Mathlib.Omega.{arith}
use lib.ListN.{length}
use Rattle.laws.proofs.Index.{index_box, index_lt}
use Rattle.block.specs.declared.Size.{Size}
use Rattle.block.specs.Numbering.{X, Y, Z, sample_index, cube_count}
use Rattle.block.specs.Steps.{Sampled}
use Rattle.mesh_rule.specs.Orientation.{coordinate}

-- the coordinates are those of a cube of the block
pub cube_inside_lem : (n : Size) (c : ℕ) → c < cube_count n → (coordinate n X c < n.nx - 1) × (coordinate n Y c < n.ny - 1) × (coordinate n Z c < n.nz - 1)
cube_inside_lem n c h = index_box (n.nx - 1) (n.ny - 1) (n.nz - 1) c h

-- ---- the corners

module _ (n : Size) (s : List ℕ) (b : Sampled n s) (c : ℕ) (h : c < cube_count n) where
  abbrev i : ℕ
  i = coordinate n X c

  abbrev j : ℕ
  j = coordinate n Y c

  abbrev k : ℕ
  k = coordinate n Z c

  -- the last corner is a sample
  pub last_inside : sample_index n i j k + n.nx * n.ny + n.nx + 1 < length s
  last_inside =
      let r = cube_inside_lem n c h in
      rw b.samples
      (next n.nx n.ny i j k (index_lt n.nx n.ny (i + 1) (j + 1) (k + 1) (omega (arith, r.0)) (omega (arith, r.1)) n.nz (omega (arith, r.2))))
    where
      next : (w h i j k : ℕ) {m : ℕ} → i + 1 + w * (j + 1 + h * (k + 1)) < m → i + w * (j + h * k) + w * h + w + 1 < m
      next w h i j k l = omega arith
