-- The largest counts of the program's blocks, which have at most 8 samples an axis: four vertices in each of 7³ cubes, and one quad for
-- each inner edge.
-- Assumes nothing.
use Prim.Native.Nat.{ℕ, ◌-◌, ◌≤◌}
use mathlib.Core.List.{List}
use native.Mathlib.Omega.{arith}
use lib.ListN.{length}
use Rattle.block.specs.declared.Cut.{Cut}
use Rattle.block.specs.declared.Size.{Size}
use Rattle.block.proofs.Products.{product_le}
use Rattle.cube_rule.specs.Decider.{joined, loops_of}
use Rattle.cube_rule.proofs.Laws.{cube_laws}
use Rattle.mesh_rule.specs.Mesh.{vertices, quads}
use Rattle.mesh_rule.proofs.Counts.{vertices_le_cubes, quads_le_inner}

module _ (n : Size) (s : List ℕ) (cut : Cut) (hx : n.nx ≤ 8) (hy : n.ny ≤ 8) (hz : n.nz ≤ 8) where
  -- four in each of 7 · 7 · 7 cubes
  pub few_vertices : length (vertices loops_of n s cut) ≤ 1372
  few_vertices =
      omega (
        arith,
        vertices_le_cubes loops_of n s cut (cube_laws joined),
        product_le (n.nx - 1) (n.ny - 1) (n.nz - 1) 7 7 7 (omega arith) (omega arith) (omega arith),
      )

  -- three times 7 · 6 · 6
  pub few_quads : length (quads loops_of n s cut) ≤ 756
  few_quads =
      omega (
        arith,
        quads_le_inner loops_of n s cut,
        product_le (n.nx - 1) (n.ny - 2) (n.nz - 2) 7 6 6 (omega arith) (omega arith) (omega arith),
        product_le (n.nx - 2) (n.ny - 1) (n.nz - 2) 6 7 6 (omega arith) (omega arith) (omega arith),
        product_le (n.nx - 2) (n.ny - 2) (n.nz - 1) 6 6 7 (omega arith) (omega arith) (omega arith),
      )
