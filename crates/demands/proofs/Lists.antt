-- The quads of a mesh pass rows 7 and 14: there are four numbers a quad, and each is that of a vertex.
use Prim.Native.Nat.{ℕ, ◌*◌, ◌/◌}
use mathlib.Core.Path.{◌≡◌}
use mathlib.Core.List.{List}
use native.Mathlib.Omega.{arith}
use lib.ListN.{length}
use borrow.Author.Tests.{lt-ltb}
use Rattle.laws.proofs.Leading.{HoldsTo}
use Rattle.block.specs.declared.Cut.{Cut}
use Rattle.block.specs.declared.Checked.TheVariants.{Passes}
use Rattle.block.specs.declared.Size.{Size}
use Rattle.block.proofs.Searches.{search_passes}
use Rattle.lists.specs.Rows.{length_row, quad_below, number_row}
use Rattle.lists.proofs.Rows.{length_exactly}
use Rattle.cube_rule.specs.Decider.{joined, loops_of}
use Rattle.cube_rule.proofs.Laws.{cube_laws}
use Rattle.mesh_rule.specs.Buffers.{mesh_quads}
use Rattle.mesh_rule.specs.Mesh.{vertices, quads}
use Rattle.mesh_rule.proofs.Quads.{flat_length, quad_numbers, quad_inside}

module _ (n : Size) (s : List ℕ) (cut : Cut) where
  flat_quads : length (mesh_quads loops_of n s cut) ≡ 4 * length (quads loops_of n s cut)
  unfolding mesh_quads
  flat_quads = flat_length (quads loops_of n s cut)

  pub quads_whole : length_row (mesh_quads loops_of n s cut) ≡ Passes
  quads_whole = (length_exactly (mesh_quads loops_of n s cut)).1 (omega (arith, flat_quads))

  numbers_pass : (c : ℕ) → c ≡ length (vertices loops_of n s cut) → HoldsTo (quad_below c (mesh_quads loops_of n s cut)) (length (mesh_quads loops_of n s cut) / 4)
  unfolding mesh_quads
  numbers_pass c e q h =
      let b = quad_inside loops_of n s cut (cube_laws joined) (quad_numbers (quads loops_of n s cut) q (omega (arith, h, flat_quads))) in
      rw (e, lt-ltb _ _ b.0, lt-ltb _ _ b.1, lt-ltb _ _ b.2, lt-ltb _ _ b.3)

  -- of so many vertices as the mesh has
  pub quads_known : (c : ℕ) → c ≡ length (vertices loops_of n s cut) → number_row c (mesh_quads loops_of n s cut) ≡ Passes
  quads_known c e = search_passes 14 _ _ (numbers_pass c e)
