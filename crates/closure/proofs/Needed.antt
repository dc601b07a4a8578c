-- How much memory `closed_with` needs for a mesh: no more than a word for each vertex and one for each side.
-- Assumes nothing.
use Prim.Native.Nat.{ℕ, ◌+◌, ◌*◌, ◌≤◌, ◌<◌}
use mathlib.Core.Path.{refl}
use mathlib.Core.List.{List, [], ◌∷◌, Memᴰ}
use native.Mathlib.Omega.{arith}
use lib.ListN.{length}
use Rattle.block.specs.declared.Cut.{Cut}
use Rattle.block.specs.declared.Size.{Size}
use Rattle.cube_rule.specs.Decider.{joined, loops_of}
use Rattle.cube_rule.proofs.Laws.{cube_laws}
use Rattle.mesh_rule.specs.Buffers.{mesh_quads}
use Rattle.mesh_rule.specs.Mesh.{Quad, flat, vertices, quads}
use Rattle.mesh_rule.proofs.Quads.{flat_length, quad_inside}
use Rattle.closed.specs.Chains.{top_number, words_needed}

top_flat : (qs : List Quad) (m : ℕ) → ((q : Quad) → Memᴰ q qs → (q.v0 < m) × (q.v1 < m) × (q.v2 < m) × (q.v3 < m)) → top_number (flat qs) ≤ m
unfolding top_number
top_flat [] m h = omega arith
top_flat (q ∷ qs) m h = omega (arith, h q (Memᴰ.head refl), top_flat qs m (λ p i. h p (Memᴰ.tail i)))

pub words_enough : (n : Size) (s : List ℕ) (cut : Cut) → words_needed (mesh_quads loops_of n s cut) ≤ length (vertices loops_of n s cut) + 4 * length (quads loops_of n s cut)
unfolding mesh_quads
words_enough n s cut =
    omega (arith, flat_length (quads loops_of n s cut), top_flat (quads loops_of n s cut) (length (vertices loops_of n s cut)) (λ q m. quad_inside loops_of n s cut (cube_laws joined) m))
