-- Blocks whose mesh is computed: that of document 01, "The program", also with a sample at the ceiling; metal round a ceiling; one with a vertex that no
-- quad uses, and one with its metal on a face.
-- Assumes nothing.
use Prim.Native.Nat.{ℕ}
use mathlib.Core.Path.{◌≡◌, refl}
use mathlib.Core.List.{List, [], ◌∷◌, ◌++◌}
use lib.ListN.{replicate}
use lib.Count.{count_trailing_zeros}
use Rattle.laws.specs.Below.{below}
use Rattle.laws.specs.Bits.{mask_of}
use Rattle.block.specs.declared.Cut.{Cut}
use Rattle.block.specs.declared.Size.{Size}
use Rattle.block.specs.Grey.{ceiling}
use Rattle.block.specs.Rows.{lowest}
use Rattle.cube_rule.specs.Edges.{pattern_of, crossed_mask}
use Rattle.cube_rule.specs.Loops.{grow, loop_from, loops_from, loops_by}
use Rattle.cube_rule.specs.Decider.{joined, loops_of}
use Rattle.mesh_rule.specs.Buffers.{mesh_words}
use Rattle.mesh_rule.specs.Grid.{corners_of}
use Rattle.mesh_rule.specs.Mesh.{Vertex, flat, vertices_of, vertices_before, vertices, vertex_number, quad_at, quads_before, quads}

abbrev pub size : ℕ → Size
size n = record { nx = n; ny = n; nz = n }

abbrev pub cut : Cut
cut = record { t = 100; noise = 0 }

abbrev vertex : ℕ → ℕ → Vertex
vertex c m = record { cube = c; mask = m }

-- three samples along each axis, 400 in the middle and 0 elsewhere, t = 100
abbrev pub samples : List ℕ
samples = replicate 13 0 ++ 400 ∷ replicate 13 0

pub the_vertices : vertices loops_of (size 3) samples cut
    ≡ vertex 0 0x888 ∷ vertex 1 0x448 ∷ vertex 2 0x284 ∷ vertex 3 0x144 ∷ vertex 4 0x822 ∷ vertex 5 0x412 ∷ vertex 6 0x221 ∷ vertex 7 0x111 ∷ []
unfolding vertices vertices_before vertices_of corners_of below loops_by joined pattern_of crossed_mask loops_from loop_from grow mask_of count_trailing_zeros
the_vertices = refl

pub the_quads : flat (quads loops_of (size 3) samples cut)
    ≡ 0 ∷ 4 ∷ 6 ∷ 2 ∷ 1 ∷ 3 ∷ 7 ∷ 5 ∷ 0 ∷ 1 ∷ 5 ∷ 4 ∷ 2 ∷ 6 ∷ 7 ∷ 3 ∷ 0 ∷ 2 ∷ 3 ∷ 1 ∷ 4 ∷ 5 ∷ 7 ∷ 6 ∷ []
unfolding quads quads_before quad_at vertex_number lowest vertices_before vertices_of corners_of below loops_by joined pattern_of crossed_mask loops_from loop_from grow mask_of count_trailing_zeros
the_quads = refl

-- the same block with its last sample at the detector's ceiling: cube 7 has one vertex more, and both its vertices carry the mark
pub the_marked : mesh_words loops_of (size 3) (replicate 13 0 ++ 400 ∷ replicate 12 0 ++ ceiling ∷ []) cut
    ≡ 0 ∷ 0x888 ∷ 1 ∷ 0x448 ∷ 2 ∷ 0x284 ∷ 3 ∷ 0x144 ∷ 4 ∷ 0x822 ∷ 5 ∷ 0x412 ∷ 6 ∷ 0x221 ∷ 7 ∷ 0x1111 ∷ 7 ∷ 0x1888 ∷ []
unfolding mesh_words vertices vertices_before vertices_of corners_of below loops_by joined pattern_of crossed_mask loops_from loop_from grow mask_of count_trailing_zeros
the_marked = refl

-- metal with one sample at the ceiling in its middle: no vertex, so no mark
pub metal_round_ceiling : vertices loops_of (size 3) (replicate 13 200 ++ ceiling ∷ replicate 13 200) cut ≡ []
unfolding vertices vertices_before vertices_of corners_of below loops_by joined pattern_of crossed_mask loops_from loop_from grow mask_of count_trailing_zeros
metal_round_ceiling = refl

-- one metal sample at the corner of the smallest block: its one vertex is on no inner edge
pub unused_vertex : vertices loops_of (size 2) (400 ∷ replicate 7 0) cut ≡ vertex 0 0x111 ∷ []
unfolding vertices vertices_before vertices_of corners_of below loops_by joined pattern_of crossed_mask loops_from loop_from grow mask_of count_trailing_zeros
unused_vertex = refl

-- one metal sample, (1,1,2), in the middle of the last face along z: of its five edges only the one along z, from (1,1,1), is inner
pub on_a_face : flat (quads loops_of (size 3) (replicate 22 0 ++ 400 ∷ replicate 4 0) cut) ≡ 0 ∷ 2 ∷ 3 ∷ 1 ∷ []
unfolding quads quads_before quad_at vertex_number lowest vertices_before vertices_of corners_of below loops_by joined pattern_of crossed_mask loops_from loop_from grow mask_of count_trailing_zeros
on_a_face = refl
