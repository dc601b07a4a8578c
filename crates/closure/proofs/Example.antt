-- Two samples that are joined across a doubtful face: 4 by 4 by 3 samples, 300 at (1,1,1) and (2,2,1) and 0 elsewhere, t = 100. Two of its vertices, 3 and 10,
-- are joined by four quads. Then a pore of two, 0 at the same places and 150 elsewhere; and a block with metal on a face of the box, whose mesh is open.
-- Assumes nothing.
use Prim.Native.Nat.{ℕ}
use mathlib.Core.Path.{◌≡◌, refl, ap, ◌∙◌}
use mathlib.Core.Bool.{Bool, true, false, not, ◌&&◌, false≢true}
use mathlib.Core.List.{List, [], ◌∷◌, ◌++◌}
use lib.Count.{count_trailing_zeros}
use lib.Dec.{T}
use lib.ListN.{length, replicate}
use Rattle.laws.specs.Below.{below}
use Rattle.laws.specs.Bits.{mask_of}
use Rattle.laws.specs.Counting.{count}
use Rattle.laws.specs.Leading.{leading}
use Rattle.laws.proofs.Tests as tests
use Rattle.block.specs.declared.Cut.{Cut}
use Rattle.block.specs.declared.Size.{Size}
use Rattle.block.specs.Rows.{lowest}
use Rattle.cube_rule.specs.Edges.{pattern_of, crossed_mask}
use Rattle.cube_rule.specs.Loops.{grow, loop_from, loops_from, loops_by}
use Rattle.cube_rule.specs.Decider.{joined, loops_of}
use Rattle.mesh_rule.specs.Buffers.{mesh_quads}
use Rattle.mesh_rule.specs.Grid.{metal, corners_of}
use Rattle.mesh_rule.specs.Mesh.{vertices_of, vertices_before, vertices, vertex_number, quad_at, quads_before, quads}
use Rattle.closed.specs.Closed.{walks, all_sound, open_at, finding_of}
use Rattle.closure.specs.Faces.{on_box_face, FacesAre}

abbrev size : Size
size = record { nx = 4; ny = 4; nz = 3 }

abbrev cut : Cut
cut = record { t = 100; noise = 0 }

-- one value at (1,1,1) and (2,2,1), and another elsewhere
abbrev pair : ℕ → ℕ → List ℕ
pair two others = replicate 21 others ++ two ∷ replicate 4 others ++ two ∷ replicate 21 others

-- ---- three meshes

-- of two samples of metal
abbrev twelve : List ℕ
twelve =
    0 ∷ 7 ∷ 9 ∷ 2 ∷ 1 ∷ 3 ∷ 10 ∷ 8 ∷ 3 ∷ 10 ∷ 12 ∷ 5 ∷ 4 ∷ 6 ∷ 13 ∷ 11
    ∷ 0 ∷ 1 ∷ 8 ∷ 7 ∷ 2 ∷ 9 ∷ 10 ∷ 3 ∷ 3 ∷ 4 ∷ 11 ∷ 10 ∷ 5 ∷ 12 ∷ 13 ∷ 6
    ∷ 0 ∷ 2 ∷ 3 ∷ 1 ∷ 3 ∷ 5 ∷ 6 ∷ 4 ∷ 7 ∷ 8 ∷ 10 ∷ 9 ∷ 10 ∷ 11 ∷ 13 ∷ 12 ∷ []

-- of a pore of two hollow samples in metal
abbrev pore : List ℕ
pore =
    0 ∷ 2 ∷ 9 ∷ 7 ∷ 1 ∷ 8 ∷ 10 ∷ 3 ∷ 3 ∷ 5 ∷ 12 ∷ 10 ∷ 4 ∷ 11 ∷ 13 ∷ 6
    ∷ 0 ∷ 7 ∷ 8 ∷ 1 ∷ 2 ∷ 3 ∷ 10 ∷ 9 ∷ 3 ∷ 10 ∷ 11 ∷ 4 ∷ 5 ∷ 6 ∷ 13 ∷ 12
    ∷ 0 ∷ 1 ∷ 3 ∷ 2 ∷ 3 ∷ 4 ∷ 6 ∷ 5 ∷ 7 ∷ 9 ∷ 10 ∷ 8 ∷ 10 ∷ 12 ∷ 13 ∷ 11 ∷ []

-- of metal on a face of the box: 3 samples along each axis, 400 at (1,1,2) alone
abbrev three : Size
three = record { nx = 3; ny = 3; nz = 3 }

abbrev on_face : List ℕ
on_face = replicate 22 0 ++ 400 ∷ replicate 4 0

the_meshes : (mesh_quads loops_of size (pair 300 0) cut ≡ twelve) × (mesh_quads loops_of size (pair 0 150) cut ≡ pore) × (mesh_quads loops_of three on_face cut ≡ 0 ∷ 2 ∷ 3 ∷ 1 ∷ [])
unfolding mesh_quads quads quads_before quad_at vertex_number lowest vertices_before vertices_of corners_of below loops_by joined pattern_of crossed_mask loops_from loop_from grow mask_of count_trailing_zeros
the_meshes = (refl, refl, refl)

-- ---- two samples of metal

fourteen : length (vertices loops_of size (pair 300 0) cut) ≡ 14
unfolding vertices vertices_before vertices_of corners_of below loops_by joined pattern_of crossed_mask loops_from loop_from grow mask_of count_trailing_zeros
fourteen = refl

-- a list is closed, and the side between the vertices 3 and 10 is walked twice each way
abbrev ClosedTwice : List ℕ → Type 0
ClosedTwice quads = (walks quads 3 10 ≡ 2) × (walks quads 10 3 ≡ 2) × (finding_of quads ≡ all_sound)

twice : ClosedTwice twelve
unfolding finding_of leading count
twice = (refl, refl, refl)

-- 14 vertices and 12 quads. The side between the vertices 3 and 10, which is side 1 of quad 1, is used four times. So 01's rule, exactly twice, called this
-- mesh open. It is walked twice each way, and the mesh is closed.
pub pore_of_two : (length (vertices loops_of size (pair 300 0) cut) ≡ 14) × (mesh_quads loops_of size (pair 300 0) cut ≡ twelve) × ClosedTwice twelve
pore_of_two = (fourteen, the_meshes.0, twice)

-- its faces are of one sign: no sample on them is metal
hollow_at : ℕ → ℕ → ℕ → Bool
hollow_at i j k = not (on_box_face size i j k && metal size (pair 300 0) cut i j k)

hollow_all : T (tests.below 4 (λ (i : ℕ). tests.below 4 (λ (j : ℕ). tests.below 3 (hollow_at i j))))
unfolding tests.below hollow_at
hollow_all = tt

pub pore_margin : FacesAre false size (pair 300 0) cut
unfolding hollow_at
pore_margin i j k h e =
    let at = tests.below_at 3 _ (tests.below_at 4 _ (tests.below_at 4 _ hollow_all i h.0) j h.1) k h.2 in
    off (on_box_face size i j k) (metal size (pair 300 0) cut i j k) e at
  where
    off : (a b : Bool) → a ≡ true → T (not (a && b)) → b ≡ false
    off true true e t = absurd t
    off true false e t = refl
    off false b e t = absurd (false≢true e)

-- ---- a pore of two hollow samples in metal

pore_twice : ClosedTwice pore
unfolding finding_of leading count
pore_twice = (refl, refl, refl)

pub hollow_of_two : (mesh_quads loops_of size (pair 0 150) cut ≡ pore) × ClosedTwice pore
hollow_of_two = (the_meshes.1, pore_twice)

-- ---- metal on a face of the box

one_quad : finding_of (0 ∷ 2 ∷ 3 ∷ 1 ∷ []) ≡ open_at 0 0
unfolding finding_of leading count
one_quad = refl

pub on_a_face_open : finding_of (mesh_quads loops_of three on_face cut) ≡ open_at 0 0
on_a_face_open = ap finding_of the_meshes.2 ∙ one_quad
