-- Meshes from the foundry beside the mesh of 01's block, computed (document 02, Twelve): those that are ours, each fault by itself, which fault is named where
-- there are two, and what the code looks at: places of words, the highest of four, and quads begun elsewhere.
-- Assumes nothing.
use Prim.Native.Nat.{ℕ}
use mathlib.Core.Path.{◌≡◌, refl}
use mathlib.Core.Bool.{Bool, true, false}
use mathlib.Core.List.{List, [], ◌∷◌, ◌++◌}
use lib.Count.{ones, count_trailing_zeros}
use lib.IntN.{pos, negsuc}
use lib.Ieee.{Float, nan, inf, fin, add, div, of_int}
use lib.ListN.{replicate, set, take, drop}
use lib.Seq.{sets}
use Rattle.laws.specs.Below.{below}
use Rattle.laws.specs.Bits.{mask_of}
use Rattle.laws.specs.Filled.{filled}
use Rattle.laws.specs.Leading.{leading}
use Rattle.block.specs.Grey.{ceiling}
use Rattle.block.specs.Rows.{lowest}
use Rattle.cube_rule.specs.Decider.{joined, loops_of}
use Rattle.cube_rule.specs.Edges.{pattern_of, crossed_mask}
use Rattle.cube_rule.specs.Loops.{grow, loop_from, loops_from, loops_by}
use Rattle.place.specs.Place.{plus_zero, one, place_of}
use Rattle.vertex_lists.specs.Rows.{from_zero_to_one}
use Rattle.mesh_rule.specs.Buffers.{mesh_words, mesh_offsets, mesh_quads}
use Rattle.mesh_rule.specs.Grid.{corners_of}
use Rattle.mesh_rule.specs.Mesh.{Quad, quad, vertices_of, vertices_before, vertices, vertex_number, quad_at, quads_before, quads}
use Rattle.mesh_rule.proofs.Example.{size, cut, samples}
use Rattle.foundry_rule.specs.Judged.{Comparison, same, vertex_at_fault, quad_at_fault, some_missing, compared}
use Rattle.foundry_rule.specs.Spots.{among, own_word, place_in, highest_of, vertex_key, led, fits, quad_key}

-- ---- our mesh

-- cube and word of each vertex, the numbers of each quad, and the offsets of each vertex
abbrev our_words : List ℕ
our_words = 0 ∷ 0x888 ∷ 1 ∷ 0x448 ∷ 2 ∷ 0x284 ∷ 3 ∷ 0x144 ∷ 4 ∷ 0x822 ∷ 5 ∷ 0x412 ∷ 6 ∷ 0x221 ∷ 7 ∷ 0x111 ∷ []

abbrev our_quads : List ℕ
our_quads = 0 ∷ 4 ∷ 6 ∷ 2 ∷ 1 ∷ 3 ∷ 7 ∷ 5 ∷ 0 ∷ 1 ∷ 5 ∷ 4 ∷ 2 ∷ 6 ∷ 7 ∷ 3 ∷ 0 ∷ 2 ∷ 3 ∷ 1 ∷ 4 ∷ 5 ∷ 7 ∷ 6 ∷ []

abbrev quarter : Float
quarter = fin false 1 (negsuc 1)

abbrev three_quarters : Float
three_quarters = fin false 3 (negsuc 1)

abbrev our_offsets : List Float
our_offsets =
    three_quarters ∷ three_quarters ∷ three_quarters ∷ quarter ∷ three_quarters ∷ three_quarters
    ∷ three_quarters ∷ quarter ∷ three_quarters ∷ quarter ∷ quarter ∷ three_quarters
    ∷ three_quarters ∷ three_quarters ∷ quarter ∷ quarter ∷ three_quarters ∷ quarter
    ∷ three_quarters ∷ quarter ∷ quarter ∷ quarter ∷ quarter ∷ quarter ∷ []

-- the lists are those of 01's block: three samples along each axis, 400 in the middle and 0 elsewhere, t = 100
pub record OurLists : Type 0 where
  pub words : mesh_words loops_of (size 3) samples cut ≡ our_words
  pub offsets : mesh_offsets loops_of (size 3) samples cut ≡ our_offsets
  pub quads : mesh_quads loops_of (size 3) samples cut ≡ our_quads

pub our_lists : OurLists
unfolding mesh_words mesh_offsets mesh_quads quads quads_before quad_at vertex_number lowest vertices vertices_before vertices_of corners_of below loops_by joined pattern_of crossed_mask loops_from loop_from grow mask_of count_trailing_zeros place_of add div of_int ones
our_lists = record { words = refl; offsets = refl; quads = refl }

-- what is found of a mesh beside it: of any, of one with other words, with other offsets, and with other quads
abbrev found : List ℕ → List Float → List ℕ → Comparison
found words offsets quads = compared our_words our_quads words offsets quads

abbrev of_words : List ℕ → Comparison
of_words words = found words our_offsets our_quads

abbrev of_offsets : List Float → Comparison
of_offsets offsets = found our_words offsets our_quads

abbrev of_quads : List ℕ → Comparison
of_quads quads = found our_words our_offsets quads

-- ---- meshes that are ours

-- our vertices from last to first: our vertex v is vertex 7 − v
abbrev reversed_words : List ℕ
reversed_words = 7 ∷ 0x111 ∷ 6 ∷ 0x221 ∷ 5 ∷ 0x412 ∷ 4 ∷ 0x822 ∷ 3 ∷ 0x144 ∷ 2 ∷ 0x284 ∷ 1 ∷ 0x448 ∷ 0 ∷ 0x888 ∷ []

-- our quads 5, 3, 1, 4, 0 and 2 with these numbers, begun 1, 2, 3, 0, 1 and 2 vertices later
abbrev renamed_quads : List ℕ
renamed_quads = 2 ∷ 0 ∷ 1 ∷ 3 ∷ 0 ∷ 4 ∷ 5 ∷ 1 ∷ 2 ∷ 6 ∷ 4 ∷ 0 ∷ 7 ∷ 5 ∷ 4 ∷ 6 ∷ 3 ∷ 1 ∷ 5 ∷ 7 ∷ 2 ∷ 3 ∷ 7 ∷ 6 ∷ []

pub record Same : Type 0 where
  pub itself : found our_words our_offsets our_quads ≡ same
  pub reversed : found reversed_words our_offsets renamed_quads ≡ same
  -- offsets are not compared with ours: all at the ends of what passes, and minus zero
  pub at_ends : of_offsets (replicate 12 plus_zero ++ replicate 12 one) ≡ same
  pub minus_zero : of_offsets (set our_offsets 0 (fin true 0 (pos 0))) ≡ same
  -- beside a block without a vertex
  pub none_of_none : compared [] [] [] [] [] ≡ same

pub the_same : Same
unfolding compared leading from_zero_to_one
the_same = record { itself = refl; reversed = refl; at_ends = refl; minus_zero = refl; none_of_none = refl }

-- ---- a vertex at fault

pub record VertexFaults : Type 0 where
  -- the word of vertex 0: one edge more, and our mask with a mark
  pub other_mask : of_words (set our_words 1 0x889) ≡ vertex_at_fault 0
  pub marked : of_words (set our_words 1 0x1888) ≡ vertex_at_fault 0
  -- our vertex 3 also as vertex 4; and as vertex 2, so that the second of the two is vertex 3 itself
  pub twice : of_words (sets our_words 8 (3 ∷ 0x144 ∷ [])) ≡ vertex_at_fault 4
  pub again : of_words (sets our_words 4 (3 ∷ 0x144 ∷ [])) ≡ vertex_at_fault 3
  -- the word of one cube in another, and the first number past the last cube
  pub other_cube : of_words (set our_words 12 5) ≡ vertex_at_fault 6
  pub past_last : of_words (set our_words 14 8) ≡ vertex_at_fault 7
  -- one vertex more than we have, of eight and of none
  pub one_more : found (our_words ++ 7 ∷ 0x888 ∷ []) (our_offsets ++ one ∷ one ∷ one ∷ []) our_quads ≡ vertex_at_fault 8
  pub of_none : compared [] [] (0 ∷ 0x888 ∷ []) (one ∷ one ∷ one ∷ []) [] ≡ vertex_at_fault 0
  -- offsets: a NaN along each axis, the next above one, the greatest below zero, and the infinities
  pub nan_x : of_offsets (set our_offsets 15 nan) ≡ vertex_at_fault 5
  pub nan_y : of_offsets (set our_offsets 16 nan) ≡ vertex_at_fault 5
  pub nan_z : of_offsets (set our_offsets 17 nan) ≡ vertex_at_fault 5
  pub above_one : of_offsets (set our_offsets 6 (fin false 4503599627370497 (negsuc 51))) ≡ vertex_at_fault 2
  pub below_zero : of_offsets (set our_offsets 23 (fin true 1 (negsuc 1073))) ≡ vertex_at_fault 7
  pub infinite : of_offsets (set our_offsets 0 (inf false)) ≡ vertex_at_fault 0
  pub minus_infinite : of_offsets (set our_offsets 0 (inf true)) ≡ vertex_at_fault 0

pub vertex_faults : VertexFaults
unfolding compared leading from_zero_to_one
vertex_faults = record {
  other_mask = refl;
  marked = refl;
  twice = refl;
  again = refl;
  other_cube = refl;
  past_last = refl;
  one_more = refl;
  of_none = refl;
  nan_x = refl;
  nan_y = refl;
  nan_z = refl;
  above_one = refl;
  below_zero = refl;
  infinite = refl;
  minus_infinite = refl;
}

-- ---- a quad at fault

pub record QuadFaults : Type 0 where
  -- quad 2 with second and fourth exchanged, as it is for the other sign, and so that it crosses itself
  pub mirrored : of_quads (sets our_quads 8 (0 ∷ 4 ∷ 5 ∷ 1 ∷ [])) ≡ quad_at_fault 2
  pub crossing : of_quads (sets our_quads 8 (0 ∷ 5 ∷ 1 ∷ 4 ∷ [])) ≡ quad_at_fault 2
  -- quad 1 once more, begun elsewhere: after all others, and in the place of quad 4
  pub twice : of_quads (our_quads ++ 3 ∷ 7 ∷ 5 ∷ 1 ∷ []) ≡ quad_at_fault 6
  pub in_place : of_quads (sets our_quads 16 (5 ∷ 1 ∷ 3 ∷ 7 ∷ [])) ≡ quad_at_fault 4
  -- a vertex twice, four times, and a vertex of another face
  pub vertex_twice : of_quads (sets our_quads 16 (0 ∷ 2 ∷ 2 ∷ 1 ∷ [])) ≡ quad_at_fault 4
  pub one_vertex : of_quads (sets our_quads 0 (0 ∷ 0 ∷ 0 ∷ 0 ∷ [])) ≡ quad_at_fault 0
  pub other_vertex : of_quads (set our_quads 23 2) ≡ quad_at_fault 5
  -- our own numbers, where the vertices have others
  pub not_renamed : found reversed_words our_offsets (take 16 renamed_quads ++ 0 ∷ 4 ∷ 6 ∷ 2 ∷ []) ≡ quad_at_fault 4

pub quad_faults : QuadFaults
unfolding compared leading from_zero_to_one
quad_faults = record {
  mirrored = refl;
  crossing = refl;
  twice = refl;
  in_place = refl;
  vertex_twice = refl;
  one_vertex = refl;
  other_vertex = refl;
  not_renamed = refl;
}

-- ---- no fault, but some of ours are missing

pub record Missings : Type 0 where
  pub last_quad : of_quads (take 20 our_quads) ≡ some_missing
  pub first_quad : of_quads (drop 4 our_quads) ≡ some_missing
  pub all_quads_lem : of_quads [] ≡ some_missing
  -- vertex 7 and the three quads that use it
  pub vertex_and_quads : found (take 14 our_words) (take 21 our_offsets) (0 ∷ 4 ∷ 6 ∷ 2 ∷ 0 ∷ 1 ∷ 5 ∷ 4 ∷ 0 ∷ 2 ∷ 3 ∷ 1 ∷ []) ≡ some_missing
  pub all : found [] [] [] ≡ some_missing
  -- a vertex that no quad uses is missed too
  pub unused_vertex : compared (0 ∷ 0x111 ∷ []) [] [] [] [] ≡ some_missing

pub missings : Missings
unfolding compared leading from_zero_to_one
missings = record { last_quad = refl; first_quad = refl; all_quads_lem = refl; vertex_and_quads = refl; all = refl; unused_vertex = refl }

-- ---- two faults at once

pub record Orders : Type 0 where
  -- the last vertex and the first quad: the vertex
  pub vertex_quad : found (set our_words 15 0x888) our_offsets (sets our_quads 0 (0 ∷ 2 ∷ 6 ∷ 4 ∷ [])) ≡ vertex_at_fault 7
  pub offset_quad : found our_words (set our_offsets 21 nan) (sets our_quads 0 (0 ∷ 2 ∷ 6 ∷ 4 ∷ [])) ≡ vertex_at_fault 7
  -- a vertex, and quads that are missing: the vertex
  pub vertex_missing : found (set our_words 15 0x888) our_offsets [] ≡ vertex_at_fault 7
  -- a quad, and one that is missing: the quad
  pub quad_missing : of_quads (take 20 (sets our_quads 8 (0 ∷ 4 ∷ 5 ∷ 1 ∷ []))) ≡ quad_at_fault 2
  -- two vertices, of whichever faults: the first; and two quads
  pub two_vertices : found (set our_words 13 0) (set our_offsets 4 nan) our_quads ≡ vertex_at_fault 1
  pub offset_later : found (set our_words 3 0) (set our_offsets 18 nan) our_quads ≡ vertex_at_fault 1
  pub two_quads : of_quads (sets our_quads 12 (1 ∷ 3 ∷ 7 ∷ 5 ∷ 0 ∷ 1 ∷ 2 ∷ 3 ∷ [])) ≡ quad_at_fault 3

pub orders : Orders
unfolding compared leading from_zero_to_one
orders = record {
  vertex_quad = refl;
  offset_quad = refl;
  vertex_missing = refl;
  quad_missing = refl;
  two_vertices = refl;
  offset_later = refl;
  two_quads = refl;
}

-- ---- vertices and quads by cubes and words alone

-- the block with its last sample at the detector's ceiling: cube 7 has two vertices, 0x1111 and 0x1888
abbrev marked : List ℕ
marked = set samples 26 ceiling

pub record Places : Type 0 where
  pub first_cube : place_in (size 3) samples cut 0 0x888 ≡ 0
  pub last_cube : place_in (size 3) samples cut 7 0x111 ≡ 0
  pub other_mask : place_in (size 3) samples cut 0 0x889 ≡ 4
  pub zero_word : place_in (size 3) samples cut 0 0 ≡ 4
  pub other_cube : place_in (size 3) samples cut 1 0x888 ≡ 4
  pub past_last : place_in (size 3) samples cut 8 0x888 ≡ 4
  pub not_marked : place_in (size 3) samples cut 7 0x1111 ≡ 4
  pub first_of_two : place_in (size 3) marked cut 7 0x1111 ≡ 0
  pub second_of_two : place_in (size 3) marked cut 7 0x1888 ≡ 1
  pub mark_left_out : place_in (size 3) marked cut 7 0x111 ≡ 4
  pub mark_alone : place_in (size 3) marked cut 7 0x1000 ≡ 4
  -- so say the words of the cube
  pub own : own_word (size 3) marked cut 7 0x1888 ≡ true
  pub not_own : own_word (size 3) marked cut 7 0x888 ≡ false
  pub own_past_last : own_word (size 3) samples cut 8 0x888 ≡ false
  -- numbers of vertices: 4 for each cube, and the place
  pub key_of_first : vertex_key our_words (size 3) samples cut 0 ≡ 0
  pub key_of_last : vertex_key our_words (size 3) samples cut 7 ≡ 28
  pub key_of_second : vertex_key (7 ∷ 0x1888 ∷ []) (size 3) marked cut 0 ≡ 29

pub places : Places
unfolding place_in among filled corners_of loops_by joined pattern_of crossed_mask loops_from loop_from grow mask_of count_trailing_zeros
places = record {
  first_cube = refl;
  last_cube = refl;
  other_mask = refl;
  zero_word = refl;
  other_cube = refl;
  past_last = refl;
  not_marked = refl;
  first_of_two = refl;
  second_of_two = refl;
  mark_left_out = refl;
  mark_alone = refl;
  own = refl;
  not_own = refl;
  own_past_last = refl;
  key_of_first = refl;
  key_of_last = refl;
  key_of_second = refl;
}

-- whether a quad of our vertices, begun as it should be, lies round a crossed inner edge; and its number
abbrev laid : Quad → Bool
laid q = fits our_words (size 3) samples cut (led our_words q)

abbrev key : Quad → ℕ
key q = quad_key our_words (size 3) 8 q

pub record Turns : Type 0 where
  -- the highest of four in each place, and the first of equal ones
  pub in_first : highest_of 6 2 0 4 ≡ 0
  pub in_second : highest_of 4 6 2 0 ≡ 1
  pub in_third : highest_of 0 4 6 2 ≡ 2
  pub in_fourth : highest_of 2 0 4 6 ≡ 3
  pub all_equal : highest_of 5 5 5 5 ≡ 0
  pub second_and_third : highest_of 1 5 5 0 ≡ 1
  pub third_and_fourth : highest_of 1 0 5 5 ≡ 2
  -- quad 0, begun at each of its vertices
  pub led_0 : led our_words (quad 0 4 6 2) ≡ quad 0 4 6 2
  pub led_1 : led our_words (quad 4 6 2 0) ≡ quad 0 4 6 2
  pub led_2 : led our_words (quad 6 2 0 4) ≡ quad 0 4 6 2
  pub led_3 : led our_words (quad 2 0 4 6) ≡ quad 0 4 6 2
  -- by cubes, not by numbers of vertices
  pub led_reversed : led reversed_words (quad 1 5 7 3) ≡ quad 7 3 1 5
  -- one quad along each axis and way, begun elsewhere, and mirrored
  pub laid_x_low : laid (quad 4 6 2 0) ≡ true
  pub laid_x_high : laid (quad 7 5 1 3) ≡ true
  pub laid_y_low : laid (quad 4 0 1 5) ≡ true
  pub laid_y_high : laid (quad 6 7 3 2) ≡ true
  pub laid_z_low : laid (quad 3 1 0 2) ≡ true
  pub laid_z_high : laid (quad 6 4 5 7) ≡ true
  pub mirrored_x : laid (quad 0 2 6 4) ≡ false
  pub mirrored_y : laid (quad 2 3 7 6) ≡ false
  pub mirrored_z : laid (quad 4 6 7 5) ≡ false
  pub vertex_twice : laid (quad 0 2 2 1) ≡ false
  -- numbers of quads: 8 for each axis, and the third vertex; however the quad is begun
  pub key_0 : key (quad 0 4 6 2) ≡ 6
  pub key_1 : key (quad 1 3 7 5) ≡ 7
  pub key_2 : key (quad 0 1 5 4) ≡ 13
  pub key_3 : key (quad 2 6 7 3) ≡ 15
  pub key_4 : key (quad 0 2 3 1) ≡ 19
  pub key_5 : key (quad 4 5 7 6) ≡ 23
  pub key_turned : key (quad 6 4 5 7) ≡ 23

pub turns : Turns
unfolding fits
turns = record {
  in_first = refl;
  in_second = refl;
  in_third = refl;
  in_fourth = refl;
  all_equal = refl;
  second_and_third = refl;
  third_and_fourth = refl;
  led_0 = refl;
  led_1 = refl;
  led_2 = refl;
  led_3 = refl;
  led_reversed = refl;
  laid_x_low = refl;
  laid_x_high = refl;
  laid_y_low = refl;
  laid_y_high = refl;
  laid_z_low = refl;
  laid_z_high = refl;
  mirrored_x = refl;
  mirrored_y = refl;
  mirrored_z = refl;
  vertex_twice = refl;
  key_0 = refl;
  key_1 = refl;
  key_2 = refl;
  key_3 = refl;
  key_4 = refl;
  key_5 = refl;
  key_turned = refl;
}
