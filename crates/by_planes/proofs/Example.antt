-- A run over the planes of 01's block, computed (document 02, Nine): what each of its three calls writes, each row by itself, and each row before the next.
-- Assumes nothing.
use Rattle.std.proofs.Common.{◌≡◌, ℕ, [], ◌∷◌, ◌++◌, take, drop, replicate, refl}
use lib.Count.{count_trailing_zeros}
use Rattle.laws.specs.Below.{below}
use Rattle.laws.specs.Bits.{mask_of}
use Rattle.block.specs.declared.Checked.{Checked}
use Rattle.block.specs.declared.Checked.TheVariants.{Passes}
use Rattle.block.specs.Answer.{in_order, decided}
use Rattle.block.specs.Rows.{lowest, lowest_row}
use Rattle.block.proofs.Rows.{refusal}
use Rattle.cube_rule.specs.Decider.{joined, loops_of}
use Rattle.cube_rule.specs.Edges.{pattern_of, crossed_mask}
use Rattle.cube_rule.specs.Loops.{grow, loop_from, loops_from, loops_by}
use Rattle.mesh_rule.specs.Buffers.{mesh_offsets}
use Rattle.mesh_rule.specs.Grid.{corners_of}
use Rattle.mesh_rule.specs.Layers.{cube_words, cube_offsets}
use Rattle.mesh_rule.specs.Mesh.{vertices_of, vertices_before, vertices, vertex_number, quad_at}
use Rattle.mesh_rule.proofs.Example.{size, cut, samples}
use Rattle.mesh.specs.declared.Totals.{Totals}
use Rattle.mesh.specs.declared.Counted.TheVariants as counted
use Rattle.by_planes.specs.declared.Stream.{Stream}
use Rattle.by_planes.specs.Answer.{plane_of, part_words, part_offsets, part_quads, part_totals, begun, further, start_rows, call_rows, take_verdict, end_row, FinishAnswered}

abbrev totals : ℕ → ℕ → Totals
totals v q = record { vertices = v; quads = q }

-- ---- the planes, and what the call writes that takes each

pub record Planes : Type 0 where
  pub first : plane_of (size 3) samples 0 ≡ replicate 9 0
  pub second : plane_of (size 3) samples 1 ≡ replicate 4 0 ++ 400 ∷ replicate 4 0
  pub third : plane_of (size 3) samples 2 ≡ replicate 9 0

pub the_planes : Planes
the_planes = record { first = refl; second = refl; third = refl }

-- the first plane writes nothing
pub record FirstCall : Type 0 where
  pub words : part_words (size 3) samples cut 0 ≡ []
  pub offsets : part_offsets (size 3) samples cut 0 ≡ []
  pub quads : part_quads (size 3) samples cut 0 ≡ []
  pub counts : part_totals (size 3) samples cut 0 ≡ totals 0 0

pub first_call : FirstCall
first_call = record { words = refl; offsets = refl; quads = refl; counts = refl }

-- the second writes the vertices 0 to 3, and the quad of the edge along z from (1,1,0)
pub record SecondCall : Type 0 where
  pub words : part_words (size 3) samples cut 1 ≡ 0 ∷ 0x888 ∷ 1 ∷ 0x448 ∷ 2 ∷ 0x284 ∷ 3 ∷ 0x144 ∷ []
  pub offsets : part_offsets (size 3) samples cut 1 ≡ take 12 (mesh_offsets loops_of (size 3) samples cut)
  pub quads : part_quads (size 3) samples cut 1 ≡ 0 ∷ 2 ∷ 3 ∷ 1 ∷ []
  pub counts : part_totals (size 3) samples cut 1 ≡ totals 4 1

pub second_call : SecondCall
unfolding quad_at vertex_number lowest cube_words cube_offsets mesh_offsets vertices vertices_before vertices_of corners_of below loops_by joined pattern_of crossed_mask loops_from loop_from grow mask_of count_trailing_zeros
second_call = record { words = refl; offsets = refl; quads = refl; counts = refl }

-- the third writes the vertices 4 to 7, and the quads of the edges on the second plane, along x and then along y, before that of the edge along z from (1,1,1)
pub record ThirdCall : Type 0 where
  pub words : part_words (size 3) samples cut 2 ≡ 4 ∷ 0x822 ∷ 5 ∷ 0x412 ∷ 6 ∷ 0x221 ∷ 7 ∷ 0x111 ∷ []
  pub offsets : part_offsets (size 3) samples cut 2 ≡ drop 12 (mesh_offsets loops_of (size 3) samples cut)
  pub quads : part_quads (size 3) samples cut 2 ≡ 0 ∷ 4 ∷ 6 ∷ 2 ∷ 1 ∷ 3 ∷ 7 ∷ 5 ∷ 0 ∷ 1 ∷ 5 ∷ 4 ∷ 2 ∷ 6 ∷ 7 ∷ 3 ∷ 4 ∷ 5 ∷ 7 ∷ 6 ∷ []
  pub counts : part_totals (size 3) samples cut 2 ≡ totals 4 5

pub third_call : ThirdCall
unfolding quad_at vertex_number lowest cube_words cube_offsets mesh_offsets vertices vertices_before vertices_of corners_of below loops_by joined pattern_of crossed_mask loops_from loop_from grow mask_of count_trailing_zeros
third_call = record { words = refl; offsets = refl; quads = refl; counts = refl }

-- ---- the states between the calls

abbrev state_at : ℕ → ℕ → ℕ → Stream
state_at v q planes = record { nx = 3; ny = 3; nz = 3; cut = record { t = 100; noise = 0 }; vertices = v; quads = q; planes = planes }

pub record States : Type 0 where
  pub at_first : begun 3 3 3 cut ≡ state_at 0 0 0
  pub after_one : further (state_at 0 0 0) (totals 0 0) ≡ state_at 0 0 1
  pub after_two : further (state_at 0 0 1) (totals 4 1) ≡ state_at 4 1 2
  pub after_three : further (state_at 4 1 2) (totals 4 5) ≡ state_at 8 6 3

pub the_states : States
the_states = record { at_first = refl; after_one = refl; after_two = refl; after_three = refl }

-- ---- an end: after each number of planes but three it is refused with that number, after three it gives both totals

pub record EndRows : Type 0 where
  pub before_all : end_row (state_at 0 0 0) ≡ refusal 18 0
  pub after_one : end_row (state_at 0 0 1) ≡ refusal 18 1
  pub after_two : end_row (state_at 4 1 2) ≡ refusal 18 2
  pub after_three : end_row (state_at 8 6 3) ≡ Passes
  pub refused_two : FinishAnswered (state_at 4 1 2) (counted.Refused (record { number = 18; value = 2 }))
  pub the_totals : FinishAnswered (state_at 8 6 3) (counted.Counts (totals 8 6))

pub end_rows : EndRows
unfolding in_order decided
end_rows = record { before_all = refl; after_one = refl; after_two = refl; after_three = refl; refused_two = refl; the_totals = refl }

-- ---- a start: each row by itself, and each before the next

abbrev start_verdict : ℕ → ℕ → ℕ → ℕ → ℕ → Checked
start_verdict nx ny nz t room = in_order (start_rows nx ny nz (record { t = t; noise = 0 }) room)

pub record StartRows : Type 0 where
  pub none : start_verdict 3 3 3 100 54 ≡ Passes
  pub axis : start_verdict 3 3 1 100 54 ≡ refusal 1 2
  pub threshold : start_verdict 3 3 3 65535 54 ≡ refusal 3 65535
  pub room : start_verdict 3 3 3 100 53 ≡ refusal 15 54
  -- what is needed goes by the plane alone
  pub plane_alone : start_verdict 3 2 4 100 35 ≡ refusal 15 36
  pub axis_threshold : start_verdict 3 3 257 0 54 ≡ refusal 1 2
  pub threshold_room : start_verdict 3 3 3 0 53 ≡ refusal 3 0
  pub axis_room : start_verdict 3 1 3 100 0 ≡ refusal 1 1

pub start_rows_lem : StartRows
unfolding in_order lowest_row lowest
start_rows_lem = record {
  none = refl;
  axis = refl;
  threshold = refl;
  room = refl;
  plane_alone = refl;
  axis_threshold = refl;
  threshold_room = refl;
  axis_room = refl;
}

-- ---- a plane: each row by itself, and each before the next. The third call needs room for 4 vertices and 5 quads.

abbrev call_verdict : Stream → ℕ → ℕ → Checked
call_verdict st count room = in_order (call_rows st count room)

abbrev third_verdict : ℕ → ℕ → ℕ → ℕ → ℕ → Checked
third_verdict count room words offsets quads = take_verdict (state_at 4 1 2) count room (totals 4 5) words offsets quads

-- a state that no start gives
abbrev foreign : ℕ → ℕ → ℕ → Stream
foreign nz t planes = record { nx = 3; ny = 3; nz = nz; cut = record { t = t; noise = 0 }; vertices = 0; quads = 0; planes = planes }

pub record PlaneRows : Type 0 where
  pub none : call_verdict (state_at 0 0 0) 9 54 ≡ Passes
  pub fourth_plane : call_verdict (state_at 8 6 3) 9 54 ≡ refusal 17 3
  pub short_plane : call_verdict (state_at 0 0 0) 8 54 ≡ refusal 2 9
  pub long_plane : call_verdict (state_at 4 1 2) 10 54 ≡ refusal 2 9
  pub short_work : call_verdict (state_at 0 0 0) 9 53 ≡ refusal 15 54
  pub foreign_axis : call_verdict (foreign 257 100 0) 9 54 ≡ refusal 1 2
  pub foreign_threshold : call_verdict (foreign 3 0 0) 9 54 ≡ refusal 3 0
  pub axis_threshold : call_verdict (foreign 1 0 1) 9 54 ≡ refusal 1 2
  pub threshold_past : call_verdict (foreign 3 0 3) 9 54 ≡ refusal 3 0
  -- a plane too many, of the wrong length: 17 before 2
  pub past_plane : call_verdict (state_at 8 6 3) 8 54 ≡ refusal 17 3
  pub past_work : call_verdict (state_at 8 6 3) 9 53 ≡ refusal 17 3
  pub plane_work : call_verdict (state_at 0 0 1) 8 53 ≡ refusal 2 9

pub plane_rows : PlaneRows
unfolding in_order lowest_row lowest
plane_rows = record {
  none = refl;
  fourth_plane = refl;
  short_plane = refl;
  long_plane = refl;
  short_work = refl;
  foreign_axis = refl;
  foreign_threshold = refl;
  axis_threshold = refl;
  threshold_past = refl;
  past_plane = refl;
  past_work = refl;
  plane_work = refl;
}

pub record ThirdRows : Type 0 where
  pub none : third_verdict 9 54 8 12 20 ≡ Passes
  -- room for 3 vertices
  pub short_words : third_verdict 9 54 6 12 20 ≡ refusal 5 4
  pub short_offsets : third_verdict 9 54 8 11 20 ≡ refusal 5 4
  pub short_quads : third_verdict 9 54 8 12 19 ≡ refusal 6 5
  pub plane_vertices : third_verdict 8 54 6 12 20 ≡ refusal 2 9
  pub work_vertices : third_verdict 9 53 6 12 20 ≡ refusal 15 54
  pub work_quads : third_verdict 9 53 8 12 19 ≡ refusal 15 54
  pub vertices_quads : third_verdict 9 54 6 12 19 ≡ refusal 5 4

pub third_rows : ThirdRows
unfolding in_order lowest_row lowest
third_rows = record {
  none = refl;
  short_words = refl;
  short_offsets = refl;
  short_quads = refl;
  plane_vertices = refl;
  work_vertices = refl;
  work_quads = refl;
  vertices_quads = refl;
}
