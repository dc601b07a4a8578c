-- What a C caller finds in the places that it lends: the promises of the functions for C.
use Rattle.std.specs.Prelude.{ℕ, ◌≡◌, List, length, take, Float}
use Rattle.laws.specs.Below.{over}
use Rattle.block.specs.Answer.{Answer, accepted, refused}
use Rattle.block.specs.Ceilings.{ceilings_in}
use Rattle.block.specs.Grey.{cut_of}
use Rattle.place.specs.declared.Crossing.{Crossing}
use Rattle.place.specs.Crossing.{said_edge, EdgeAnswered}
use Rattle.cell.specs.declared.CubeAnswer.{CubeAnswer}
use Rattle.cell.specs.Answer.{said_cube, CubeAnswered}
use Rattle.mesh_rule.specs.Buffers.{triples}
use Rattle.mesh.specs.declared.Counted.{Counted}
use Rattle.mesh.specs.Answer.{said_counts, CountsAnswered, told_counts, Meshed}
use Rattle.closed.specs.declared.Closure.{Closure}
use Rattle.closed.specs.Closed.{said_closure, ClosedAnswered}
use Rattle.closed.specs.Chains.{ClosedWith}
use Rattle.foundry.specs.declared.Judgement.{Judgement}
use Rattle.foundry.specs.Answer.{said_judgement, MeshJudged}
use Rattle.pieces.specs.declared.Pieced.{Pieced}
use Rattle.pieces.specs.Answer.{said_pieces, PiecesFound}
use Rattle.ply.specs.declared.Spacing.{Spacing}
use Rattle.ply.specs.declared.Filed.{Filed}
use Rattle.ply.specs.Answer.{said_file, PlyWritten}
use Rattle.readings.specs.Reading.{reading_of, said_reading}
use Rattle.readings_mesh.specs.Answer.{ReadingsCounted, ReadingsMeshed}
use Rattle.room.specs.declared.Edged.{Edged}
use Rattle.room.specs.Answer.{said_crossed, CrossedAnswered}
use Rattle.by_planes.specs.declared.Stream.{Stream}
use Rattle.by_planes.specs.declared.Growth.{Growth}
use Rattle.by_planes.specs.declared.Started.{Started}
use Rattle.by_planes.specs.declared.Taken.{Taken}
use Rattle.by_planes.specs.Answer.{said_start, said_taken, StartAnswered, FinishAnswered}
use Rattle.by_planes.specs.Left.{PlaneTaken}
use Rattle.thresholds.specs.declared.RowAnswer.{RowAnswer}
use Rattle.thresholds.specs.Answer.{said_row, RowAnswered}
use Rattle.told.specs.Numbers.{told_ceilings, told_edge, told_fraction, told_number, told_closed, told_judgement, told_pieces, told_length, told_nothing, told_growth, state_numbers, state_of}

-- as many of these values as a place has room for; what is behind is kept
abbrev pub tell_over : {A : Type 0} → List A → List A → List A
tell_over values place = over (take (length place) values) place

-- the promises: the library's own, and what of its answer is told; each place at entry and at exit
abbrev pub CeilingsTold : List ℕ → List ℕ → List ℕ → Type 0
CeilingsTold samples place place' = place' ≡ tell_over (told_ceilings (accepted (ceilings_in samples))) place

abbrev pub ReadingTold : Float → List ℕ → List ℕ → Type 0
ReadingTold x place place' = place' ≡ tell_over (told_number (said_reading (reading_of x))) place

pub record EdgeTold (p q t : ℕ) (fraction : List Float) (place : List ℕ) (fraction' : List Float) (place' : List ℕ) : Type 0 where
  pub answer : Crossing
  pub answered : EdgeAnswered p q t answer
  pub fraction_told : fraction' ≡ tell_over (told_fraction (said_edge answer)) fraction
  pub is_told : place' ≡ tell_over (told_edge (said_edge answer)) place

pub record CubeTold (corners : List ℕ) (t noise : ℕ) (words : List ℕ) (offsets : List Float) (place words' : List ℕ) (offsets' : List Float) (place' : List ℕ) : Type 0 where
  pub answer : CubeAnswer
  pub answered : CubeAnswered corners (cut_of t noise) answer
  pub words_told : words' ≡ tell_over answer.words words
  pub offsets_told : offsets' ≡ tell_over (triples answer.offsets) offsets
  pub is_told : place' ≡ tell_over (told_number (said_cube answer.found)) place

-- the count of crossed edges reads no noise figure (`crossed_reads_no_noise`)
pub record CrossedTold (nx ny nz : ℕ) (s : List ℕ) (t : ℕ) (place place' : List ℕ) : Type 0 where
  pub answer : Edged
  pub answered : CrossedAnswered nx ny nz s (cut_of t 0) answer
  pub is_told : place' ≡ tell_over (told_number (said_crossed answer)) place

pub record CountsTold (nx ny nz : ℕ) (s : List ℕ) (t noise : ℕ) (place place' : List ℕ) : Type 0 where
  pub answer : Counted
  pub answered : CountsAnswered nx ny nz s (cut_of t noise) answer
  pub is_told : place' ≡ tell_over (told_counts (said_counts answer)) place

-- the buffer is that of `counts_row`
pub record RowTold (nx ny nz : ℕ) (s ts : List ℕ) (noise : ℕ) (b place b' place' : List ℕ) : Type 0 where
  pub answer : RowAnswer
  pub answered : RowAnswered nx ny nz s ts noise b answer b'
  pub is_told : place' ≡ tell_over (told_nothing (said_row answer)) place

-- the three buffers are those of `mesh`
pub record MeshTold (nx ny nz : ℕ) (s : List ℕ) (t noise : ℕ) (w : List ℕ) (o : List Float) (q place w' : List ℕ) (o' : List Float) (q' place' : List ℕ) : Type 0 where
  pub answer : Counted
  pub meshed : Meshed nx ny nz s (cut_of t noise) w o q answer w' o' q'
  pub is_told : place' ≡ tell_over (told_counts (said_counts answer)) place

-- the answer and the three buffers are those of `counts` and `mesh` of readings
pub record ReadingsCountsTold (nx ny nz : ℕ) (xs : List Float) (t noise : ℕ) (place place' : List ℕ) : Type 0 where
  pub answer : Counted
  pub answered : ReadingsCounted nx ny nz xs (cut_of t noise) answer
  pub is_told : place' ≡ tell_over (told_counts (said_counts answer)) place

pub record ReadingsMeshTold (nx ny nz : ℕ) (xs : List Float) (t noise : ℕ) (w : List ℕ) (o : List Float) (q place w' : List ℕ) (o' : List Float) (q' place' : List ℕ) : Type 0 where
  pub answer : Counted
  pub meshed : ReadingsMeshed nx ny nz xs (cut_of t noise) w o q answer w' o' q'
  pub is_told : place' ≡ tell_over (told_counts (said_counts answer)) place

-- a place for a state afterwards: the state, or what it held on refusal
abbrev pub state_after : Answer Stream → List ℕ → List ℕ
state_after (accepted st) place = tell_over (state_numbers st) place
state_after (refused r) place = place

abbrev pub growth_after : Answer Growth → List ℕ → List ℕ
growth_after (accepted g) place = tell_over (state_numbers g.stream) place
growth_after (refused r) place = place

pub record StartTold (nx ny nz t noise : ℕ) (work state place state' place' : List ℕ) : Type 0 where
  pub answer : Started
  pub answered : StartAnswered nx ny nz (cut_of t noise) (length work) answer
  pub state_told : state' ≡ state_after (said_start answer) state
  pub is_told : place' ≡ tell_over (told_nothing (said_start answer)) place

-- the buffers are those of `take`
pub record PlaneTold (state plane work w : List ℕ) (o : List Float) (q place state' work' w' : List ℕ) (o' : List Float) (q' place' : List ℕ) : Type 0 where
  pub answer : Taken
  pub answered : PlaneTaken (state_of state) plane work w o q answer work' w' o' q'
  pub state_told : state' ≡ growth_after (said_taken answer) state
  pub is_told : place' ≡ tell_over (told_growth (said_taken answer)) place

pub record EndTold (state place place' : List ℕ) : Type 0 where
  pub answer : Counted
  pub answered : FinishAnswered (state_of state) answer
  pub is_told : place' ≡ tell_over (told_counts (said_counts answer)) place

pub record ClosedTold (quads place place' : List ℕ) : Type 0 where
  pub answer : Closure
  pub answered : ClosedAnswered quads answer
  pub is_told : place' ≡ tell_over (told_closed (said_closure answer)) place

-- the memory is that of `closed_with`
pub record ClosedWithTold (quads work place work' place' : List ℕ) : Type 0 where
  pub answer : Closure
  pub answered : ClosedWith quads work answer work'
  pub is_told : place' ≡ tell_over (told_closed (said_closure answer)) place

pub record JudgeTold (nx ny nz : ℕ) (s : List ℕ) (t noise : ℕ) (words : List ℕ) (offsets : List Float) (quads place place' : List ℕ) : Type 0 where
  pub answer : Judgement
  pub answered : MeshJudged nx ny nz s (cut_of t noise) words offsets quads answer
  pub is_told : place' ≡ tell_over (told_judgement (said_judgement answer)) place

-- the two buffers are those of `pieces`
pub record PiecesTold (n : ℕ) (quads piece size place piece' size' place' : List ℕ) : Type 0 where
  pub answer : Pieced
  pub answered : PiecesFound n quads piece size answer piece' size'
  pub is_told : place' ≡ tell_over (told_pieces (said_pieces answer)) place

-- the buffer is that of `write`
pub record PlyTold (nx ny nz : ℕ) (words : List ℕ) (offsets : List Float) (quads : List ℕ) (spacing : Spacing) (file bytes place file' bytes' place' : List ℕ) : Type 0 where
  pub answer : Filed
  pub written : PlyWritten nx ny nz words offsets quads spacing file answer file'
  pub length-told : bytes' ≡ tell_over (told_length (said_file answer)) bytes
  pub is_told : place' ≡ tell_over (told_nothing (said_file answer)) place
