-- What a sample at the detector's ceiling leaves in the answers (document 02, One): the mark of a vertex, and number 4, which nobody gives.
use Rattle.std.specs.Prelude.{ℕ, ◌+◌, ◌*◌, ◌≤◌, ◌<◌, ◌≡◌, Bool, true, false, List, Float, length, get_or}
use Rattle.laws.specs.Bits.{holds}
use Rattle.block.specs.declared.Cut.{Cut}
use Rattle.block.specs.declared.Refusal.{Refusal}
use Rattle.block.specs.declared.Sized.{Sized}
use Rattle.block.specs.Answer.{Answer, accepted, refused}
use Rattle.block.specs.Grey.{apart}
use Rattle.block.specs.Size.{size_of, said_size, SizeMade}
use Rattle.cube_rule.specs.Edges.{corner_sample}
use Rattle.place.specs.declared.Crossing.{Crossing}
use Rattle.place.specs.Crossing.{said_edge, EdgeAnswered}
use Rattle.cell.specs.declared.CubeAnswer.{CubeAnswer}
use Rattle.cell.specs.Answer.{said_cube, CubeAnswered}
use Rattle.mesh_rule.specs.Grid.{corners_of}
use Rattle.mesh.specs.declared.Counted.{Counted}
use Rattle.mesh.specs.Answer.{said_counts, CountsAnswered, Meshed}
use Rattle.closed.specs.declared.Closure.{Closure}
use Rattle.closed.specs.Closed.{said_closure, ClosedAnswered}
use Rattle.closed.specs.Chains.{ClosedWith}
use Rattle.foundry.specs.declared.Judgement.{Judgement}
use Rattle.foundry.specs.Answer.{said_judgement, MeshJudged}
use Rattle.pieces.specs.declared.Pieced.{Pieced}
use Rattle.pieces.specs.Answer.{said_pieces, PiecesFound}
use Rattle.ply.specs.declared.Spacing.{Spacing}
use Rattle.ply.specs.declared.Filed.{Filed}
use Rattle.ply.specs.Answer.{said_file, PlyWritten}
use Rattle.room.specs.declared.Edged.{Edged}
use Rattle.room.specs.Answer.{said_crossed, CrossedAnswered}
use Rattle.by_planes.specs.declared.Stream.{Stream}
use Rattle.by_planes.specs.declared.Started.{Started}
use Rattle.by_planes.specs.declared.Taken.{Taken}
use Rattle.by_planes.specs.Answer.{said_start, said_taken, StartAnswered, FinishAnswered}
use Rattle.by_planes.specs.Left.{PlaneTaken}
use Rattle.thresholds.specs.declared.RowAnswer.{RowAnswer}
use Rattle.thresholds.specs.Answer.{said_row, RowAnswered}
use Rattle.lines.specs.Output.{refusal_line, Prints, Ran}
use Rattle.readings.specs.Reading.{reading_of, said_reading}
use Rattle.readings_mesh.specs.Answer.{ReadingsCounted, ReadingsMeshed}
use Rattle.parsniprow_c.specs.Told.{CeilingsTold, ReadingTold, ReadingsCountsTold, ReadingsMeshTold, EdgeTold, CubeTold, CrossedTold, CountsTold, RowTold, MeshTold, StartTold, PlaneTold, EndTold, ClosedTold, ClosedWithTold, JudgeTold, PiecesTold, PlyTold}
use Rattle.demands.specs.Answers.{MeshCall}

-- the mark of a vertex is bit 12 of its word
abbrev pub has_mark : ℕ → Bool
has_mark word = holds word 12

-- after a call of `mesh`: the word of vertex v, the corners of its cube, and that no vertex carries the mark
module _ {nx ny nz : ℕ} {s : List ℕ} {cut : Cut} (a : MeshCall nx ny nz s cut) where
  abbrev pub word_after : ℕ → ℕ
  word_after v = get_or a.words_after (2 * v + 1) 0

  abbrev pub corners_after : ℕ → List ℕ
  corners_after v = corners_of (size_of nx ny nz) s (get_or a.words_after (2 * v) 0)

  abbrev pub Unmarked : Type 0
  Unmarked = (v : ℕ) → v < a.counts.vertices → has_mark (word_after v) ≡ false

-- a cube has corners of both signs
pub record BothSigns (cut : Cut) (corners : List ℕ) : Type 0 where
  pub one : ℕ
  pub other : ℕ
  pub one_there : one < 8
  pub other_there : other < 8
  pub apart_there : apart cut (corner_sample corners one) (corner_sample corners other) ≡ true

-- where the line of vertex v begins in the program's text: behind the first line, which has 21 bytes, and 63 bytes for each vertex before it
abbrev pub vertex_place : ℕ → ℕ
vertex_place v = 21 + 63 * v

-- an answer is not refusal 4
abbrev pub NotFour : {A : Type 0} → Answer A → Type 0
NotFour a = (x : Refusal) → a ≡ refused x → x.number ≡ 4 → ⊥

-- no entry point gives number 4, and no C caller finds it
pub record FourNever : Type 0 where
  pub size : (nx ny nz : ℕ) (r : Sized) → SizeMade nx ny nz r → NotFour (said_size r)
  pub edge : (p q t : ℕ) (r : Crossing) → EdgeAnswered p q t r → NotFour (said_edge r)
  pub cube : (corners : List ℕ) (cut : Cut) (r : CubeAnswer) → CubeAnswered corners cut r → NotFour (said_cube r.found)
  pub crossed : (nx ny nz : ℕ) (s : List ℕ) (cut : Cut) (r : Edged) → CrossedAnswered nx ny nz s cut r → NotFour (said_crossed r)
  pub counts : (nx ny nz : ℕ) (s : List ℕ) (cut : Cut) (r : Counted) → CountsAnswered nx ny nz s cut r → NotFour (said_counts r)
  pub row : (nx ny nz : ℕ) (s ts : List ℕ) (noise : ℕ) (b : List ℕ) (r : RowAnswer) (b' : List ℕ) → RowAnswered nx ny nz s ts noise b r b'
      → NotFour (said_row r) × (said_row r ≡ accepted tt → (i : ℕ) → i < length ts → get_or b' (3 * i) 0 ≡ 4 → ⊥)
  pub mesh : (nx ny nz : ℕ) (s : List ℕ) (cut : Cut) (w : List ℕ) (o : List Float) (q : List ℕ) (r : Counted) (w' : List ℕ) (o' : List Float) (q' : List ℕ)
      → Meshed nx ny nz s cut w o q r w' o' q' → NotFour (said_counts r)
  pub reading : (x : Float) → NotFour (said_reading (reading_of x))
  pub readings_counts : (nx ny nz : ℕ) (xs : List Float) (cut : Cut) (r : Counted) → ReadingsCounted nx ny nz xs cut r → NotFour (said_counts r)
  pub readings_mesh : (nx ny nz : ℕ) (xs : List Float) (cut : Cut) (w : List ℕ) (o : List Float) (q : List ℕ) (r : Counted) (w' : List ℕ) (o' : List Float) (q' : List ℕ)
      → ReadingsMeshed nx ny nz xs cut w o q r w' o' q' → NotFour (said_counts r)
  pub start : (nx ny nz : ℕ) (cut : Cut) (room : ℕ) (r : Started) → StartAnswered nx ny nz cut room r → NotFour (said_start r)
  pub plane : (st : Stream) (plane work w : List ℕ) (o : List Float) (q : List ℕ) (r : Taken) (work' w' : List ℕ) (o' : List Float) (q' : List ℕ)
      → PlaneTaken st plane work w o q r work' w' o' q' → NotFour (said_taken r)
  pub finish : (st : Stream) (r : Counted) → FinishAnswered st r → NotFour (said_counts r)
  pub closed : (quads : List ℕ) (r : Closure) → ClosedAnswered quads r → NotFour (said_closure r)
  pub closed_with : (quads work : List ℕ) (r : Closure) (work' : List ℕ) → ClosedWith quads work r work' → NotFour (said_closure r)
  pub judge : (nx ny nz : ℕ) (s : List ℕ) (cut : Cut) (words : List ℕ) (offsets : List Float) (quads : List ℕ) (r : Judgement)
      → MeshJudged nx ny nz s cut words offsets quads r → NotFour (said_judgement r)
  pub pieces : (n : ℕ) (quads piece size : List ℕ) (r : Pieced) (piece' size' : List ℕ) → PiecesFound n quads piece size r piece' size' → NotFour (said_pieces r)
  pub ply : (nx ny nz : ℕ) (words : List ℕ) (offsets : List Float) (quads : List ℕ) (s : Spacing) (file : List ℕ) (r : Filed) (file' : List ℕ)
      → PlyWritten nx ny nz words offsets quads s file r file' → NotFour (said_file r)
  pub run : (bytes out : List ℕ) (r : ℕ) (out' : List ℕ) → Ran bytes out r out' → (v : ℕ) → v ≤ 4294967295 → Prints (refusal_line (record { number = 4; value = v })) out r out' → ⊥
  pub ceilings_told : (s place place' : List ℕ) → CeilingsTold s place place' → get_or place' 0 0 ≡ 4 → ⊥
  pub edge_told : (p q t : ℕ) (f : List Float) (place : List ℕ) (f' : List Float) (place' : List ℕ) → EdgeTold p q t f place f' place' → get_or place' 0 0 ≡ 4 → ⊥
  pub cube_told : (corners : List ℕ) (t noise : ℕ) (w : List ℕ) (o : List Float) (place w' : List ℕ) (o' : List Float) (place' : List ℕ)
      → CubeTold corners t noise w o place w' o' place' → get_or place' 0 0 ≡ 4 → ⊥
  pub crossed_told : (nx ny nz : ℕ) (s : List ℕ) (t : ℕ) (place place' : List ℕ) → CrossedTold nx ny nz s t place place' → get_or place' 0 0 ≡ 4 → ⊥
  pub counts_told : (nx ny nz : ℕ) (s : List ℕ) (t noise : ℕ) (place place' : List ℕ) → CountsTold nx ny nz s t noise place place' → get_or place' 0 0 ≡ 4 → ⊥
  pub row_told : (nx ny nz : ℕ) (s ts : List ℕ) (noise : ℕ) (b place b' place' : List ℕ) → RowTold nx ny nz s ts noise b place b' place'
      → (get_or place' 0 0 ≡ 4 → ⊥) × (get_or place' 0 1 ≡ 0 → (i : ℕ) → i < length ts → get_or b' (3 * i) 0 ≡ 4 → ⊥)
  pub mesh_told : (nx ny nz : ℕ) (s : List ℕ) (t noise : ℕ) (w : List ℕ) (o : List Float) (q place w' : List ℕ) (o' : List Float) (q' place' : List ℕ)
      → MeshTold nx ny nz s t noise w o q place w' o' q' place' → get_or place' 0 0 ≡ 4 → ⊥
  pub reading_told : (x : Float) (place place' : List ℕ) → ReadingTold x place place' → get_or place' 0 0 ≡ 4 → ⊥
  pub readings_counts_told : (nx ny nz : ℕ) (xs : List Float) (t noise : ℕ) (place place' : List ℕ) → ReadingsCountsTold nx ny nz xs t noise place place' → get_or place' 0 0 ≡ 4 → ⊥
  pub readings_mesh_told : (nx ny nz : ℕ) (xs : List Float) (t noise : ℕ) (w : List ℕ) (o : List Float) (q place w' : List ℕ) (o' : List Float) (q' place' : List ℕ)
      → ReadingsMeshTold nx ny nz xs t noise w o q place w' o' q' place' → get_or place' 0 0 ≡ 4 → ⊥
  pub start_told : (nx ny nz t noise : ℕ) (work state place state' place' : List ℕ) → StartTold nx ny nz t noise work state place state' place' → get_or place' 0 0 ≡ 4 → ⊥
  pub plane_told : (state plane work w : List ℕ) (o : List Float) (q place state' work' w' : List ℕ) (o' : List Float) (q' place' : List ℕ)
      → PlaneTold state plane work w o q place state' work' w' o' q' place' → get_or place' 0 0 ≡ 4 → ⊥
  pub end_told : (state place place' : List ℕ) → EndTold state place place' → get_or place' 0 0 ≡ 4 → ⊥
  pub closed_told : (quads place place' : List ℕ) → ClosedTold quads place place' → get_or place' 0 0 ≡ 4 → ⊥
  pub closed_with_told : (quads work place work' place' : List ℕ) → ClosedWithTold quads work place work' place' → get_or place' 0 0 ≡ 4 → ⊥
  pub judge_told : (nx ny nz : ℕ) (s : List ℕ) (t noise : ℕ) (words : List ℕ) (offsets : List Float) (quads place place' : List ℕ)
      → JudgeTold nx ny nz s t noise words offsets quads place place' → get_or place' 0 0 ≡ 4 → ⊥
  pub pieces_told : (n : ℕ) (quads piece size place piece' size' place' : List ℕ) → PiecesTold n quads piece size place piece' size' place' → get_or place' 0 0 ≡ 4 → ⊥
  pub ply_told : (nx ny nz : ℕ) (words : List ℕ) (offsets : List Float) (quads : List ℕ) (s : Spacing) (file bytes place file' bytes' place' : List ℕ)
      → PlyTold nx ny nz words offsets quads s file bytes place file' bytes' place' → get_or place' 0 0 ≡ 4 → ⊥
