-- A run over the planes of a block (document 02, Nine): one start, and a call for each of the first planes by rising z. Each call is one that its promise
-- allows and that is no refusal; it gets the state and the work buffer as the last call left them, and any three buffers to write to. A refused call
-- changes nothing, so a run with refused calls between is this run without them.
use Rattle.std.specs.Prelude.{ℕ, suc, ◌*◌, ◌≤◌, ◌<◌, ◌≡◌, List, Float, length, get_or, take}
use Rattle.laws.specs.Below.{below}
use Rattle.block.specs.declared.Cut.{Cut}
use Rattle.block.specs.Answer.{accepted}
use Rattle.block.specs.Grey.{SixteenBit}
use Rattle.block.specs.Numbering.{sample_count}
use Rattle.block.specs.Size.{size_of}
use Rattle.mesh_rule.specs.Mesh.{Quad}
use Rattle.mesh_rule.specs.Reading.{in_fours, put_back}
use Rattle.mesh.specs.declared.Totals.{Totals}
use Rattle.by_planes.specs.declared.Stream.{Stream}
use Rattle.by_planes.specs.declared.Started.{Started}
use Rattle.by_planes.specs.declared.Taken.{Taken}
use Rattle.by_planes.specs.Answer.{plane_of, said_start, said_taken, StartAnswered}
use Rattle.by_planes.specs.Left.{PlaneTaken}

-- the planes before plane m of the block s were handed over
pub record PlaneRun (nx ny nz : ℕ) (s : List ℕ) (cut : Cut) (m : ℕ) : Type 0 where
  pub block : length s ≡ sample_count (size_of nx ny nz)
  pub grey : SixteenBit s
  pub some : m ≤ nz
  -- the state and the work buffer before the call of plane k
  pub state : ℕ → Stream
  pub work : ℕ → List ℕ
  pub begun : Started
  pub started : StartAnswered nx ny nz cut (length (work 0)) begun
  pub begins : said_start begun ≡ accepted (state 0)
  -- the call of plane k: the three buffers before it and after it, its answer, and how much it wrote
  pub words : ℕ → List ℕ
  pub words_after : ℕ → List ℕ
  pub offsets : ℕ → List Float
  pub offsets_after : ℕ → List Float
  pub quads : ℕ → List ℕ
  pub quads_after : ℕ → List ℕ
  pub answer : ℕ → Taken
  pub counts : ℕ → Totals
  pub promise : (k : ℕ) → k < m
      → PlaneTaken (state k) (plane_of (size_of nx ny nz) s k) (work k) (words k) (offsets k) (quads k) (answer k) (work (suc k)) (words_after k) (offsets_after k) (quads_after k)
  pub accepts : (k : ℕ) → k < m → said_taken (answer k) ≡ accepted (record { stream = state (suc k); counts = counts k })

module _ {nx ny nz : ℕ} {s : List ℕ} {cut : Cut} {m : ℕ} (r : PlaneRun nx ny nz s cut m) where
  -- what the calls wrote, one behind the other
  abbrev pub all_words : List ℕ
  all_words = below (λ (k : ℕ). take (2 * (r.counts k).vertices) (r.words_after k)) m

  abbrev pub all_offsets : List Float
  all_offsets = below (λ (k : ℕ). take (3 * (r.counts k).vertices) (r.offsets_after k)) m

  abbrev pub all_quads : List ℕ
  all_quads = below (λ (k : ℕ). take (4 * (r.counts k).quads) (r.quads_after k)) m

  -- the cube of vertex v, and the quads put back into 01's order
  abbrev pub cube_in : ℕ → ℕ
  cube_in v = get_or all_words (2 * v) 0

  abbrev pub quads_back : List Quad
  quads_back = put_back (size_of nx ny nz) cube_in (in_fours all_quads)
