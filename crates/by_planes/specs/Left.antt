-- What a state and a work buffer hold "as last left", and the promise of a call that takes a plane.
use Rattle.std.specs.Prelude.{◌≡◌, ℕ, ◌+◌, ◌-◌, ◌*◌, ◌<◌, ◌≤◌, List, length, slice_index, Float}
use Rattle.block.specs.declared.Checked.{Checked}
use Rattle.block.specs.declared.Checked.TheVariants.{Passes}
use Rattle.block.specs.declared.Refusal.{Refusal}
use Rattle.block.specs.Answer.{accepted, refused, judged, written}
use Rattle.block.specs.Grey.{SixteenBit}
use Rattle.block.specs.Numbering.{X, Y, Z}
use Rattle.block.specs.Rows.{threshold_row}
use Rattle.block.specs.Steps.{Sampled}
use Rattle.cube_rule.specs.Decider.{loops_of}
use Rattle.mesh_rule.specs.Layers.{plane_size, layer_first}
use Rattle.mesh.specs.declared.Totals.{Totals}
use Rattle.mesh.specs.Steps.{quads_up_to}
use Rattle.plane_layers.specs.Memory.{sample_in, LayerTables}
use Rattle.plane_layers.specs.Parts.{KeptBehind}
use Rattle.by_planes.specs.declared.Stream.{Stream}
use Rattle.by_planes.specs.declared.Growth.{Growth}
use Rattle.by_planes.specs.declared.Taken.{Taken}
use Rattle.by_planes.specs.Answer.{size_in, plane_of, part_words, part_offsets, part_quads, part_totals, further, grown_by, take_verdict, said_taken}

-- the state and the work buffer, after the first planes of a block were taken
pub record Left (s : List ℕ) (st : Stream) (work : List ℕ) : Type 0 where
  pub block : Sampled (size_in st) s
  pub grey : SixteenBit s
  pub threshold : threshold_row st.cut ≡ Passes
  pub room : 6 * (st.nx * st.ny) ≤ length work
  pub in_block : st.planes ≤ st.nz
  -- what the finished layers have
  pub vertices_are : st.vertices ≡ layer_first loops_of (size_in st) s st.cut (st.planes - 1)
  pub quads_are : 4 * st.quads ≡ length (quads_up_to loops_of (size_in st) s st.cut X (plane_size (size_in st) * (st.planes - 1)))
      + length (quads_up_to loops_of (size_in st) s st.cut Y (plane_size (size_in st) * (st.planes - 1))) + length (quads_up_to loops_of (size_in st) s st.cut Z (plane_size (size_in st) * (st.planes - 1)))
  -- the last plane, and the numbers of the last layer
  pub plane : 0 < st.planes → (i : ℕ) → i < plane_size (size_in st) → sample_in work i ≡ slice_index s (plane_size (size_in st) * (st.planes - 1) + i)
  pub tables : 1 < st.planes → LayerTables loops_of (size_in st) s st.cut (st.planes - 2) work

-- of a block whose planes are handed over, where the call counted c and the checks say k: its counts, the three buffers, and what is left; no sum is cut
pub record PartTaken (k : Checked) (s : List ℕ) (st : Stream) (c : Totals) (w : List ℕ) (o : List Float) (q work' w' : List ℕ) (o' : List Float) (q' : List ℕ) : Type 0 where
  pub counts_are : c ≡ part_totals (size_in st) s st.cut st.planes
  pub words : w' ≡ written k (part_words (size_in st) s st.cut st.planes) w
  pub offsets : o' ≡ written k (part_offsets (size_in st) s st.cut st.planes) o
  pub quads : q' ≡ written k (part_quads (size_in st) s st.cut st.planes) q
  pub uncut : grown_by st c ≡ record { stream = further st c; counts = c }
  pub left : k ≡ Passes → Left s (further st c) work'

-- The promise of `take`. With any state and any work buffer the rows decide, by what the call counts; the first plane writes nothing; a refusal keeps every
-- buffer; and what is written keeps to its room. "The mesh is promised if it and the state come back as last left": where they are, the call counts and writes the next part of the
-- mesh of every block that has the planes taken so far and this one.
pub record PlaneTaken (st : Stream) (plane work w : List ℕ) (o : List Float) (q : List ℕ) (r : Taken) (work' w' : List ℕ) (o' : List Float) (q' : List ℕ) : Type 0 where
  pub counted : Totals
  pub answer : said_taken r ≡ judged (take_verdict st (length plane) (length work) counted (length w) (length o) (length q)) (grown_by st counted)
  pub first : st.planes ≡ 0 → counted ≡ record { vertices = 0; quads = 0 }
  pub refusal_keeps : (x : Refusal) → said_taken r ≡ refused x → (work' ≡ work) × (w' ≡ w) × (o' ≡ o) × (q' ≡ q)
  pub kept : (g : Growth) → said_taken r ≡ accepted g → KeptBehind counted.vertices (4 * counted.quads) (6 * (st.nx * st.ny)) w w' o o' q q' work work'
  pub part : (s : List ℕ) → Left s st work → st.planes < st.nz → plane ≡ plane_of (size_in st) s st.planes
      → PartTaken (take_verdict st (length plane) (length work) counted (length w) (length o) (length q)) s st counted w o q work' w' o' q'
