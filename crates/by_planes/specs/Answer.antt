-- A mesh plane by plane (document 02, Nine): "Hand over the planes of a block by rising z and get the mesh as it grows". What each call refuses, what it
-- answers, and which part of the mesh it writes.
use Rattle.std.specs.Prelude.{◌≡◌, ℕ, zero, suc, ◌+◌, ◌*◌, ◌%◌, cond, List, [], ◌∷◌, ◌++◌, take, drop, ◌==◌, nat_lt, Float}
use Rattle.block.specs.declared.Checked.{Checked}
use Rattle.block.specs.declared.Checked.TheVariants.{Passes}
use Rattle.block.specs.declared.Cut.{Cut}
use Rattle.block.specs.declared.Size.{Size}
use Rattle.block.specs.Answer.{Answer, accepted, refused, refuses, in_order, judged}
use Rattle.block.specs.Rows.{axis_row, threshold_row, room_row}
use Rattle.block.specs.Size.{size_of}
use Rattle.cube_rule.specs.Decider.{loops_of}
use Rattle.mesh_rule.specs.Layers.{plane_size, layer_words, layer_offsets, layer_quads}
use Rattle.mesh.specs.declared.Counted.{Counted}
use Rattle.mesh.specs.declared.Totals.{Totals}
use Rattle.mesh.specs.Answer.{said_counts, buffer_rows}
use Rattle.plane_layers.specs.Parts.{layer_totals}
use Rattle.by_planes.specs.declared.Stream.{Stream}
use Rattle.by_planes.specs.declared.Growth.{Growth}
use Rattle.by_planes.specs.declared.Started.{Started}
use Rattle.by_planes.specs.declared.Started.TheVariants as started
use Rattle.by_planes.specs.declared.Taken.{Taken}
use Rattle.by_planes.specs.declared.Taken.TheVariants as taken

-- the size of the block that a state is of
abbrev pub size_in : Stream → Size
size_in st = size_of st.nx st.ny st.nz

-- the plane k of a block
abbrev pub plane_of : Size → List ℕ → ℕ → List ℕ
plane_of n s k = take (plane_size n) (drop (plane_size n * k) s)

-- ---- what a call writes that comes after k planes: "the first plane writes nothing; each further plane writes the vertices of the finished cube layer,
-- then the quads of x edges, then y edges, on its lower plane, then those of its z edges, each by lower sample"

module _ (n : Size) (s : List ℕ) (cut : Cut) where
  abbrev pub part_words : ℕ → List ℕ
  part_words zero = []
  part_words (suc k) = layer_words loops_of n s cut k

  abbrev pub part_offsets : ℕ → List Float
  part_offsets zero = []
  part_offsets (suc k) = layer_offsets loops_of n s cut k

  abbrev pub part_quads : ℕ → List ℕ
  part_quads zero = []
  part_quads (suc k) = layer_quads loops_of n s cut k

  abbrev pub part_totals : ℕ → Totals
  part_totals zero = record { vertices = 0; quads = 0 }
  part_totals (suc k) = layer_totals loops_of n s cut k

-- ---- the state: the block's size and threshold, what was written so far, and how many planes were taken

-- before the first plane
abbrev pub begun : ℕ → ℕ → ℕ → Cut → Stream
begun nx ny nz cut = record { nx = nx; ny = ny; nz = nz; cut = cut; vertices = 0; quads = 0; planes = 0 }

-- one plane further, which wrote so much
abbrev pub further : Stream → Totals → Stream
further st c = record { nx = st.nx; ny = st.ny; nz = st.nz; cut = st.cut; vertices = st.vertices + c.vertices; quads = st.quads + c.quads; planes = st.planes + 1 }

-- what a call gives that wrote so much, with any state: the sums are numbers of 32 bits
abbrev pub grown_by : Stream → Totals → Growth
grown_by st c = record {
  stream = record { nx = st.nx; ny = st.ny; nz = st.nz; cut = st.cut; vertices = (st.vertices + c.vertices) % 4294967296; quads = (st.quads + c.quads) % 4294967296; planes = st.planes + 1 };
  counts = c;
}

-- ---- refusals

-- "15 for a short work buffer (value: words needed)": "6·nx·ny words of 32 bits"
abbrev pub work_row : ℕ → ℕ → ℕ → Checked
work_row nx ny room = room_row (6 * (nx * ny)) room

-- "at the start 1, 3, then 15"
abbrev pub start_rows : ℕ → ℕ → ℕ → Cut → ℕ → List Checked
start_rows nx ny nz cut room = axis_row nx ny nz ∷ threshold_row cut ∷ work_row nx ny room ∷ []

-- "17 for a plane past nz (value: nz)"
abbrev pub past_row : Stream → Checked
past_row st = cond (nat_lt st.planes st.nz) Passes (refuses 17 st.nz)

-- "then 2 (value: nx·ny)"
abbrev pub plane_row : Stream → ℕ → Checked
plane_row st count = cond (count == st.nx * st.ny) Passes (refuses 2 (st.nx * st.ny))

-- "per plane 17 .., then 2 .., 15": before them 1 and 3 of the state's own numbers, which a state that was started never meets
abbrev pub call_rows : Stream → ℕ → ℕ → List Checked
call_rows st count room = axis_row st.nx st.ny st.nz ∷ threshold_row st.cut ∷ past_row st ∷ plane_row st count ∷ work_row st.nx st.ny room ∷ []

-- "15, 5, 6 with what this call needs"
abbrev pub take_verdict : Stream → ℕ → ℕ → Totals → ℕ → ℕ → ℕ → Checked
take_verdict st count room c words offsets quads = in_order (call_rows st count room ++ buffer_rows c words offsets quads)

-- "18 for an end asked before nz planes (value: planes taken)"
abbrev pub end_row : Stream → Checked
end_row st = cond (nat_lt st.planes st.nz) (refuses 18 st.planes) Passes

-- ---- answers

abbrev pub said_start : Started → Answer Stream
said_start (started.Begun st) = accepted st
said_start (started.Refused r) = refused r

abbrev pub said_taken : Taken → Answer Growth
said_taken (taken.Wrote g) = accepted g
said_taken (taken.Refused r) = refused r

-- the promise of `start`
abbrev pub StartAnswered : ℕ → ℕ → ℕ → Cut → ℕ → Started → Type 0
StartAnswered nx ny nz cut room r = said_start r ≡ judged (in_order (start_rows nx ny nz cut room)) (begun nx ny nz cut)

-- the promise of `finish`: "An end gives both totals"
abbrev pub FinishAnswered : Stream → Counted → Type 0
FinishAnswered st r = said_counts r ≡ judged (in_order (end_row st ∷ [])) (record { vertices = st.vertices; quads = st.quads })
