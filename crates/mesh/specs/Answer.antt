-- What counting and meshing a block answer, and what the lent buffers hold afterwards (document 01, "The mesh" and "Numbers of refusal").
-- One verdict decides for the answer and for every buffer.
use Rattle.std.specs.Prelude.{ℕ, ◌*◌, ◌≡◌, cond, ◌&&◌, List, [], ◌∷◌, ◌++◌, leb, length, Float}
use Rattle.block.specs.declared.Cut.{Cut}
use Rattle.block.specs.declared.Size.{Size}
use Rattle.block.specs.declared.Checked.{Checked}
use Rattle.block.specs.declared.Checked.TheVariants.{Passes}
use Rattle.block.specs.Answer.{Answer, accepted, refused, refuses, in_order, judged, written, told}
use Rattle.block.specs.Block.{block_rows, block_verdict}
use Rattle.block.specs.Rows.{axis_row}
use Rattle.block.specs.Size.{size_of}
use Rattle.cube_rule.specs.Decider.{loops_of}
use Rattle.mesh_rule.specs.Mesh.{vertices, quads}
use Rattle.mesh_rule.specs.Buffers.{mesh_words, mesh_offsets, mesh_quads}
use Rattle.mesh.specs.declared.Totals.{Totals}
use Rattle.mesh.specs.declared.Counted.{Counted}
use Rattle.mesh.specs.declared.Counted.TheVariants as counted

-- how many vertices and quads a mesh has
abbrev pub vertex_count : Size → List ℕ → Cut → ℕ
vertex_count n s cut = length (vertices loops_of n s cut)

abbrev pub quad_count : Size → List ℕ → Cut → ℕ
quad_count n s cut = length (quads loops_of n s cut)

abbrev pub counts_of : Size → List ℕ → Cut → Totals
counts_of n s cut = record { vertices = vertex_count n s cut; quads = quad_count n s cut }

-- 01's number and values of each case
abbrev pub said_counts : Counted → Answer Totals
said_counts (counted.Counts c) = accepted c
said_counts (counted.Refused r) = refused r

-- what counting a block answers: its counts, or the refusal of the first of rows 1 to 3 that holds
abbrev pub counts_answer : ℕ → ℕ → ℕ → List ℕ → Cut → Answer Totals
counts_answer nx ny nz s cut = judged (block_verdict nx ny nz s cut) (counts_of (size_of nx ny nz) s cut)

-- the promise of `counts`
abbrev pub CountsAnswered : ℕ → ℕ → ℕ → List ℕ → Cut → Counted → Type 0
CountsAnswered nx ny nz s cut r = said_counts r ≡ counts_answer nx ny nz s cut

-- counts in three numbers: 0, vertices, quads; or number, value, 0
abbrev pub told_counts : Answer Totals → List ℕ
told_counts = told 3 (λ c. c.vertices ∷ c.quads ∷ [])

-- 5: either vertex buffer is short; vertices needed
abbrev pub vertex_row : ℕ → ℕ → ℕ → Checked
vertex_row v words offsets = cond (leb (2 * v) words && leb (3 * v) offsets) Passes (refuses 5 v)

-- 6: the quad buffer is short; quads needed
abbrev pub quad_row : ℕ → ℕ → Checked
quad_row q room = cond (leb (4 * q) room) Passes (refuses 6 q)

-- both, by the counts and the lengths of the three buffers
abbrev pub buffer_rows : Totals → ℕ → ℕ → ℕ → List Checked
buffer_rows c words offsets room = vertex_row c.vertices words offsets ∷ quad_row c.quads room ∷ []

abbrev pub mesh_verdict : ℕ → ℕ → ℕ → List ℕ → Cut → ℕ → ℕ → ℕ → Checked
mesh_verdict nx ny nz s cut words offsets room =
    in_order (axis_row nx ny nz ∷ block_rows (size_of nx ny nz) s cut ++ buffer_rows (counts_of (size_of nx ny nz) s cut) words offsets room)

-- the answer, and the three buffers w, o, q at entry and w', o', q' at exit, where the checks say k
pub record MeshedBy (k : Checked) (n : Size) (s : List ℕ) (cut : Cut) (w : List ℕ) (o : List Float) (q : List ℕ) (r : Counted) (w' : List ℕ) (o' : List Float) (q' : List ℕ) : Type 0 where
  pub answer : said_counts r ≡ judged k (counts_of n s cut)
  pub words : w' ≡ written k (mesh_words loops_of n s cut) w
  pub offsets : o' ≡ written k (mesh_offsets loops_of n s cut) o
  pub quads : q' ≡ written k (mesh_quads loops_of n s cut) q

-- the promise of `mesh`
abbrev pub Meshed : ℕ → ℕ → ℕ → List ℕ → Cut → List ℕ → List Float → List ℕ → Counted → List ℕ → List Float → List ℕ → Type 0
Meshed nx ny nz s cut w o q r w' o' q' =
    MeshedBy (mesh_verdict nx ny nz s cut (length w) (length o) (length q)) (size_of nx ny nz) s cut w o q r w' o' q'
