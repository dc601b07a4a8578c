-- One row of one layer: what is written of its vertices, and of the quads from its row of samples. Rows of even and odd number have their tables
-- in two halves of one buffer.
-- Assumes nothing.
use Rattle.std.specs.Prelude.{ℕ, ◌+◌, ◌*◌, ◌%◌, ◌≤◌, ◌<◌, ◌≡◌, Bool, cond, ◌&&◌, List, [], ltb, length, take, drop, Float}
use Rattle.std.proofs.lemmas.List.Edits.{sets}
use Rattle.quads.specs.declared.Along.{Along}
use Rattle.quads.specs.declared.Along.TheVariants.{AxisX, AxisY, AxisZ}
use Rattle.quads.specs.Writing.{row_by}
use Rattle.block.specs.declared.Cut.{Cut}
use Rattle.rows.specs.declared.Row.{Row}
use Rattle.rows.specs.Rows.{row_masks}
use Rattle.vertices.specs.Layers.{RowWritten}
use Rattle.layers.specs.declared.Marks.{Marks}

-- the table of row j
abbrev pub half : ℕ → List ℕ → List ℕ
half j tables = take 512 (drop (512 * (j % 2)) tables)

-- inner edges along the axis start from row j of a plane: along x and z not from its first row, along x and y only if there is a layer below it
abbrev pub has_quads : Along → ℕ → Bool → Bool
has_quads AxisX j lower = ltb 0 j && lower
has_quads AxisY j lower = lower
has_quads AxisZ j lower = ltb 0 j

-- the quads from row j along the axis, if there are any
abbrev pub step_by : Along → List ℕ → List ℕ → ℕ → ℕ → Bool → List ℕ → List ℕ → List ℕ → List ℕ → List ℕ
step_by along a b nx j lower n0 n1 n2 n3 = cond (has_quads along j lower) (row_by along a b nx j n0 n1 n2 n3) []

-- the same along each axis: `old` and `under` are the tables of the rows j - 1 and j of the layer below, `prev` and `own` those of this layer
abbrev pub step_x : List ℕ → ℕ → ℕ → Bool → List ℕ → List ℕ → List ℕ → List ℕ → List ℕ
step_x a nx j lower old under prev own = step_by AxisX a a nx j lower old under own prev

abbrev pub step_y : List ℕ → ℕ → ℕ → Bool → List ℕ → List ℕ → List ℕ
step_y a nx j lower under own = step_by AxisY a a nx j lower under under own own

abbrev pub step_z : List ℕ → List ℕ → ℕ → ℕ → Bool → List ℕ → List ℕ → List ℕ
step_z a b nx j lower prev own = step_by AxisZ a b nx j lower prev prev own own

-- a row of samples, and the signs of its plane and of the plane above it
pub record RowFits (row : Row) (a b : List ℕ) : Type 0 where
  pub short : 2 ≤ row.nx
  pub long : row.nx ≤ 256
  pub inside : row.j < 255
  pub a_long : length a ≡ 1280
  pub b_long : length b ≡ 1280

-- what the quads of a row require besides: tables of the layer below, and room, which does not depend on the tables
pub record QuadsReady (row : Row) (a b below : List ℕ) (m : Marks) (room : ℕ) : Type 0 where
  pub fits : RowFits row a b
  pub below_long : length below ≡ 1024
  pub room_x : m.x + length (step_x a row.nx row.j row.lower [] [] [] []) ≤ room
  pub room_y : m.y + length (step_y a row.nx row.j row.lower [] []) ≤ room
  pub room_z : m.z + length (step_z a b row.nx row.j row.lower [] []) ≤ room

-- xs, ys and zs are written, each in its region
pub record QuadsMore (xs ys zs : List ℕ) (m r : Marks) (q q' : List ℕ) : Type 0 where
  pub x_is : r.x ≡ m.x + length xs
  pub y_is : r.y ≡ m.y + length ys
  pub z_is : r.z ≡ m.z + length zs
  pub quads_are : q' ≡ sets (sets (sets q m.x xs) m.y ys) m.z zs

-- the quads of a row are written by the tables of the layer below and of this layer
abbrev pub RowQuads : Row → List ℕ → List ℕ → List ℕ → List ℕ → Marks → Marks → List ℕ → List ℕ → Type 0
RowQuads row a b below here m r q q' =
    QuadsMore (step_x a row.nx row.j row.lower (half (row.j + 1) below) (half row.j below) (half (row.j + 1) here) (half row.j here))
    (step_y a row.nx row.j row.lower (half row.j below) (half row.j here))
    (step_z a b row.nx row.j row.lower (half (row.j + 1) here) (half row.j here)) m r q q'

-- the promise of `row_step`
pub record RowStepped (loops_of : Cut → List ℕ → List ℕ) (lo hi : List ℕ) (row : Row) (a b below : List ℕ) (m : Marks) (words₀ words : List ℕ) (offsets₀ offsets : List Float) (quads₀ quads here₀ here : List ℕ) (r : Marks)
    : Type 0 where
  pub long : length here ≡ 1024
  pub prev_kept : half (row.j + 1) here ≡ half (row.j + 1) here₀
  pub written : RowWritten loops_of lo hi row.cut row.nx row.c row.first m.v words₀ words offsets₀ offsets (half row.j here₀) (half row.j here) r.v
  pub more : RowQuads row a b below here m r quads₀ quads

-- marks so small that a row's counts may be added
pub record RowFew (m : Marks) : Type 0 where
  pub few_v : m.v ≤ 66325500
  pub few_x : m.x ≤ 200000000
  pub few_y : m.y ≤ 200000000
  pub few_z : m.z ≤ 200000000

-- the promise of `with_quads`: the marks are moved by v vertices, and by the quads of the row, whatever the tables say
pub record MarksBy (v : ℕ) (row : Row) (a b : List ℕ) (m r : Marks) : Type 0 where
  pub v_is : r.v ≡ m.v + v
  pub x_is : r.x ≡ m.x + length (step_x a row.nx row.j row.lower [] [] [] [])
  pub y_is : r.y ≡ m.y + length (step_y a row.nx row.j row.lower [] [])
  pub z_is : r.z ≡ m.z + length (step_z a b row.nx row.j row.lower [] [])

-- the promise of `row_counts`: by the vertices of the row
abbrev pub RowCounted : (Cut → List ℕ → List ℕ) → List ℕ → List ℕ → Row → List ℕ → List ℕ → Marks → Marks → Type 0
RowCounted loops_of lo hi row = MarksBy (length (row_masks loops_of lo hi row.cut row.nx)) row
