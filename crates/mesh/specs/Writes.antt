-- How far the three buffers are written before a row of cubes: the vertices of the rows before it, and three regions of quads side by side, one
-- for each axis, from 0, `start_y` and `start_z` on.
-- Assumes nothing.
use Rattle.std.specs.Prelude.{ℕ, ◌+◌, ◌*◌, ◌-◌, ◌≤◌, ◌<◌, ◌≡◌, List, length, take, drop, Float}
use Rattle.std.proofs.lemmas.List.Edits.{sets}
use Rattle.laws.specs.Below.{below, over}
use Rattle.block.specs.declared.Cut.{Cut}
use Rattle.block.specs.declared.Size.{Size}
use Rattle.block.specs.Numbering.{X, Y, Z, sample_count}
use Rattle.block.specs.Size.{Limits}
use Rattle.mesh_rule.specs.Mesh.{vertices, quads}
use Rattle.mesh_rule.specs.Buffers.{mesh_words, mesh_offsets, mesh_quads}
use Rattle.mesh_rule.specs.Layers.{cube_words, cube_offsets, layer_size, layer_words, layer_first, row_cube, row_sample, run_masks, run_words, run_offsets}
use Rattle.quads.specs.Writing.{RowTable, row_quads}
use Rattle.layers.specs.declared.Marks.{Marks}
use Rattle.layers.specs.Steps.{half}
use Rattle.mesh.specs.Steps.{quads_up_to, MarkedTo, RowMoved}

-- the buffers have room for the whole mesh
pub record Roomy (loops_of : Cut → List ℕ → List ℕ) (n : Size) (s : List ℕ) (cut : Cut) (w : List ℕ) (o : List Float) (q : List ℕ) : Type 0 where
  pub words : 2 * length (vertices loops_of n s cut) ≤ length w
  pub offsets : 3 * length (vertices loops_of n s cut) ≤ length o
  pub quads : 4 * length (quads loops_of n s cut) ≤ length q

module _ (loops_of : Cut → List ℕ → List ℕ) (n : Size) (s : List ℕ) (cut : Cut) where
  -- where the second and the third region start
  abbrev pub start_y : ℕ
  start_y = length (quads_up_to loops_of n s cut X (sample_count n))

  abbrev pub start_z : ℕ
  start_z = start_y + length (quads_up_to loops_of n s cut Y (sample_count n))

  -- before the cube c and the sample p
  pub record WrittenTo (c p : ℕ) (m : Marks) (w₀ w : List ℕ) (o₀ o : List Float) (q₀ q : List ℕ) : Type 0 where
    pub marks : MarkedTo loops_of n s cut start_y start_z c p m
    pub words : w ≡ sets w₀ 0 (below (cube_words loops_of n s cut) c)
    pub offsets : o ≡ sets o₀ 0 (below (cube_offsets loops_of n s cut) c)
    pub quads : q ≡ sets (sets (sets q₀ 0 (quads_up_to loops_of n s cut X p)) start_y (quads_up_to loops_of n s cut Y p)) start_z (quads_up_to loops_of n s cut Z p)

  -- before the row j of the layer k
  abbrev pub Writing : ℕ → ℕ → Marks → List ℕ → List ℕ → List Float → List Float → List ℕ → List ℕ → Type 0
  Writing j k = WrittenTo (row_cube n.nx n.ny j k) (row_sample n.nx n.ny j k)

-- the rows before it are written, into buffers that have room for the whole mesh
pub record Underway (loops_of : Cut → List ℕ → List ℕ) (n : Size) (s : List ℕ) (cut : Cut) (j k : ℕ) (m : Marks) (w : List ℕ) (o : List Float) (q : List ℕ) : Type 0 where
  pub w₀ : List ℕ
  pub o₀ : List Float
  pub q₀ : List ℕ
  pub room : Roomy loops_of n s cut w₀ o₀ q₀
  pub writing : Writing loops_of n s cut j k m w₀ w o₀ o q₀ q

-- ---- the layer below

-- how many vertices the rows before row j of the layer k have
abbrev pub rows_count : (Cut → List ℕ → List ℕ) → Size → List ℕ → Cut → ℕ → ℕ → ℕ
rows_count loops_of n s cut j k = length (run_masks loops_of n s cut (layer_size n * k) ((n.nx - 1) * j))

-- what noting the row j of the layer below the layer k requires, where there is one: its words, and how many of its vertices are passed
pub record BelowReady (loops_of : Cut → List ℕ → List ℕ) (n : Size) (s : List ℕ) (cut : Cut) (j k below first passed : ℕ) (words under : List ℕ) : Type 0 where
  pub limits : Limits n
  pub row : j + 1 < n.ny
  pub layer : k + 1 < n.nz
  pub long : length under ≡ 1024
  pub order : 0 < k → below ≤ first
  pub inside : 0 < k → 2 * first ≤ length words
  pub few : 0 < k → first ≤ 66325500
  pub part : 0 < k → take (2 * first - 2 * below) (drop (2 * below) words) ≡ layer_words loops_of n s cut (k - 1)
  pub below_is : 0 < k → below ≡ layer_first loops_of n s cut (k - 1)
  pub passed_is : 0 < k → passed ≡ rows_count loops_of n s cut j (k - 1)

-- the row is noted, and the row before it kept
pub record BelowNoted (loops_of : Cut → List ℕ → List ℕ) (n : Size) (s : List ℕ) (cut : Cut) (j k : ℕ) (under₀ under : List ℕ) (r : ℕ) : Type 0 where
  pub long : length under ≡ 1024
  pub kept : half (j + 1) under ≡ half (j + 1) under₀
  pub passed_is : 0 < k → r ≡ rows_count loops_of n s cut (j + 1) (k - 1)
  pub noted : 0 < k → RowTable loops_of n s cut j (k - 1) (half j under)

-- ---- a row

-- the tables round the row j of the layer k, but for its own
pub record TablesReady (loops_of : Cut → List ℕ → List ℕ) (n : Size) (s : List ℕ) (cut : Cut) (j k : ℕ) (under tab : List ℕ) : Type 0 where
  pub row : j + 1 < n.ny
  pub under_long : length under ≡ 1024
  pub tab_long : length tab ≡ 1024
  pub below : 0 < k → RowTable loops_of n s cut j (k - 1) (half j under)
  pub below_before : 0 < j → 0 < k → RowTable loops_of n s cut (j - 1) (k - 1) (half (j + 1) under)
  pub before : 0 < j → RowTable loops_of n s cut (j - 1) k (half (j + 1) tab)

-- the buffers have room for the row j of the layer k behind the marks, and its vertices' numbers fit; `first` is the number of the vertex that stands
-- first in the buffers
pub record RowRoomy (loops_of : Cut → List ℕ → List ℕ) (n : Size) (s : List ℕ) (cut : Cut) (j k first : ℕ) (m : Marks) (w : List ℕ) (o : List Float) (q : List ℕ) : Type 0 where
  pub words : 2 * (m.v + length (run_masks loops_of n s cut (row_cube n.nx n.ny j k) (n.nx - 1))) ≤ length w
  pub offsets : 3 * (m.v + length (run_masks loops_of n s cut (row_cube n.nx n.ny j k) (n.nx - 1))) ≤ length o
  pub few : first + (m.v + length (run_masks loops_of n s cut (row_cube n.nx n.ny j k) (n.nx - 1))) < 4294967296
  pub quads_x : m.x + length (row_quads loops_of n s cut X k j) ≤ length q
  pub quads_y : m.y + length (row_quads loops_of n s cut Y k j) ≤ length q
  pub quads_z : m.z + length (row_quads loops_of n s cut Z k j) ≤ length q

-- the row j of the layer k is written, and noted
pub record RowMore (loops_of : Cut → List ℕ → List ℕ) (n : Size) (s : List ℕ) (cut : Cut) (j k : ℕ) (m m' : Marks) (w w' : List ℕ) (o o' : List Float) (q q' tab : List ℕ) : Type 0 where
  pub moved : RowMoved loops_of n s cut j k m m'
  pub words : w' ≡ sets w (2 * m.v) (run_words loops_of n s cut (row_cube n.nx n.ny j k) (n.nx - 1))
  pub offsets : o' ≡ sets o (3 * m.v) (run_offsets loops_of n s cut (row_cube n.nx n.ny j k) (n.nx - 1))
  pub quads_are : q' ≡ sets (sets (sets q m.x (row_quads loops_of n s cut X k j)) m.y (row_quads loops_of n s cut Y k j)) m.z (row_quads loops_of n s cut Z k j)
  pub tab_long : length tab ≡ 1024
  pub noted : RowTable loops_of n s cut j k (half j tab)

-- the layer k is written: whatever was written before it, it is written on
abbrev pub LayerMore : (Cut → List ℕ → List ℕ) → Size → List ℕ → Cut → ℕ → Marks → Marks → List ℕ → List ℕ → List Float → List Float → List ℕ → List ℕ → Type 0
LayerMore loops_of n s cut k m m' w w' o o' q q' =
    (w₀ : List ℕ) (o₀ : List Float) (q₀ : List ℕ) → Roomy loops_of n s cut w₀ o₀ q₀ → Writing loops_of n s cut 0 k m w₀ w o₀ o q₀ q → Writing loops_of n s cut 0 (k + 1) m' w₀ w' o₀ o' q₀ q'

-- the whole mesh is written over the front of each buffer
pub record BlockWritten (loops_of : Cut → List ℕ → List ℕ) (n : Size) (s : List ℕ) (cut : Cut) (w w' : List ℕ) (o o' : List Float) (q q' : List ℕ) : Type 0 where
  pub words : w' ≡ over (mesh_words loops_of n s cut) w
  pub offsets : o' ≡ over (mesh_offsets loops_of n s cut) o
  pub quads : q' ≡ over (mesh_quads loops_of n s cut) q
