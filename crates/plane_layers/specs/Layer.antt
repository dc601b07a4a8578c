-- One layer of cubes between the plane that is remembered and the plane that is lent: what stands in the buffers after some of its rows, and what the
-- passes over it promise. `n` is the size of a block, `s` are its samples, `k` is the number of the layer.
-- Assumes nothing.
use Rattle.std.specs.Prelude.{ℕ, ◌+◌, ◌*◌, ◌-◌, ◌≤◌, ◌<◌, ◌≡◌, List, length, get_or, drop, Float}
use Rattle.std.proofs.lemmas.List.Edits.{sets}
use Rattle.std.specs.Float.{nan}
use Rattle.laws.specs.Below.{below}
use Rattle.block.specs.declared.Checked.{Checked}
use Rattle.block.specs.declared.Checked.TheVariants.{Passes, Refuses}
use Rattle.block.specs.declared.Cut.{Cut}
use Rattle.block.specs.declared.Refusal.{Refusal}
use Rattle.block.specs.declared.Size.{Size}
use Rattle.block.specs.Answer.{in_order, judged, written}
use Rattle.block.specs.Grey.{SixteenBit}
use Rattle.block.specs.Numbering.{X, Y, Z}
use Rattle.block.specs.Rows.{threshold_row}
use Rattle.block.specs.Size.{Limits}
use Rattle.mesh_rule.specs.Mesh.{vertices_before}
use Rattle.mesh_rule.specs.Layers.{plane_size, row_cube, run_masks, run_words, run_offsets, layer_words, layer_offsets, layer_first, layer_quads}
use Rattle.quads.specs.Writing.{RowTable, row_quads}
use Rattle.layers.specs.declared.Marks.{Marks}
use Rattle.layers.specs.Steps.{half}
use Rattle.mesh.specs.declared.Counted.{Counted}
use Rattle.mesh.specs.declared.Totals.{Totals}
use Rattle.mesh.specs.Answer.{said_counts, buffer_rows}
use Rattle.mesh.specs.Steps.{RowMoved}
use Rattle.mesh.specs.Writes.{RowRoomy, TablesReady, RowMore}
use Rattle.plane_layers.specs.declared.Layer.{Layer}
use Rattle.plane_layers.specs.Parts.{layer_totals, KeptBehind}
use Rattle.plane_layers.specs.Memory.{SignedTo, sample_in, item_at, Shown, table_at, LayerTables}

module _ (loops_of : Cut → List ℕ → List ℕ) (n : Size) (s : List ℕ) (cut : Cut) (k : ℕ) where
  -- the first j rows of the layer: the masks, words and offsets of their vertices, and the quads from their samples along an axis
  abbrev pub rows_masks : ℕ → List ℕ
  rows_masks j = below (λ (i : ℕ). run_masks loops_of n s cut (row_cube n.nx n.ny i k) (n.nx - 1)) j

  abbrev pub rows_words : ℕ → List ℕ
  rows_words j = below (λ (i : ℕ). run_words loops_of n s cut (row_cube n.nx n.ny i k) (n.nx - 1)) j

  abbrev pub rows_offsets : ℕ → List Float
  rows_offsets j = below (λ (i : ℕ). run_offsets loops_of n s cut (row_cube n.nx n.ny i k) (n.nx - 1)) j

  abbrev pub rows_x : ℕ → List ℕ
  rows_x j = below (row_quads loops_of n s cut X k) j

  abbrev pub rows_y : ℕ → List ℕ
  rows_y j = below (row_quads loops_of n s cut Y k) j

  abbrev pub rows_z : ℕ → List ℕ
  rows_z j = below (row_quads loops_of n s cut Z k) j

  -- the marks are moved by them, where the quads along y and z start from y₀ and z₀
  pub record RowsMarked (y₀ z₀ j : ℕ) (m : Marks) : Type 0 where
    pub v_is : m.v ≡ length (rows_masks j)
    pub x_is : m.x ≡ length (rows_x j)
    pub y_is : m.y ≡ y₀ + length (rows_y j)
    pub z_is : m.z ≡ z₀ + length (rows_z j)

  -- they are written from the front of three buffers
  pub record RowsWritten (y₀ z₀ j : ℕ) (w₀ w : List ℕ) (o₀ o : List Float) (q₀ q : List ℕ) : Type 0 where
    pub words : w ≡ sets w₀ 0 (rows_words j)
    pub offsets : o ≡ sets o₀ 0 (rows_offsets j)
    pub quads : q ≡ sets (sets (sets q₀ 0 (rows_x j)) y₀ (rows_y j)) z₀ (rows_z j)

  -- what was remembered of the layers below: how many vertices they have, and the numbers of the last one's
  pub record Known (first : ℕ) (work : List ℕ) : Type 0 where
    pub first_is : first ≡ layer_first loops_of n s cut k
    pub tables : 0 < k → LayerTables loops_of n s cut (k - 1) work

-- what a pass over a layer is given: a size within its limits, a layer of it, a threshold that row 3 passes, two planes and room to remember
pub record LayerReady (layer : Layer) (work plane : List ℕ) : Type 0 where
  pub limits : Limits layer.size
  pub inside : layer.k + 1 < layer.size.nz
  pub threshold : threshold_row layer.cut ≡ Passes
  pub few : layer.first ≤ 66325500
  pub plane_long : length plane ≡ plane_size layer.size
  pub room : 3 * plane_size layer.size ≤ length work

-- and the signs of both planes
pub record SignsReady (layer : Layer) (work plane a b : List ℕ) : Type 0 where
  pub a_long : length a ≡ 1280
  pub b_long : length b ≡ 1280
  pub lower : SignedTo layer.size.nx (sample_in work) layer.cut layer.size.ny a
  pub upper : SignedTo layer.size.nx (item_at plane) layer.cut layer.size.ny b

-- whatever block has these two planes, its layer is counted
abbrev pub LayerCounted : (Cut → List ℕ → List ℕ) → Layer → List ℕ → List ℕ → Marks → Type 0
LayerCounted loops_of layer work plane m =
    (s : List ℕ) → Shown layer.size layer.k work plane s → RowsMarked loops_of layer.size s layer.cut layer.k 0 0 (layer.size.ny - 1) m

-- ---- a row that is written

-- some block has these planes, and there is room for its row j
pub record StepReady (loops_of : Cut → List ℕ → List ℕ) (layer : Layer) (work plane : List ℕ) (j : ℕ) (m : Marks) (w : List ℕ) (o : List Float) (q under tab : List ℕ) : Type 0 where
  pub row : j + 1 < layer.size.ny
  pub under_long : length under ≡ 1024
  pub tab_long : length tab ≡ 1024
  pub block : List ℕ
  pub shown : Shown layer.size layer.k work plane block
  pub room : RowRoomy loops_of layer.size block layer.cut j layer.k layer.first m w o q

-- The row j is passed. Whatever block has these planes, the marks are moved as far as its row goes. Where the tables round the row are the block's, its
-- row is written. Nothing behind the marks is touched.
pub record RowTaken (loops_of : Cut → List ℕ → List ℕ) (layer : Layer) (work plane : List ℕ) (j : ℕ) (m m' : Marks) (w w' : List ℕ) (o o' : List Float) (q q' under tab tab' : List ℕ) : Type 0 where
  pub tab_long : length tab' ≡ 1024
  pub words_behind : (i : ℕ) → 2 * m'.v ≤ i → get_or w' i 0 ≡ get_or w i 0
  pub offsets_behind : (i : ℕ) → 3 * m'.v ≤ i → get_or o' i nan ≡ get_or o i nan
  pub quads_behind : (i : ℕ) → m'.x ≤ i → m'.y ≤ i → m'.z ≤ i → get_or q' i 0 ≡ get_or q i 0
  pub moved : (s : List ℕ) → Shown layer.size layer.k work plane s → RowMoved loops_of layer.size s layer.cut j layer.k m m'
  pub more : (s : List ℕ) → Shown layer.size layer.k work plane s
      → layer.first + m.v ≡ length (vertices_before loops_of layer.size s layer.cut (row_cube layer.size.nx layer.size.ny j layer.k))
      → TablesReady loops_of layer.size s layer.cut j layer.k under tab
      → RowMore loops_of layer.size s layer.cut j layer.k m m' w w' o o' q q' tab'

-- ---- a layer that is written

-- there is room for what was counted
pub record LayerRoomy (t : Marks) (w : List ℕ) (o : List Float) (q : List ℕ) : Type 0 where
  pub words : 2 * t.v ≤ length w
  pub offsets : 3 * t.v ≤ length o
  pub quads : t.x + t.y + t.z ≤ length q

-- the rows before row j of a block's layer are written, and their numbers are remembered
pub record RowsDone (loops_of : Cut → List ℕ → List ℕ) (layer : Layer) (s : List ℕ) (y₀ z₀ : ℕ) (w₀ : List ℕ) (o₀ : List Float) (q₀ under tab work w : List ℕ) (o : List Float) (q : List ℕ) (j : ℕ) : Type 0 where
  pub written : RowsWritten loops_of layer.size s layer.cut layer.k y₀ z₀ j w₀ w o₀ o q₀ q
  pub below_before : 0 < j → 0 < layer.k → RowTable loops_of layer.size s layer.cut (j - 1) (layer.k - 1) (half (j + 1) under)
  pub before : 0 < j → RowTable loops_of layer.size s layer.cut (j - 1) layer.k (half (j + 1) tab)
  pub noted : (i : ℕ) → i < j → RowTable loops_of layer.size s layer.cut i layer.k (drop (table_at layer.size i) work)

-- the rows before row j are passed: whatever block has these planes, the marks are moved by them; and where what was remembered is the block's, they
-- are written
pub record RowsState (loops_of : Cut → List ℕ → List ℕ) (layer : Layer) (y₀ z₀ : ℕ) (plane work₀ w₀ : List ℕ) (o₀ : List Float) (q₀ under tab work w : List ℕ) (o : List Float) (q : List ℕ) (m : Marks) (j : ℕ) : Type 0 where
  pub under_long : length under ≡ 1024
  pub tab_long : length tab ≡ 1024
  pub kept : KeptBehind m.v m.z (table_at layer.size j) w₀ w o₀ o q₀ q work₀ work
  pub front : (i : ℕ) → i < plane_size layer.size → get_or work i 0 ≡ get_or work₀ i 0
  pub marked : (s : List ℕ) → Shown layer.size layer.k work₀ plane s → RowsMarked loops_of layer.size s layer.cut layer.k y₀ z₀ j m
  pub done : (s : List ℕ) → Shown layer.size layer.k work₀ plane s → Known loops_of layer.size s layer.cut layer.k layer.first work₀
      → RowsDone loops_of layer s y₀ z₀ w₀ o₀ q₀ under tab work w o q j

-- the promise of the pass that writes a layer
pub record LayerWritten (loops_of : Cut → List ℕ → List ℕ) (layer : Layer) (t : Marks) (plane work work' w w' : List ℕ) (o o' : List Float) (q q' : List ℕ) : Type 0 where
  pub kept : KeptBehind t.v (t.x + t.y + t.z) (3 * plane_size layer.size) w w' o o' q q' work work'
  pub written : (s : List ℕ) → Shown layer.size layer.k work plane s → Known loops_of layer.size s layer.cut layer.k layer.first work
      → RowsWritten loops_of layer.size s layer.cut layer.k t.x (t.x + t.y) (layer.size.ny - 1) w w' o o' q q'
  pub noted : (s : List ℕ) → Shown layer.size layer.k work plane s → Known loops_of layer.size s layer.cut layer.k layer.first work
      → LayerTables loops_of layer.size s layer.cut layer.k work'

-- ---- the promise of `grow`

-- of a block, where the call counted c and rows 5 and 6 say v: its counts, the three buffers, and what is remembered
pub record PartGrown (loops_of : Cut → List ℕ → List ℕ) (v : Checked) (n : Size) (s : List ℕ) (cut : Cut) (k : ℕ) (plane work' : List ℕ) (c : Totals) (w : List ℕ) (o : List Float) (q w' : List ℕ) (o' : List Float) (q' : List ℕ) : Type 0 where
  pub counts_are : c ≡ layer_totals loops_of n s cut k
  pub words : w' ≡ written v (layer_words loops_of n s cut k) w
  pub offsets : o' ≡ written v (layer_offsets loops_of n s cut k) o
  pub quads : q' ≡ written v (layer_quads loops_of n s cut k) q
  pub front : v ≡ Passes → SixteenBit plane → (i : ℕ) → i < plane_size n → sample_in work' i ≡ get_or plane i 0
  pub noted : v ≡ Passes → LayerTables loops_of n s cut k work'

-- Whatever was remembered: rows 5 and 6 decide by what the call counts, a refusal keeps all, and what is written keeps to its room. And what is so of a
-- block whose planes are at hand and whose last layer is remembered.
pub record Grown (loops_of : Cut → List ℕ → List ℕ) (layer : Layer) (plane work w : List ℕ) (o : List Float) (q : List ℕ) (r : Counted) (work' w' : List ℕ) (o' : List Float) (q' : List ℕ) : Type 0 where
  pub counted : Totals
  pub answer : said_counts r ≡ judged (in_order (buffer_rows counted (length w) (length o) (length q))) counted
  pub refusal_keeps : (x : Refusal) → in_order (buffer_rows counted (length w) (length o) (length q)) ≡ Refuses x → (work' ≡ work) × (w' ≡ w) × (o' ≡ o) × (q' ≡ q)
  pub kept : in_order (buffer_rows counted (length w) (length o) (length q)) ≡ Passes → KeptBehind counted.vertices (4 * counted.quads) (3 * plane_size layer.size) w w' o o' q q' work work'
  pub part : (s : List ℕ) → Shown layer.size layer.k work plane s → Known loops_of layer.size s layer.cut layer.k layer.first work
      → PartGrown loops_of (in_order (buffer_rows counted (length w) (length o) (length q))) layer.size s layer.cut layer.k plane work' counted w o q w' o' q'
