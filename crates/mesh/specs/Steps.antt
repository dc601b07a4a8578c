-- What the passes over the rows of a block keep: the marks that a row has, how far they go, and what a row moves them by.
-- Assumes nothing.
use Rattle.std.specs.Prelude.{ℕ, ◌+◌, ◌-◌, ◌/◌, ◌≤◌, ◌≡◌, List, ltb, length}
use Rattle.laws.specs.Below.{below}
use Rattle.block.specs.declared.Cut.{Cut}
use Rattle.block.specs.declared.Size.{Size}
use Rattle.block.specs.declared.Checked.TheVariants.{Passes}
use Rattle.block.specs.Rows.{threshold_row}
use Rattle.block.specs.Numbering.{Axis, X, Y, Z, sample_count, cube_count}
use Rattle.block.specs.Size.{Limits}
use Rattle.mesh_rule.specs.Mesh.{vertices_before}
use Rattle.mesh_rule.specs.Layers.{row_cube, row_sample, run_masks, quads_from}
use Rattle.quads.specs.Writing.{row_quads}
use Rattle.layers.specs.declared.Marks.{Marks}
use Rattle.rows.specs.declared.Row.{Row}
use Rattle.mesh.specs.declared.Totals.{Totals}

-- a block that rows 1 to 3 pass
pub record Meshable (n : Size) (s : List ℕ) (cut : Cut) : Type 0 where
  pub limits : Limits n
  pub count : length s ≡ sample_count n
  pub threshold : threshold_row cut ≡ Passes

-- the counts that the marks of a whole block say, and that such marks are few enough for them
abbrev pub totals_of : Marks → Totals
totals_of m = record { vertices = m.v; quads = (m.x + m.y + m.z) / 4 }

abbrev pub Few : Marks → Type 0
Few m = (m.v ≤ 66325500) × (m.x + m.y + m.z ≤ 197418960)

-- the row j of the layer k, where the vertex with the number `first` stands first in the lent buffers
abbrev pub row_of : Size → Cut → ℕ → ℕ → ℕ → Row
row_of n cut first j k = record { cut = cut; nx = n.nx; j = j; c = row_cube n.nx n.ny j k; lower = ltb 0 k; first = first }

module _ (loops_of : Cut → List ℕ → List ℕ) (n : Size) (s : List ℕ) (cut : Cut) where
  -- the quad words along the axis from the samples before index m
  abbrev pub quads_up_to : Axis → ℕ → List ℕ
  quads_up_to axis m = below (quads_from loops_of n s cut axis) m

  -- the marks before the cube c and the sample p, where the quads along y and z start from y₀ and z₀
  pub record MarkedTo (y₀ z₀ c p : ℕ) (m : Marks) : Type 0 where
    pub v_is : m.v ≡ length (vertices_before loops_of n s cut c)
    pub x_is : m.x ≡ length (quads_up_to X p)
    pub y_is : m.y ≡ y₀ + length (quads_up_to Y p)
    pub z_is : m.z ≡ z₀ + length (quads_up_to Z p)

  -- before the row j of the layer k
  abbrev pub Marking : ℕ → ℕ → ℕ → ℕ → Marks → Type 0
  Marking y₀ z₀ j k = MarkedTo y₀ z₀ (row_cube n.nx n.ny j k) (row_sample n.nx n.ny j k)

  -- the rows before it are counted
  abbrev pub Counting : ℕ → ℕ → Marks → Type 0
  Counting = Marking 0 0

  -- the whole block is
  abbrev pub Tallied : Marks → Type 0
  Tallied = MarkedTo 0 0 (cube_count n) (sample_count n)

  -- the marks are moved by what the row j of the layer k has
  pub record RowMoved (j k : ℕ) (m m' : Marks) : Type 0 where
    pub v_is : m'.v ≡ m.v + length (run_masks loops_of n s cut (row_cube n.nx n.ny j k) (n.nx - 1))
    pub x_is : m'.x ≡ m.x + length (row_quads loops_of n s cut X k j)
    pub y_is : m'.y ≡ m.y + length (row_quads loops_of n s cut Y k j)
    pub z_is : m'.z ≡ m.z + length (row_quads loops_of n s cut Z k j)
