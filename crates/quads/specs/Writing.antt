-- The quads of the edges from one row of samples, by the numbers of the vertices in the four rows of cubes round them (document 01, "The mesh").
-- The four are taken two in the lower layer and two in the upper one, or all in one layer. Along y that is the order of 01's table with second
-- and fourth changed.
-- Assumes nothing.
use Rattle.std.specs.Prelude.{ℕ, ◌+◌, ◌-◌, ◌*◌, ◌/◌, ◌%◌, ◌^◌, ◌≤◌, Bool, not, List, [], ◌∷◌, length, ◌==◌, slice_index}
use Rattle.laws.specs.Below.{below}
use Rattle.block.specs.declared.Cut.{Cut}
use Rattle.block.specs.declared.Size.{Size}
use Rattle.block.specs.Numbering.{Axis}
use Rattle.mesh_rule.specs.Grid.{corners_of}
use Rattle.mesh_rule.specs.Layers.{row_cube}
use Rattle.mesh_rule.specs.Mesh.{quad, turned, flat, quad_at, cube_loops, vertices_before}
use Rattle.cube_vertices.specs.Cubes.{names_by}
use Rattle.rows.specs.Rows.{picked}
use Rattle.notes.specs.Tables.{vertex_in, Numbered}
use Rattle.quads.specs.declared.Along.{Along}
use Rattle.quads.specs.declared.Along.TheVariants.{AxisX, AxisY, AxisZ}
use Rattle.quads.specs.declared.Order.{Order}
use Rattle.quads.specs.Edges.{words_in, edges_of}

-- the rows of the first, the second and the fourth cube; the third is in row j of layer k
abbrev pub row_of_first : Along → ℕ → ℕ
row_of_first AxisX j = j - 1
row_of_first AxisY j = j
row_of_first AxisZ j = j - 1

abbrev pub row_of_second : Along → ℕ → ℕ
row_of_second AxisX j = j
row_of_second AxisY j = j
row_of_second AxisZ j = j - 1

abbrev pub row_of_fourth : Along → ℕ → ℕ
row_of_fourth AxisX j = j - 1
row_of_fourth AxisY j = j
row_of_fourth AxisZ j = j

-- the layer of the first two
abbrev pub layer_of_first : Along → ℕ → ℕ
layer_of_first AxisX k = k - 1
layer_of_first AxisY k = k - 1
layer_of_first AxisZ k = k

-- how much less x is for the first and the last
abbrev pub back_of : Along → ℕ
back_of AxisX = 0
back_of AxisY = 1
back_of AxisZ = 1

-- the edge's number in the third; in the others it is 3, 2 and 1 more
abbrev pub edge_of : Along → ℕ
edge_of AxisX = 0
edge_of AxisY = 4
edge_of AxisZ = 8

-- the lower sample's sign with which this order is the quad's
abbrev pub order_sign : Along → ℕ
order_sign AxisX = 1
order_sign AxisY = 0
order_sign AxisZ = 1

abbrev pub up_on : Along → Bool → Bool
up_on AxisX b = b
up_on AxisY b = not b
up_on AxisZ b = b

-- the three together
abbrev pub order_of : Along → Order
order_of along = record { e = edge_of along; back = back_of along; sign = order_sign along }

-- ---- one edge, 64 edges, a row

-- the quad of the edge from x by four tables; `up` is the sign of its lower sample
unfoldable pub quad_by : ℕ → ℕ → ℕ → List ℕ → List ℕ → List ℕ → List ℕ → ℕ → ℕ → List ℕ
quad_by e back sign n0 n1 n2 n3 up x =
    flat (turned (up == sign) (quad (vertex_in n0 (x - back) (e + 3)) (vertex_in n1 x (e + 2)) (vertex_in n2 x e) (vertex_in n3 (x - back) (e + 1))) ∷ [])

-- those of the 64 edges from x on whose bits are set
abbrev pub word_by : ℕ → ℕ → ℕ → List ℕ → List ℕ → List ℕ → List ℕ → ℕ → ℕ → ℕ → List ℕ
word_by e back sign n0 n1 n2 n3 d up x = below (picked d (λ (i : ℕ). quad_by e back sign n0 n1 n2 n3 (up / 2 ^ i % 2) (x + i))) 64

-- those of the crossed inner edges from row j of a plane
abbrev pub row_by : Along → List ℕ → List ℕ → ℕ → ℕ → List ℕ → List ℕ → List ℕ → List ℕ → List ℕ
row_by along a b nx j n0 n1 n2 n3 =
    below (λ (w : ℕ). word_by (edge_of along) (back_of along) (order_sign along) n0 n1 n2 n3 (edges_of along a b nx j w) (slice_index a (5 * j + w)) (64 * w)) (words_in nx)

-- the tables reach as far as the cubes round the edge from x
pub record Reach (back x : ℕ) (n0 n1 n2 n3 : List ℕ) : Type 0 where
  pub low : back ≤ x
  pub n0_long : 2 * x + 2 ≤ length n0
  pub n1_long : 2 * x + 2 ≤ length n1
  pub n2_long : 2 * x + 2 ≤ length n2
  pub n3_long : 2 * x + 2 ≤ length n3

-- and as far as a row of cubes
pub record Tables (nx : ℕ) (n0 n1 n2 n3 : List ℕ) : Type 0 where
  pub n0_row : 2 * nx ≤ length n0 + 2
  pub n1_row : 2 * nx ≤ length n1 + 2
  pub n2_row : 2 * nx ≤ length n2 + 2
  pub n3_row : 2 * nx ≤ length n3 + 2

-- ---- in a block

-- the numbers of the row y of the layer z
abbrev pub RowTable : (Cut → List ℕ → List ℕ) → Size → List ℕ → Cut → ℕ → ℕ → List ℕ → Type 0
RowTable loops_of n s cut y z numbers =
    Numbered (λ (x : ℕ). cube_loops loops_of n s cut (row_cube n.nx n.ny y z + x)) (λ (x : ℕ). names_by loops_of cut (corners_of n s (row_cube n.nx n.ny y z + x))) (n.nx - 1)
    (length (vertices_before loops_of n s cut (row_cube n.nx n.ny y z))) numbers

-- those of the four rows of cubes round the edges from row j of plane k
pub record RingTables (loops_of : Cut → List ℕ → List ℕ) (n : Size) (s : List ℕ) (cut : Cut) (along : Along) (j k : ℕ) (n0 n1 n2 n3 : List ℕ) : Type 0 where
  pub t0 : RowTable loops_of n s cut (row_of_first along j) (layer_of_first along k) n0
  pub t1 : RowTable loops_of n s cut (row_of_second along j) (layer_of_first along k) n1
  pub t2 : RowTable loops_of n s cut j k n2
  pub t3 : RowTable loops_of n s cut (row_of_fourth along j) k n3

-- what the buffer holds of the edge from (x,j,k), and of a row
abbrev pub edge_quads : (Cut → List ℕ → List ℕ) → Size → List ℕ → Cut → Axis → ℕ → ℕ → ℕ → List ℕ
edge_quads loops_of n s cut axis j k x = flat (quad_at loops_of n s cut axis x j k)

abbrev pub row_quads : (Cut → List ℕ → List ℕ) → Size → List ℕ → Cut → Axis → ℕ → ℕ → List ℕ
row_quads loops_of n s cut axis k j = below (edge_quads loops_of n s cut axis j k) n.nx
