-- The crossed inner edges of a plane by the words of its signs: what the words are, and what they stand on.
-- Assumes nothing.
use Rattle.std.specs.Prelude.{◌≡◌, ℕ, ◌+◌, ◌-◌, ◌*◌, ◌/◌, ◌<◌, ◌≤◌, Bool, ◌&&◌, List, length, bit_and, count_ones}
use Rattle.laws.specs.Counting.{total}
use Rattle.block.specs.declared.Cut.{Cut}
use Rattle.block.specs.declared.Size.{Size}
use Rattle.block.specs.Numbering.{Axis, X, Y, Z}
use Rattle.block.specs.Size.{Limits}
use Rattle.mesh_rule.specs.Grid.{inner, crossed_from}
use Rattle.signs.specs.Signs.{Plane}
use Rattle.planes.specs.Planes.{along_x, along_y, along_z, limit_of, inner_of}
use Rattle.quads.specs.declared.Along.{Along}
use Rattle.quads.specs.declared.Along.TheVariants.{AxisX, AxisY, AxisZ}

-- the axis that a value of the code stands for
abbrev pub along_axis : Along → Axis
along_axis AxisX = X
along_axis AxisY = Y
along_axis AxisZ = Z

-- the edge along the axis from (x,j,k) is inner and crossed
abbrev pub crossed_on : Size → List ℕ → Cut → Axis → ℕ → ℕ → ℕ → Bool
crossed_on n s cut axis j k x = inner n axis x j k && crossed_from n s cut axis x j k

-- the first row from which an inner edge can start
abbrev pub first_row : Along → ℕ
first_row AxisX = 1
first_row AxisY = 0
first_row AxisZ = 1

-- row j is one of those
abbrev pub RowIn : Size → Along → ℕ → Type 0
RowIn n along j = (first_row along ≤ j) × (j + 1 < n.ny)

-- plane k is one from which an inner edge along the axis can start
abbrev pub PlaneIn : Size → Axis → ℕ → Type 0
PlaneIn n X k = (0 < k) × (k + 1 < n.nz)
PlaneIn n Y k = (0 < k) × (k + 1 < n.nz)
PlaneIn n Z k = k + 1 < n.nz

-- a holds the signs of plane k, and b those of the plane above it where the edges run along z
pub record Planes (n : Size) (s : List ℕ) (cut : Cut) (axis : Axis) (k : ℕ) (a b : List ℕ) : Type 0 where
  pub limits : Limits n
  pub in_z : PlaneIn n axis k
  pub lower : Plane n s cut k a
  pub room : length b ≡ 1280
  pub upper : axis ≡ Z → Plane n s cut (k + 1) b

-- the word of the crossed inner edges from word w of row j
unfoldable pub edges_of : Along → List ℕ → List ℕ → ℕ → ℕ → ℕ → ℕ
edges_of AxisX a b nx j w = bit_and (along_x a (5 * j + w)) (limit_of (nx - 1) w)
edges_of AxisY a b nx j w = bit_and (along_y a (5 * j + w)) (inner_of nx w)
edges_of AxisZ a b nx j w = bit_and (along_z a b (5 * j + w)) (inner_of nx w)

-- how many words hold the signs of nx samples
abbrev pub words_in : ℕ → ℕ
words_in nx = (nx + 63) / 64

-- how many crossed inner edges start from row j: the set bits of its words
abbrev pub edge_count : Along → List ℕ → List ℕ → ℕ → ℕ → ℕ
edge_count along a b nx j = total (λ (w : ℕ). count_ones (edges_of along a b nx j w)) (words_in nx)
