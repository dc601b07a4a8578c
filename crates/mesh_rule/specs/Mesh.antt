-- The mesh of a block: its vertices and its quads (document 01, "The mesh"), over the loops of a cube. `loops_of cut corners` are the
-- masks of a cube's loops, in order; what the theorems ask of it is `CubeLaws`.
use Rattle.std.specs.Prelude.{ℕ, ◌+◌, ◌-◌, ◌<◌, ◌≡◌, Bool, true, false, cond, ◌&&◌, List, [], ◌∷◌, ◌++◌, map, length, get_or}
use Rattle.laws.specs.Below.{below}
use Rattle.laws.specs.Bits.{holds}
use Rattle.block.specs.declared.Cut.{Cut}
use Rattle.block.specs.declared.Size.{Size}
use Rattle.block.specs.Numbering.{Axis, X, Y, Z, cube_number, cube_count, sample_count, at_sample}
use Rattle.cube_rule.specs.Rule.{first_holder}
use Rattle.mesh_rule.specs.Grid.{corners_of, metal, inner, crossed_from}

-- a vertex: its cube's number, and the mask of its loop
pub record Vertex : Type 0 where
  pub cube : ℕ
  pub mask : ℕ

-- a quad: four vertex numbers
pub record Quad : Type 0 where
  pub v0 : ℕ
  pub v1 : ℕ
  pub v2 : ℕ
  pub v3 : ℕ

abbrev pub quad : ℕ → ℕ → ℕ → ℕ → Quad
quad a b c d = record { v0 = a; v1 = b; v2 = c; v3 = d }

-- "If the lower sample is negative, second and fourth change places."
abbrev pub turned : Bool → Quad → Quad
turned true q = q
turned false q = quad q.v0 q.v3 q.v2 q.v1

-- quads as the buffer holds them
abbrev pub flat : List Quad → List ℕ
flat [] = []
flat (q ∷ qs) = q.v0 ∷ q.v1 ∷ q.v2 ∷ q.v3 ∷ flat qs

-- 01's table, for the edge from (i,j,k) along the axis: f of each of its four cubes and of its number there, put together by g
abbrev pub table {ℓ} : {A B : Type ℓ} → (A → A → A → A → B) → (ℕ → ℕ → ℕ → ℕ → A) → Axis → ℕ → ℕ → ℕ → B
table g f X i j k = g (f i (j - 1) (k - 1) 3) (f i j (k - 1) 2) (f i j k 0) (f i (j - 1) k 1)
table g f Y i j k = g (f (i - 1) j (k - 1) 7) (f (i - 1) j k 5) (f i j k 4) (f i j (k - 1) 6)
table g f Z i j k = g (f (i - 1) (j - 1) k 11) (f i (j - 1) k 10) (f i j k 8) (f (i - 1) j k 9)

module _ (loops_of : Cut → List ℕ → List ℕ) (n : Size) (s : List ℕ) (cut : Cut) where
  -- the loops of the cube c
  abbrev pub cube_loops : ℕ → List ℕ
  cube_loops c = loops_of cut (corners_of n s c)

  -- "Vertices: for each cube by rising number, one for each loop": of the cube c, of all cubes before c, and of all
  unfoldable pub vertices_of : ℕ → List Vertex
  vertices_of c = map (λ (m : ℕ). record { cube = c; mask = m }) (cube_loops c)

  unfoldable pub vertices_before : ℕ → List Vertex
  vertices_before c = below vertices_of c

  unfoldable pub vertices : List Vertex
  vertices = vertices_before (cube_count n)

  -- the vertex v
  abbrev pub vertex_of : ℕ → Vertex
  vertex_of v = get_or vertices v (record { cube = 0; mask = 0 })

  -- v is the number of a vertex of the cube c, and its mask holds the edge e
  pub record Holder (v c e : ℕ) : Type 0 where
    pub is_vertex : v < length vertices
    pub in_cube : (vertex_of v).cube ≡ c
    pub holds_edge : holds (vertex_of v).mask e ≡ true

  -- each number of q, by the table, is that of a vertex of its cube whose mask holds the edge
  abbrev pub AllHold : Axis → ℕ → ℕ → ℕ → Quad → Type 0
  AllHold a i j k q =
      table {A = ℕ → Type 0} (λ p₀ p₁ p₂ p₃. p₀ q.v0 × p₁ q.v1 × p₂ q.v2 × p₃ q.v3) (λ x y z e v. Holder v (cube_number n x y z) e) a i j k

  -- the number of the vertex of the cube c whose mask holds the edge e
  unfoldable pub vertex_number : ℕ → ℕ → ℕ
  vertex_number c e = length (vertices_before c) + first_holder e (cube_loops c)

  -- the vertices round the edge from (i,j,k) along the axis
  abbrev pub around : Axis → ℕ → ℕ → ℕ → Quad
  around a i j k = table quad (λ x y z e. vertex_number (cube_number n x y z) e) a i j k

  -- "Each crossed inner edge gives one quad"
  unfoldable pub quad_at : Axis → ℕ → ℕ → ℕ → List Quad
  quad_at a i j k = cond (inner n a i j k && crossed_from n s cut a i j k) (turned (metal n s cut i j k) (around a i j k) ∷ []) []

  -- the quads of the edges along the axis whose lower sample has an index below m
  unfoldable pub quads_before : Axis → ℕ → List Quad
  quads_before a m = below (at_sample n (quad_at a)) m

  -- "Order: edges along x, then y, then z, each by index of the lower sample"
  unfoldable pub quads : List Quad
  quads = quads_before X (sample_count n) ++ quads_before Y (sample_count n) ++ quads_before Z (sample_count n)
