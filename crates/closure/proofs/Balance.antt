-- Across each face between two cubes as many sides run one way as the other, where no face of the box cuts the surface off.
-- Assumes nothing.
use Prim.Native.Nat.{ℕ, ◌+◌, ◌-◌, ◌<◌}
use mathlib.Core.Path.{◌≡◌, ap, ap₂, sym, ◌∙◌}
use mathlib.Core.Bool.{Bool, true, false, ◌&&◌}
use mathlib.Core.Logic.{◌⊎◌, inl, inr}
use mathlib.Core.List.{List}
use native.Mathlib.Omega.{arith}
use lib.ListN.{length}
use Rattle.laws.specs.Bits.{differ}
use Rattle.laws.proofs.Sums.{boxed_same}
use Rattle.block.specs.declared.Cut.{Cut}
use Rattle.block.specs.declared.Size.{Size}
use Rattle.block.specs.Numbering.{Axis, X, Y, Z, cube_number}
use Rattle.cube_rule.specs.Faces.{ring_edge}
use Rattle.cube_rule.specs.Laws.{CubeLaws}
use Rattle.cube_rule.specs.Links.{Decider, linked_if, linked_at}
use Rattle.mesh_rule.specs.Grid.{metal, crossed_from, inner, sample_at, corners_at, corners_of, EdgeIn}
use Rattle.mesh_rule.specs.Layers.{vertex_at}
use Rattle.mesh_rule.specs.Mesh.{vertices_before, vertex_number, quads}
use Rattle.mesh_rule.proofs.Inner.{Inner}
use Rattle.mesh_rule.proofs.Numbers.{corners_of_number}
use Rattle.closure.proofs.Face.{crossing, face_balanced}
use Rattle.closure.proofs.Surface.{Uncut, crossed_inner_lem, not_inner, four}
use Rattle.closure.proofs.Parts.{face_x, face_y, face_z, by_faces}
use Rattle.closure.proofs.Walks.{walks_over}

up : (a : ℕ) → a + 1 - 1 ≡ a
up a = omega arith

back : (a : ℕ) → 0 < a → a - 1 + 1 ≡ a
back a h = omega arith

-- One face. It lies between two cubes, and then its edges have quads where they are crossed, and linked edges have the same vertices; or it does not,
-- and then none of its edges has a quad.
one_face : {Between : Type 0} (c₀ c₁ c₂ c₃ a b c d j : Bool) (lo hi : ℕ → ℕ) → Between ⊎ (Between → ⊥)
    → (Between → (c₀ ≡ differ a b) × (c₁ ≡ differ b c) × (c₂ ≡ differ d c) × (c₃ ≡ differ a d))
    → (Between → (p q : ℕ) → p < 4 → q < 4 → linked_if a b c d j p q ≡ true → (lo p ≡ lo q) × (hi p ≡ hi q))
    → ((Between → ⊥) → (c₀ ≡ false) × (c₁ ≡ false) × (c₂ ≡ false) × (c₃ ≡ false))
    → (u v : ℕ) → crossing c₀ c₁ c₂ c₃ a b d lo hi u v ≡ crossing c₀ c₁ c₂ c₃ a b d lo hi v u
one_face c₀ c₁ c₂ c₃ a b c d j lo hi (inl h) quads linked none u v =
    let e = quads h in
    rw (e.0, e.1, e.2, e.3) (face_balanced a b c d j lo hi (linked h) u v)
one_face c₀ c₁ c₂ c₃ a b c d j lo hi (inr f) quads linked none u v =
    let e = none f in
    rw (e.0, e.1, e.2, e.3)

module _ (D : Decider) (loops_of : Cut → List ℕ → List ℕ) (laws : CubeLaws D loops_of) (n : Size) (s : List ℕ) (cut : Cut) where
  -- the vertex of an edge of a face of a cube
  abbrev ring_vertex : ℕ → ℕ → ℕ → ℕ → ℕ → ℕ
  ring_vertex f i j k p = vertex_at loops_of n s cut i j k (ring_edge f p)

  -- linked edges of a face of a cube have one vertex in that cube
  linked_vertex : (f i j k p q : ℕ) → f < 6 → i < n.nx - 1 → j < n.ny - 1 → p < 4 → q < 4
      → linked_at D cut (corners_at n s i j k) f p q ≡ true → ring_vertex f i j k p ≡ ring_vertex f i j k q
  unfolding vertex_number
  linked_vertex f i j k p q hf hi hj hp hq e =
      let c = cube_number n i j k in
      ap (λ (x : ℕ). length (vertices_before loops_of n s cut c) + x)
      (laws.linked cut (corners_of n s c) f p q hf hp hq (rw (corners_of_number n s i j k hi hj) e))

  -- whether the edge from (i,j,k) along the axis has a quad
  abbrev has_quad : Axis → ℕ → ℕ → ℕ → Bool
  has_quad a i j k = inner n a i j k && crossed_from n s cut a i j k

  module _ (uncut : Uncut n s cut) (i j k : ℕ) (hi : i < n.nx) (hj : j < n.ny) (hk : k < n.nz) where
    abbrev in_order : (a : Axis) (x y z : ℕ) → EdgeIn n a x y z → has_quad a x y z ≡ crossed_from n s cut a x y z
    in_order = crossed_inner_lem n s cut uncut

    abbrev no_quad : (a : Axis) (x y z : ℕ) → (Inner n a x y z → ⊥) → has_quad a x y z ≡ false
    no_quad a x y z = not_inner n a x y z (crossed_from n s cut a x y z)

    -- square to x: below it the cube (i−1,j,k), with its face 1, and above it (i,j,k), with its face 0
    balance_x : (u v : ℕ) → face_x loops_of n s cut u v i j k ≡ face_x loops_of n s cut v u i j k
    balance_x u v =
        rw (up j, up k)
        (one_face (has_quad Y i j k) (has_quad Z i (j + 1) k) (has_quad Y i j (k + 1)) (has_quad Z i j k)
        (metal n s cut i j k) (metal n s cut i (j + 1) k) (metal n s cut i (j + 1) (k + 1)) (metal n s cut i j (k + 1))
        (D cut (sample_at n s i j k) (sample_at n s i (j + 1) k) (sample_at n s i (j + 1) (k + 1)) (sample_at n s i j (k + 1)))
        (ring_vertex 1 (i - 1) j k) (ring_vertex 0 i j k) (four 0 i (i + 1) n.nx (j + 1) n.ny (k + 1) n.nz)
        (λ h. (in_order Y i j k (omega arith), in_order Z i (j + 1) k (omega arith), in_order Y i j (k + 1) (omega arith), in_order Z i j k (omega arith)))
        (λ h p q hp hq e. (linked_vertex 1 (i - 1) j k p q (omega arith) (omega arith) (omega arith) hp hq (rw (back i h.0) e), linked_vertex 0 i j k p q (omega arith) (omega arith) (omega arith) hp hq e))
        (λ f. (no_quad Y i j k (λ h. f (omega arith)), no_quad Z i (j + 1) k (λ h. f (omega arith)), no_quad Y i j (k + 1) (λ h. f (omega arith)), no_quad Z i j k (λ h. f (omega arith)))) u v)

    -- square to y: (i,j,k) with its face 2, and (i,j−1,k) with its face 3
    balance_y : (u v : ℕ) → face_y loops_of n s cut u v i j k ≡ face_y loops_of n s cut v u i j k
    balance_y u v =
        rw (up i, up k)
        (one_face (has_quad X i j k) (has_quad Z (i + 1) j k) (has_quad X i j (k + 1)) (has_quad Z i j k)
        (metal n s cut i j k) (metal n s cut (i + 1) j k) (metal n s cut (i + 1) j (k + 1)) (metal n s cut i j (k + 1))
        (D cut (sample_at n s i j k) (sample_at n s (i + 1) j k) (sample_at n s (i + 1) j (k + 1)) (sample_at n s i j (k + 1)))
        (ring_vertex 2 i j k) (ring_vertex 3 i (j - 1) k) (four (i + 1) n.nx 0 j (j + 1) n.ny (k + 1) n.nz)
        (λ h. (in_order X i j k (omega arith), in_order Z (i + 1) j k (omega arith), in_order X i j (k + 1) (omega arith), in_order Z i j k (omega arith)))
        (λ h p q hp hq e. (linked_vertex 2 i j k p q (omega arith) (omega arith) (omega arith) hp hq e, linked_vertex 3 i (j - 1) k p q (omega arith) (omega arith) (omega arith) hp hq (rw (back j h.1) e)))
        (λ f. (no_quad X i j k (λ h. f (omega arith)), no_quad Z (i + 1) j k (λ h. f (omega arith)), no_quad X i j (k + 1) (λ h. f (omega arith)), no_quad Z i j k (λ h. f (omega arith)))) u v)

    -- square to z: (i,j,k−1) with its face 5, and (i,j,k) with its face 4
    balance_z : (u v : ℕ) → face_z loops_of n s cut u v i j k ≡ face_z loops_of n s cut v u i j k
    balance_z u v =
        rw (up i, up j)
        (one_face (has_quad X i j k) (has_quad Y (i + 1) j k) (has_quad X i (j + 1) k) (has_quad Y i j k)
        (metal n s cut i j k) (metal n s cut (i + 1) j k) (metal n s cut (i + 1) (j + 1) k) (metal n s cut i (j + 1) k)
        (D cut (sample_at n s i j k) (sample_at n s (i + 1) j k) (sample_at n s (i + 1) (j + 1) k) (sample_at n s i (j + 1) k))
        (ring_vertex 5 i j (k - 1)) (ring_vertex 4 i j k) (four (i + 1) n.nx (j + 1) n.ny 0 k (k + 1) n.nz)
        (λ h. (in_order X i j k (omega arith), in_order Y (i + 1) j k (omega arith), in_order X i (j + 1) k (omega arith), in_order Y i j k (omega arith)))
        (λ h p q hp hq e. (linked_vertex 5 i j (k - 1) p q (omega arith) (omega arith) (omega arith) hp hq (rw (back k h.2) e), linked_vertex 4 i j k p q (omega arith) (omega arith) (omega arith) hp hq e))
        (λ f. (no_quad X i j k (λ h. f (omega arith)), no_quad Y (i + 1) j k (λ h. f (omega arith)), no_quad X i (j + 1) k (λ h. f (omega arith)), no_quad Y i j k (λ h. f (omega arith)))) u v)

  pub all_balanced : Uncut n s cut → (u v : ℕ) → walks_over u v (quads loops_of n s cut) ≡ walks_over v u (quads loops_of n s cut)
  all_balanced uncut u v =
      by_faces loops_of n s cut u v
      ∙ ap₂ (λ (x y : ℕ). x + y)
      (ap₂ (λ (x y : ℕ). x + y)
      (boxed_same _ _ n.nx n.ny n.nz (λ i j k hi hj hk. balance_x uncut i j k hi hj hk u v))
      (boxed_same _ _ n.nx n.ny n.nz (λ i j k hi hj hk. balance_y uncut i j k hi hj hk u v)))
      (boxed_same _ _ n.nx n.ny n.nz (λ i j k hi hj hk. balance_z uncut i j k hi hj hk u v))
      ∙ sym (by_faces loops_of n s cut v u)
