-- What a quad of the mesh is and which way it faces (document 01, "The mesh"): from metal to hollow.
use Rattle.std.specs.Prelude.{ℕ, ◌+◌, ◌*◌, ◌≤◌, ◌≡◌, true, cond, List, ℤ, pos, neg_ℤ, ◌-ℤ◌, ◌*ℤ◌, ◌≤ℤ◌}
use Rattle.block.specs.declared.Cut.{Cut}
use Rattle.block.specs.declared.Size.{Size}
use Rattle.block.specs.Numbering.{Axis, X, Y, Z, at_cube}
use Rattle.mesh_rule.specs.Grid.{metal, inner, crossed_from}
use Rattle.mesh_rule.specs.Mesh.{Quad, turned, vertex_of, AllHold}

-- the axis after this one: an axis and the next two are a right-handed frame
abbrev pub next : Axis → Axis
next X = Y
next Y = Z
next Z = X

-- the coordinate of the cube with number c
abbrev pub coordinate : Size → Axis → ℕ → ℕ
coordinate n X c = at_cube n (λ x y z. x) c
coordinate n Y c = at_cube n (λ x y z. y) c
coordinate n Z c = at_cube n (λ x y z. z) c

module _ (loops_of : Cut → List ℕ → List ℕ) (n : Size) (s : List ℕ) (cut : Cut) where
  -- where vertex v stands along an axis, if `offset v` is its offset in its cube, and the way from u to v; all in d-ths of a grid step
  abbrev pub place : ℕ → (ℕ → Axis → ℕ) → ℕ → Axis → ℤ
  place d offset v b = pos (d * coordinate n b (vertex_of loops_of n s cut v).cube + offset v b)

  abbrev pub span : ℕ → (ℕ → Axis → ℕ) → ℕ → ℕ → Axis → ℤ
  span d offset u v b = place d offset v b -ℤ place d offset u b

  -- twice the signed area of the quad, seen against the axis: the part along the axis of the cross product of its diagonals
  abbrev pub twice_area : ℕ → (ℕ → Axis → ℕ) → Axis → Quad → ℤ
  twice_area d offset a q =
      span d offset q.v0 q.v2 (next a) *ℤ span d offset q.v1 q.v3 (next (next a))
      -ℤ span d offset q.v0 q.v2 (next (next a)) *ℤ span d offset q.v1 q.v3 (next a)

  -- the quad faces the hollow end of the edge along the axis from (i,j,k), wherever in their closed cubes its vertices stand: the area along the
  -- edge from its metal end to its hollow end is never negative
  abbrev pub FacesHollow : Axis → ℕ → ℕ → ℕ → Quad → Type 0
  FacesHollow a i j k q =
      (d : ℕ) (offset : ℕ → Axis → ℕ) → ((v : ℕ) (b : Axis) → offset v b ≤ d)
      → pos 0 ≤ℤ cond (metal n s cut i j k) (twice_area d offset a q) (neg_ℤ (twice_area d offset a q))

  -- q is the quad of a crossed inner edge: its four vertices, in the table's order if the lower sample is positive, and which way it faces
  pub record QuadOf (q : Quad) : Type 0 where
    pub axis : Axis
    pub i : ℕ
    pub j : ℕ
    pub k : ℕ
    pub is_inner : inner n axis i j k ≡ true
    pub is_crossed : crossed_from n s cut axis i j k ≡ true
    pub all_hold_lem : AllHold loops_of n s cut axis i j k (turned (metal n s cut i j k) q)
    pub faces : FacesHollow axis i j k q
