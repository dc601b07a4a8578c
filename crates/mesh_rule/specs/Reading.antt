-- Quads put back into 01's order (document 02, Nine): "Demand 3 reads the quads put back into 01's order". A quad tells the axis of its edge through the
-- cubes of its vertices. Those along x come first, then y, then z, each in the order in which they came.
use Rattle.std.specs.Prelude.{ℕ, Bool, true, false, cond, List, [], ◌∷◌, ◌++◌, eqb}
use Rattle.block.specs.declared.Size.{Size}
use Rattle.block.specs.Numbering.{Axis, X, Y, Z}
use Rattle.mesh_rule.specs.Mesh.{Quad, quad}
use Rattle.mesh_rule.specs.Orientation.{coordinate}

abbrev pub same_axis : Axis → Axis → Bool
same_axis X X = true
same_axis X Y = false
same_axis X Z = false
same_axis Y X = false
same_axis Y Y = true
same_axis Y Z = false
same_axis Z X = false
same_axis Z Y = false
same_axis Z Z = true

-- the quads that a buffer holds
abbrev pub in_fours : List ℕ → List Quad
in_fours [] = []
in_fours (a ∷ []) = []
in_fours (a ∷ b ∷ []) = []
in_fours (a ∷ b ∷ c ∷ []) = []
in_fours (a ∷ b ∷ c ∷ d ∷ l) = quad a b c d ∷ in_fours l

-- where `cube v` is the number of the cube of vertex v
module _ (n : Size) (cube : ℕ → ℕ) where
  -- the first and the third cube of a quad agree in the coordinate of its axis alone
  abbrev pub axis_for : Quad → Axis
  axis_for q =
      cond (eqb (coordinate n X (cube q.v0)) (coordinate n X (cube q.v2))) X
      (cond (eqb (coordinate n Y (cube q.v0)) (coordinate n Y (cube q.v2))) Y Z)

  -- those that tell the axis
  unfoldable pub telling : Axis → List Quad → List Quad
  telling a [] = []
  telling a (q ∷ qs) = cond (same_axis a (axis_for q)) (q ∷ telling a qs) (telling a qs)

  unfoldable pub put_back : List Quad → List Quad
  put_back qs = telling X qs ++ telling Y qs ++ telling Z qs
