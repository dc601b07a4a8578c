-- One crossed inner edge from a row: the four cubes in the order of the code are those of 01's table, and their vertices make its quad.
-- Assumes nothing.
use Rattle.std.proofs.Common.{◌≡◌, ℕ, ◌+◌, ◌-◌, Bool, true, false, not, List, [], ◌∷◌, length, refl, ap}
use native.Mathlib.Nat.{sub-zero}
use Rattle.block.specs.declared.Cut.{Cut}
use Rattle.block.specs.declared.Size.{Size}
use Rattle.block.specs.Numbering.{Axis, X, Y, Z}
use Rattle.mesh_rule.specs.Grid.{metal, crossed_from}
use Rattle.mesh_rule.specs.Mesh.{Quad, quad, turned, flat, around, quad_at}
use Rattle.mesh_rule.specs.Layers.{vertex_at}
use Rattle.mesh_rule.proofs.Inner.{Inner, CrossedIn, crossed_round}
use Rattle.quads.specs.declared.Along.{Along}
use Rattle.quads.specs.declared.Along.TheVariants.{AxisX, AxisY, AxisZ}
use Rattle.quads.specs.Edges.{along_axis, crossed_on}
use Rattle.quads.specs.Writing.{row_of_first, row_of_second, row_of_fourth, layer_of_first, back_of, edge_of, up_on, edge_quads}

-- ---- 01's table in the order of the code

-- what holds of the four cubes
pub record Ring (P : ℕ → ℕ → ℕ → ℕ → Type 0) (along : Along) (x j k : ℕ) : Type 0 where
  pub q0 : P (x - back_of along) (row_of_first along j) (layer_of_first along k) (edge_of along + 3)
  pub q1 : P x (row_of_second along j) (layer_of_first along k) (edge_of along + 2)
  pub q2 : P x j k (edge_of along)
  pub q3 : P (x - back_of along) (row_of_fourth along j) k (edge_of along + 1)

module _ (n : Size) (s : List ℕ) (cut : Cut) where
  pub crossed_ring : (along : Along) (x j k : ℕ) → Inner n (along_axis along) x j k → crossed_from n s cut (along_axis along) x j k ≡ true → Ring (CrossedIn n s cut) along x j k
  crossed_ring AxisX x j k h c =
      let r = crossed_round n s cut X x j k h c in
      record { q0 = rw sub-zero r.0; q1 = r.1; q2 = r.2; q3 = rw sub-zero r.3 }
  crossed_ring AxisY x j k h c =
      let r = crossed_round n s cut Y x j k h c in
      record { q0 = r.0; q1 = r.3; q2 = r.2; q3 = r.1 }
  crossed_ring AxisZ x j k h c =
      let r = crossed_round n s cut Z x j k h c in
      record { q0 = r.0; q1 = r.1; q2 = r.2; q3 = r.3 }

module _ (loops_of : Cut → List ℕ → List ℕ) (n : Size) (s : List ℕ) (cut : Cut) where
  -- the four vertices, in this order
  abbrev pub ring_quad : Along → ℕ → ℕ → ℕ → Quad
  ring_quad along x j k =
      quad (vertex_at loops_of n s cut (x - back_of along) (row_of_first along j) (layer_of_first along k) (edge_of along + 3)) (vertex_at loops_of n s cut x (row_of_second along j) (layer_of_first along k) (edge_of along + 2))
      (vertex_at loops_of n s cut x j k (edge_of along)) (vertex_at loops_of n s cut (x - back_of along) (row_of_fourth along j) k (edge_of along + 1))

  -- second and fourth changed, and the sign too
  changed : (b : Bool) (p q r t : ℕ) → turned (not b) (quad p q r t) ≡ turned b (quad p t r q)
  changed true p q r t = refl
  changed false p q r t = refl

  pub turned_is : (along : Along) (x j k : ℕ) → turned (up_on along (metal n s cut x j k)) (ring_quad along x j k) ≡ turned (metal n s cut x j k) (around loops_of n s cut (along_axis along) x j k)
  turned_is AxisX x j k = rw sub-zero
  turned_is AxisY x j k =
      changed (metal n s cut x j k) _ _ _ _
  turned_is AxisZ x j k = refl

  pub quads_of : (axis : Axis) (x j k : ℕ) → crossed_on n s cut axis j k x ≡ true
      → edge_quads loops_of n s cut axis j k x ≡ flat (turned (metal n s cut x j k) (around loops_of n s cut axis x j k) ∷ [])
  unfolding quad_at
  quads_of axis x j k h = rw h

  -- an edge that is not gives none
  pub quads_none : (axis : Axis) (x j k : ℕ) → crossed_on n s cut axis j k x ≡ false → edge_quads loops_of n s cut axis j k x ≡ []
  unfolding quad_at
  quads_none axis x j k h = rw h

  pub quads_four : (axis : Axis) (x j k : ℕ) → crossed_on n s cut axis j k x ≡ true → length (edge_quads loops_of n s cut axis j k x) ≡ 4
  quads_four axis x j k h = ap length (quads_of axis x j k h)
