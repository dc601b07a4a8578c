-- From the cube of each vertex, a quad tells its edge and the sign of the edge's lower sample: `read` of the quad of an edge is the edge.
-- Assumes nothing.
use Prim.Native.Nat.{ℕ, ◌-◌, ◌<◌}
use mathlib.Core.Path.{◌≡◌, refl}
use mathlib.Core.Bool.{Bool, true, false}
use mathlib.Core.List.{List}
use native.Mathlib.Omega.{arith}
use lib.Dec.{eqb}
use borrow.Author.Tests.{eq-eqb, ne_eqb}
use Rattle.laws.proofs.Index.{index_x, index_y, index_z}
use Rattle.block.specs.declared.Cut.{Cut}
use Rattle.block.specs.declared.Size.{Size}
use Rattle.block.specs.Numbering.{Axis, X, Y, Z, cube_number}
use Rattle.cube_rule.specs.Laws.{CubeLaws}
use Rattle.cube_rule.specs.Links.{Decider}
use Rattle.mesh_rule.specs.Grid.{crossed_from}
use Rattle.mesh_rule.specs.Mesh.{Quad, turned, vertex_of, Holder, around}
use Rattle.mesh_rule.specs.Layers.{vertex_at}
use Rattle.mesh_rule.specs.Orientation.{coordinate}
use Rattle.mesh_rule.specs.Reading.{axis_for}
use Rattle.mesh_rule.proofs.Inner.{Inner, CubeIn, OneLower, four_cubes, Round, map-round, crossed_round}
use Rattle.mesh_rule.proofs.Numbers.{vertex_at_lem}

-- what a quad tells: an edge along an axis by its lower sample, and a sign for that sample
pub record Told : Type 0 where
  pub axis : Axis
  pub i : ℕ
  pub j : ℕ
  pub k : ℕ
  pub sign : Bool

abbrev pub told : Axis → ℕ → ℕ → ℕ → Bool → Told
told a i j k b = record { axis = a; i = i; j = j; k = k; sign = b }

module _ (n : Size) (cube : ℕ → ℕ) where
  -- the coordinates of the cube of vertex v
  abbrev cx : ℕ → ℕ
  cx v = coordinate n X (cube v)

  abbrev cy : ℕ → ℕ
  cy v = coordinate n Y (cube v)

  abbrev cz : ℕ → ℕ
  cz v = coordinate n Z (cube v)

  -- Second and third cube agree in the coordinate of the next axis, x after z, if the lower sample is positive.
  abbrev sign_for : Axis → Quad → Bool
  sign_for X q = eqb (cy q.v1) (cy q.v2)
  sign_for Y q = eqb (cz q.v1) (cz q.v2)
  sign_for Z q = eqb (cx q.v1) (cx q.v2)

  abbrev pub read : Quad → Told
  read q = told (axis_for n cube q) (cx q.v2) (cy q.v2) (cz q.v2) (sign_for (axis_for n cube q) q)

  -- vertex v is in the cube (x,y,z)
  pub record In (v x y z : ℕ) : Type 0 where
    pub at_x : cx v ≡ x
    pub at_y : cy v ≡ y
    pub at_z : cz v ≡ z

same : (a : ℕ) → eqb a a ≡ true
same a = eq-eqb a a refl

less : (a : ℕ) → 0 < a → eqb (a - 1) a ≡ false
less a h = ne_eqb (a - 1) a (omega arith)

module _ (loops_of : Cut → List ℕ → List ℕ) (n : Size) (s : List ℕ) (cut : Cut) where
  -- the cube of each vertex
  abbrev pub cubes : ℕ → ℕ
  cubes v = (vertex_of loops_of n s cut v).cube

  -- a quad whose vertices are in the cubes of 01's table tells its edge
  read_turned : (a : Axis) (i j k : ℕ) (b : Bool) → OneLower a i j k → Round (λ x y z e. In n cubes (vertex_at loops_of n s cut x y z e) x y z) a i j k
      → read n cubes (turned b (around loops_of n s cut a i j k)) ≡ told a i j k b
  read_turned X i j k true h r = simp (r.0.at_x, r.2.at_x, r.2.at_y, r.2.at_z, r.1.at_y, same)
  read_turned X i j k false h r = simp (r.0.at_x, r.2.at_x, r.2.at_y, r.2.at_z, r.3.at_y, same, less j h.0)
  read_turned Y i j k true h r = simp (r.0.at_x, r.0.at_y, r.2.at_x, r.2.at_y, r.2.at_z, r.1.at_z, same, less i h.0)
  read_turned Y i j k false h r = simp (r.0.at_x, r.0.at_y, r.2.at_x, r.2.at_y, r.2.at_z, r.3.at_z, same, less i h.0, less k h.1)
  read_turned Z i j k true h r = simp (r.0.at_x, r.0.at_y, r.2.at_x, r.2.at_y, r.2.at_z, r.1.at_x, same, less i h.0, less j h.1)
  read_turned Z i j k false h r = simp (r.0.at_x, r.0.at_y, r.2.at_x, r.2.at_y, r.2.at_z, r.3.at_x, less i h.0, less j h.1)

  pub in_cube : (v x y z e : ℕ) → CubeIn n x y z → Holder loops_of n s cut v (cube_number n x y z) e → In n cubes v x y z
  in_cube v x y z e c h =
      let is = h.in_cube in
      record {
        at_x = rw is (index_x (n.nx - 1) (n.ny - 1) x y z c.0 c.1);
        at_y = rw is (index_y (n.nx - 1) (n.ny - 1) x y z c.0 c.1);
        at_z = rw is (index_z (n.nx - 1) (n.ny - 1) x y z c.0 c.1);
      }

  -- the vertices round a crossed inner edge are in the cubes of 01's table
  pub round_in : {D : Decider} → CubeLaws D loops_of → (a : Axis) (i j k : ℕ) → Inner n a i j k → crossed_from n s cut a i j k ≡ true
      → Round (λ x y z e. In n cubes (vertex_at loops_of n s cut x y z e) x y z) a i j k
  round_in laws a i j k h x =
      map-round (λ x y z e c. in_cube (vertex_at loops_of n s cut x y z e) x y z e c.cube_in_lem (vertex_at_lem loops_of n s cut laws x y z e c)) a i j k
      (crossed_round n s cut a i j k h x)

  -- what is read from the quad of a crossed inner edge is the edge
  pub read_quad : {D : Decider} → CubeLaws D loops_of → (a : Axis) (i j k : ℕ) (b : Bool) → Inner n a i j k → crossed_from n s cut a i j k ≡ true
      → read n cubes (turned b (around loops_of n s cut a i j k)) ≡ told a i j k b
  read_quad laws a i j k b h x = read_turned a i j k b (four_cubes n a i j k h).0 (round_in laws a i j k h x)
