-- The two ends of a side lie in different cubes, so they are different vertices.
-- Assumes nothing.
use Prim.Native.Nat.{ℕ}
use mathlib.Core.Path.{◌≡◌, sym, ap, ◌∙◌}
use mathlib.Core.Bool.{Bool, true, false}
use mathlib.Core.List.{List, Memᴰ}
use native.Mathlib.Omega.{arith}
use Rattle.block.specs.declared.Cut.{Cut}
use Rattle.block.specs.declared.Size.{Size}
use Rattle.block.specs.Numbering.{Axis, X, Y, Z}
use Rattle.cube_rule.specs.Laws.{CubeLaws}
use Rattle.cube_rule.specs.Links.{Decider}
use Rattle.mesh_rule.specs.Grid.{metal}
use Rattle.mesh_rule.specs.Layers.{vertex_at}
use Rattle.mesh_rule.specs.Mesh.{Quad, turned, around, quads}
use Rattle.mesh_rule.specs.Orientation.{coordinate}
use Rattle.mesh_rule.proofs.Inner.{inner_facts, OneLower, four_cubes, Round}
use Rattle.mesh_rule.proofs.Quads.{edge_of_quad}
use Rattle.mesh_rule.proofs.Reading.{In, cubes, round_in}

-- no side of the quad has one vertex at both ends
abbrev pub Proper : Quad → Type 0
Proper q = (q.v0 ≡ q.v1 → ⊥) × (q.v1 ≡ q.v2 → ⊥) × (q.v2 ≡ q.v3 → ⊥) × (q.v3 ≡ q.v0 → ⊥)

proper_turned : (b : Bool) (q : Quad) → Proper q → Proper (turned b q)
proper_turned true q h = h
proper_turned false q h = (λ e. h.3 (sym e), λ e. h.2 (sym e), λ e. h.1 (sym e), λ e. h.0 (sym e))

-- a vertex lies in one cube
pub one_cube : {n : Size} {cube : ℕ → ℕ} {v w i j k i' j' k' : ℕ} → In n cube v i j k → In n cube w i' j' k' → v ≡ w → (i ≡ i') × (j ≡ j') × (k ≡ k')
one_cube {n} {cube} p q e =
    let same : (a : Axis) → coordinate n a (cube _) ≡ coordinate n a (cube _) = λ a. ap (λ (x : ℕ). coordinate n a (cube x)) e in
    (sym p.at_x ∙ same X ∙ q.at_x, sym p.at_y ∙ same Y ∙ q.at_y, sym p.at_z ∙ same Z ∙ q.at_z)

module _ (D : Decider) (loops_of : Cut → List ℕ → List ℕ) (laws : CubeLaws D loops_of) (n : Size) (s : List ℕ) (cut : Cut) where
  -- the vertices round an edge lie in the cubes of 01's table
  abbrev pub Lies : Axis → ℕ → ℕ → ℕ → Type 0
  Lies a i j k = Round (λ x y z e. In n (cubes loops_of n s cut) (vertex_at loops_of n s cut x y z e) x y z) a i j k

  proper_around : (a : Axis) (i j k : ℕ) → OneLower a i j k → Lies a i j k → Proper (around loops_of n s cut a i j k)
  proper_around X i j k h p =
      (λ e. omega (arith, one_cube p.0 p.1 e), λ e. omega (arith, one_cube p.1 p.2 e), λ e. omega (arith, one_cube p.2 p.3 e), λ e. omega (arith, one_cube p.3 p.0 e))
  proper_around Y i j k h p =
      (λ e. omega (arith, one_cube p.0 p.1 e), λ e. omega (arith, one_cube p.1 p.2 e), λ e. omega (arith, one_cube p.2 p.3 e), λ e. omega (arith, one_cube p.3 p.0 e))
  proper_around Z i j k h p =
      (λ e. omega (arith, one_cube p.0 p.1 e), λ e. omega (arith, one_cube p.1 p.2 e), λ e. omega (arith, one_cube p.2 p.3 e), λ e. omega (arith, one_cube p.3 p.0 e))

  pub proper : (q : Quad) → Memᴰ q (quads loops_of n s cut) → Proper q
  proper q m =
      let o = edge_of_quad loops_of n s cut m in
      let h = inner_facts n o.axis o.i o.j o.k o.is_inner in
      rw o.is
      (proper_turned (metal n s cut o.i o.j o.k) (around loops_of n s cut o.axis o.i o.j o.k)
      (proper_around o.axis o.i o.j o.k (four_cubes n o.axis o.i o.j o.k h).0
      (round_in loops_of n s cut laws o.axis o.i o.j o.k h o.is_crossed)))
