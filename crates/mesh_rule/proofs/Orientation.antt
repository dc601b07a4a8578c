-- Each quad of the mesh is that of a crossed inner edge, and faces from metal to hollow, wherever in their closed cubes its vertices stand. Of
-- two cubes one apart along an axis, all of one is at most all of the other along it, so both terms of the cross product of the diagonals are
-- at least 0 where the lower sample is metal. Where it is hollow, second and fourth have changed places, and that turns the area's sign.
-- Assumes nothing.
use Prim.Native.Nat.{ℕ, zero, suc, ◌+◌, ◌*◌, ◌-◌, ◌≤◌, ◌<◌}
use mathlib.Core.Path.{◌≡◌, refl, ap, ap₂, sym, ◌∙◌, subst⁻¹}
use mathlib.Core.Bool.{Bool, true, false, cond}
use mathlib.Core.List.{List, Memᴰ}
use native.Mathlib.Nat.{mul-suc}
use native.Mathlib.Omega.{arith}
use lib.Dec.{ltb, le→leb}
use lib.ListN.{length, get_or}
use lib.IntN.{ℤ, pos, negsuc, neg_ℤ, ◌+ℤ◌, ◌-ℤ◌, ◌*ℤ◌, neg_ℤ-neg_ℤ, neg_ℤ-+ℤ, +ℤ_comm, *ℤ-zero, *ℤ-negsuc}
use lib.Signed.{◌≤ℤ◌, le_z_yes}
use borrow.Author.Tests.{le-ltb}
use Rattle.block.specs.declared.Cut.{Cut}
use Rattle.block.specs.declared.Size.{Size}
use Rattle.block.specs.Numbering.{Axis, X, Y, Z}
use Rattle.cube_rule.specs.Decider.{joined, loops_of}
use Rattle.cube_rule.specs.Laws.{CubeLaws}
use Rattle.cube_rule.specs.Links.{Decider}
use Rattle.cube_rule.proofs.Laws.{cube_laws}
use Rattle.mesh_rule.specs.Grid.{metal, inner, crossed_from}
use Rattle.mesh_rule.specs.Mesh.{Quad, quad, turned, flat, around, quads}
use Rattle.mesh_rule.specs.Layers.{vertex_at}
use Rattle.mesh_rule.specs.Orientation.{next, place, twice_area, FacesHollow, QuadOf}
use Rattle.mesh_rule.proofs.Example.{size, samples, the_vertices}
use Rattle.mesh_rule.proofs.Example.{cut as cutAt100}
use Rattle.mesh_rule.proofs.Inner.{OneLower, Round, map-round, four_cubes, inner_facts, crossed_round}
use Rattle.mesh_rule.proofs.Numbers.{vertex_at_lem}
use Rattle.mesh_rule.proofs.Reading.{In, cubes, in_cube}
use Rattle.mesh_rule.proofs.Quads.{quad_numbers, edge_of_quad, quad_holds}

-- ---- 01's block with each vertex in the middle of its cube: each of the six quads has the area of one square of the grid, and twice that is
-- 8 in squares of half a step

abbrev area : Axis → Quad → ℤ
area a q = twice_area loops_of (size 3) samples cutAt100 2 (λ v b. 1) a q

pub one_square_each :
    (neg_ℤ (area X (quad 0 4 6 2)) ≡ pos 8) × (area X (quad 1 3 7 5) ≡ pos 8)
    × (neg_ℤ (area Y (quad 0 1 5 4)) ≡ pos 8) × (area Y (quad 2 6 7 3) ≡ pos 8)
    × (neg_ℤ (area Z (quad 0 2 3 1)) ≡ pos 8) × (area Z (quad 4 5 7 6) ≡ pos 8)
one_square_each = rw the_vertices (refl, refl, refl, refl, refl, refl)

-- ---- second and fourth change places: the area's sign turns

product_neg : (m k : ℤ) → m *ℤ neg_ℤ k ≡ neg_ℤ (m *ℤ k)
product_neg m (pos zero) = rw (*ℤ-zero m)
product_neg m (pos (suc n)) = *ℤ-negsuc m n
product_neg m (negsuc n) = sym (neg_ℤ-neg_ℤ (m *ℤ pos (suc n))) ∙ ap neg_ℤ (sym (*ℤ-negsuc m n))

difference_neg : (m k : ℤ) → neg_ℤ (m -ℤ k) ≡ k -ℤ m
difference_neg m k = neg_ℤ-+ℤ m (neg_ℤ k) ∙ ap (λ (z : ℤ). neg_ℤ m +ℤ z) (neg_ℤ-neg_ℤ k) ∙ +ℤ_comm (neg_ℤ m) k

-- a factor whose difference is the other way round
turned_term : (m k l : ℤ) → neg_ℤ (m *ℤ (k -ℤ l)) ≡ m *ℤ (l -ℤ k)
turned_term m k l = sym (product_neg m (k -ℤ l)) ∙ ap (λ (z : ℤ). m *ℤ z) (difference_neg k l)

-- the cross product of (u,v) and (u',v')
abbrev cross : ℤ → ℤ → ℤ → ℤ → ℤ
cross u v u' v' = u *ℤ v' -ℤ v *ℤ u'

exchange : (a b u u' v v' : ℤ) → neg_ℤ (cross a b (u -ℤ u') (v -ℤ v')) ≡ cross a b (u' -ℤ u) (v' -ℤ v)
exchange a b u u' v v' =
    neg_ℤ-+ℤ (a *ℤ (v -ℤ v')) (neg_ℤ (b *ℤ (u -ℤ u'))) ∙ ap₂ (λ (x y : ℤ). x -ℤ y) (turned_term a v v') (turned_term b u u')

-- ---- the one inequality, over the two coordinates u and v across the edge

pick : {A : Type 0} (b c : Bool) (x y : A) → b ≡ c → cond b x y ≡ cond c x y
pick b c x y e = rw e

-- a difference that is at least 0
difference : (m k : ℕ) → k ≤ m → pos m -ℤ pos k ≡ pos (m - k)
difference m zero h = ap pos (same m)
  where
    same : (m : ℕ) → m + 0 ≡ m - 0
    same m = omega arith
difference m (suc k) h = pick (ltb m (suc k)) false (negsuc (suc k - suc m)) (pos (m - suc k)) (le-ltb m (suc k) h)

at_least_zero : (z : ℤ) (a : ℕ) → z ≡ pos a → pos 0 ≤ℤ z
at_least_zero z a e = subst⁻¹ (λ (z : ℤ). pos 0 ≤ℤ z) e (le_z_yes (le→leb 0 a (omega arith)))

-- the second term is minus b times a difference that is at most 0
two_terms : (a b u u' v v' : ℕ) → u ≤ u' → v' ≤ v
    → cross (pos a) (pos b) (pos u -ℤ pos u') (pos v -ℤ pos v') ≡ pos (a * (v - v') + b * (u' - u))
two_terms a b u u' v v' hu hv =
    ap₂ (λ (x y : ℤ). pos a *ℤ x +ℤ y) (difference v v' hv)
    (turned_term (pos b) (pos u) (pos u') ∙ ap (λ (z : ℤ). pos b *ℤ z) (difference u' u hu))

inequality : {u0 u1 u2 u3 v0 v1 v2 v3 : ℕ} → u0 ≤ u2 → v0 ≤ v2 → u3 ≤ u1 → v1 ≤ v3
    → pos 0 ≤ℤ cross (pos u2 -ℤ pos u0) (pos v2 -ℤ pos v0) (pos u3 -ℤ pos u1) (pos v3 -ℤ pos v1)
inequality {u0} {u1} {u2} {u3} {v0} {v1} {v2} {v3} hu hv hu' hv' =
    at_least_zero _ ((u2 - u0) * (v3 - v1) + (v2 - v0) * (u1 - u3))
    (ap₂ (λ (x y : ℤ). cross x y (pos u3 -ℤ pos u1) (pos v3 -ℤ pos v1)) (difference u2 u0 hu) (difference v2 v0 hv)
    ∙ two_terms (u2 - u0) (v2 - v0) u3 u1 v3 v1 hu' hv')

-- ---- the three axes

-- cubes one apart share a plane
apart : (d c x y o o' : ℕ) → 0 < c → x ≡ c - 1 → y ≡ c → o ≤ d → d * x + o ≤ d * y + o'
apart d c x y o o' h hx hy ho =
    omega (arith, ap (λ (x : ℕ). d * x) hx, ap (λ (y : ℕ). d * y) hy, sym (mul-suc d (c - 1)) ∙ ap (λ (x : ℕ). d * x) (back c h))
  where
    back : (c : ℕ) → 0 < c → suc (c - 1) ≡ c
    back c h = omega arith

module _ (loops_of : Cut → List ℕ → List ℕ) (n : Size) (s : List ℕ) (cut : Cut) (d : ℕ) (offset : ℕ → Axis → ℕ) where
  abbrev at : ℕ → Axis → ℤ
  at v b = place loops_of n s cut d offset v b

  turned_area : (a : Axis) (b : Bool) (q : Quad)
      → cond b (twice_area loops_of n s cut d offset a (turned b q)) (neg_ℤ (twice_area loops_of n s cut d offset a (turned b q))) ≡ twice_area loops_of n s cut d offset a q
  turned_area a true q = refl
  turned_area a false q =
      exchange (at q.v2 (next a) -ℤ at q.v0 (next a)) (at q.v2 (next (next a)) -ℤ at q.v0 (next (next a)))
      (at q.v1 (next a)) (at q.v3 (next a)) (at q.v1 (next (next a))) (at q.v3 (next (next a)))

  -- the four vertices are in the cubes of 01's table
  abbrev Around : Axis → ℕ → ℕ → ℕ → Type 0
  Around a i j k = Round (λ x y z e. In n (cubes loops_of n s cut) (vertex_at loops_of n s cut x y z e) x y z) a i j k

  around_area : ((v : ℕ) (b : Axis) → offset v b ≤ d) → (a : Axis) (i j k : ℕ) → OneLower a i j k → Around a i j k
      → pos 0 ≤ℤ twice_area loops_of n s cut d offset a (around loops_of n s cut a i j k)
  around_area w X i j k h r =
      inequality (apart d j _ _ _ _ h.0 r.0.at_y r.2.at_y (w _ Y)) (apart d k _ _ _ _ h.1 r.0.at_z r.2.at_z (w _ Z))
      (apart d j _ _ _ _ h.0 r.3.at_y r.1.at_y (w _ Y)) (apart d k _ _ _ _ h.1 r.1.at_z r.3.at_z (w _ Z))
  around_area w Y i j k h r =
      inequality (apart d k _ _ _ _ h.1 r.0.at_z r.2.at_z (w _ Z)) (apart d i _ _ _ _ h.0 r.0.at_x r.2.at_x (w _ X))
      (apart d k _ _ _ _ h.1 r.3.at_z r.1.at_z (w _ Z)) (apart d i _ _ _ _ h.0 r.1.at_x r.3.at_x (w _ X))
  around_area w Z i j k h r =
      inequality (apart d i _ _ _ _ h.0 r.0.at_x r.2.at_x (w _ X)) (apart d j _ _ _ _ h.1 r.0.at_y r.2.at_y (w _ Y))
      (apart d i _ _ _ _ h.0 r.3.at_x r.1.at_x (w _ X)) (apart d j _ _ _ _ h.1 r.1.at_y r.3.at_y (w _ Y))

-- ---- of any loops that keep the cube's laws

module _ {D : Decider} {loops_of : Cut → List ℕ → List ℕ} (laws : CubeLaws D loops_of) (n : Size) (s : List ℕ) (cut : Cut) where
  -- the quad of each crossed inner edge
  pub faces_hollow : (a : Axis) (i j k : ℕ) → inner n a i j k ≡ true → crossed_from n s cut a i j k ≡ true
      → FacesHollow loops_of n s cut a i j k (turned (metal n s cut i j k) (around loops_of n s cut a i j k))
  faces_hollow a i j k h x d offset w =
      let f = inner_facts n a i j k h in
      let there = map-round (λ x y z e c. in_cube loops_of n s cut (vertex_at loops_of n s cut x y z e) x y z e c.cube_in_lem (vertex_at_lem loops_of n s cut laws x y z e c)) a i j k
      (crossed_round n s cut a i j k f x) in
      subst⁻¹ (λ (z : ℤ). pos 0 ≤ℤ z) (turned_area loops_of n s cut d offset a (metal n s cut i j k) (around loops_of n s cut a i j k))
      (around_area loops_of n s cut d offset w a i j k (four_cubes n a i j k f).0 there)

  -- and so each quad of the mesh
  pub quad_of_lem : {q : Quad} → Memᴰ q (quads loops_of n s cut) → QuadOf loops_of n s cut q
  quad_of_lem {q} m =
      let e = edge_of_quad loops_of n s cut m in
      record {
        axis = e.axis;
        i = e.i;
        j = e.j;
        k = e.k;
        is_inner = e.is_inner;
        is_crossed = e.is_crossed;
        all_hold_lem = quad_holds loops_of n s cut laws e;
        faces = subst⁻¹ (λ (q : Quad). FacesHollow loops_of n s cut e.axis e.i e.j e.k q) e.is
            (faces_hollow e.axis e.i e.j e.k e.is_inner e.is_crossed);
      }

-- ---- of 01's loops

-- the quad m, by the four numbers that the buffer holds of it
pub each_quad : (n : Size) (s : List ℕ) (cut : Cut) (m : ℕ) → m < length (quads loops_of n s cut)
    → QuadOf loops_of n s cut
    (quad (get_or (flat (quads loops_of n s cut)) (4 * m) 0) (get_or (flat (quads loops_of n s cut)) (4 * m + 1) 0)
    (get_or (flat (quads loops_of n s cut)) (4 * m + 2) 0) (get_or (flat (quads loops_of n s cut)) (4 * m + 3) 0))
each_quad n s cut m h = quad_of_lem (cube_laws joined) n s cut (quad_numbers (quads loops_of n s cut) m h)
