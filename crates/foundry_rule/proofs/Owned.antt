-- A quad of vertices that are known to be ours is the quad of a crossed inner edge just if it lies round an inner edge: the vertex of a cube whose mask holds an edge is
-- the one that the mesh has there, and the edge is crossed because a mask holds it.
-- Assumes nothing.
use Prim.Native.Nat.{ℕ, ◌<◌}
use mathlib.Core.Path.{◌≡◌, refl, ap, sym, ◌∙◌}
use mathlib.Core.Bool.{Bool, true, false}
use mathlib.Core.List.{List}
use native.Mathlib.Omega.{arith}
use Rattle.laws.specs.Bits.{bit}
use Rattle.block.specs.declared.Cut.{Cut}
use Rattle.block.specs.declared.Size.{Size}
use Rattle.block.specs.Numbering.{Axis, X, Y, Z}
use Rattle.cube_rule.specs.Decider.{joined, loops_of}
use Rattle.cube_rule.specs.Edges.{crossed_at}
use Rattle.cube_rule.proofs.Laws.{cube_laws}
use Rattle.cube_rule.proofs.Unique.{holding}
use Rattle.mesh_rule.specs.Grid.{corners_at, corners_of, metal, crossed_from}
use Rattle.mesh_rule.specs.Mesh.{Quad, quad, turned, vertex_of, cube_loops, Holder, AllHold, vertex_number, around}
use Rattle.mesh_rule.proofs.Inner.{Inner, inner_facts, inner_test}
use Rattle.mesh_rule.proofs.Numbers.{corners_of_number, vertex_is_loop, the_vertex}
use Rattle.mesh_rule.proofs.Quads.{quad_of, FromEdge, quad_holds}
use Rattle.foundry_rule.proofs.Rounds.{quad_equal}
use Rattle.foundry_rule.proofs.Laid.{third_in, third_is, table_cubes, table_edges, Spot, AllSpots, Laid}

some_bit : (b : Bool) → 0 < bit b → b ≡ true
some_bit true h = refl
some_bit false h = absurd (omega arith)

edges_lt : (a : Axis) → ((table_edges a).v0 < 12) × ((table_edges a).v1 < 12) × ((table_edges a).v2 < 12) × ((table_edges a).v3 < 12)
edges_lt X = omega arith
edges_lt Y = omega arith
edges_lt Z = omega arith

turned_twice : (b : Bool) (q : Quad) → turned b (turned b q) ≡ q
turned_twice true q = refl
turned_twice false q = refl

module _ (n : Size) (s : List ℕ) (cut : Cut) where
  -- ---- our own vertices

  -- an edge that a mask holds is crossed
  held_crossed : {v c e : ℕ} → e < 12 → Holder loops_of n s cut v c e → crossed_at cut (corners_of n s c) e ≡ true
  held_crossed {v} {c} {e} l h =
      let d : ℕ = (vertex_of loops_of n s cut v).cube in
      let some = holding e (cube_loops loops_of n s cut d) (vertex_of loops_of n s cut v).mask (vertex_is_loop loops_of n s cut v h.is_vertex).1 h.holds_edge in
      ap (λ (x : ℕ). crossed_at cut (corners_of n s x) e) (sym h.in_cube)
      ∙ some_bit (crossed_at cut (corners_of n s d) e) (rw ((cube_laws joined).each cut (corners_of n s d) e l) at some)

  -- the first corner's edge along the axis is the edge from the lower sample
  first_edge : (a : Axis) (i j k : ℕ) → crossed_at cut (corners_at n s i j k) (table_edges a).v2 ≡ crossed_from n s cut a i j k
  first_edge X i j k = refl
  first_edge Y i j k = refl
  first_edge Z i j k = refl

  -- the four vertices of a quad, by four cubes and four edges
  abbrev FourHold : Quad → Quad → Quad → Type 0
  FourHold c e q =
      Holder loops_of n s cut q.v0 c.v0 e.v0 × Holder loops_of n s cut q.v1 c.v1 e.v1
      × Holder loops_of n s cut q.v2 c.v2 e.v2 × Holder loops_of n s cut q.v3 c.v3 e.v3

  -- by the table, this is what is said of our own quads
  by_table : (a : Axis) (i j k : ℕ) (q : Quad) → AllHold loops_of n s cut a i j k q → FourHold (table_cubes n a i j k) (table_edges a) q
  by_table X i j k q r = r
  by_table Y i j k q r = r
  by_table Z i j k q r = r

  edge_crossed : (a : Axis) (i j k : ℕ) (q : Quad) → Inner n a i j k → FourHold (table_cubes n a i j k) (table_edges a) q → crossed_from n s cut a i j k ≡ true
  edge_crossed a i j k q h r =
      let c = third_in n a i j k h in
      sym (first_edge a i j k)
      ∙ ap (λ (l : List ℕ). crossed_at cut l (table_edges a).v2) (sym (ap (corners_of n s) (third_is n a i j k) ∙ corners_of_number n s i j k c.0 c.1))
      ∙ held_crossed (edges_lt a).2 r.2

  the : {v c e : ℕ} → e < 12 → Holder loops_of n s cut v c e → v ≡ vertex_number loops_of n s cut c e
  the {v} {c} {e} l h = the_vertex loops_of n s cut (cube_laws joined) v c e l h

  -- the vertices that the mesh has in four cubes, for four edges; by the table, those round an edge
  abbrev numbered : Quad → Quad → Quad
  numbered c e =
      quad (vertex_number loops_of n s cut c.v0 e.v0) (vertex_number loops_of n s cut c.v1 e.v1)
      (vertex_number loops_of n s cut c.v2 e.v2) (vertex_number loops_of n s cut c.v3 e.v3)

  around_is : (a : Axis) (i j k : ℕ) → numbered (table_cubes n a i j k) (table_edges a) ≡ around loops_of n s cut a i j k
  around_is X i j k = refl
  around_is Y i j k = refl
  around_is Z i j k = refl

  -- they are the only ones of these cubes that hold these edges
  hold_around : (a : Axis) (i j k : ℕ) (q : Quad) → FourHold (table_cubes n a i j k) (table_edges a) q → q ≡ around loops_of n s cut a i j k
  hold_around a i j k q r =
      let l = edges_lt a in
      quad_equal (the l.0 r.0) (the l.1 r.1) (the l.2 r.2) (the l.3 r.3) ∙ around_is a i j k

  -- so a quad of such vertices is the quad of the edge
  holds_edge_quad : (a : Axis) (i j k : ℕ) (q : Quad) → FourHold (table_cubes n a i j k) (table_edges a) (turned (metal n s cut i j k) q) → q ≡ quad_of loops_of n s cut a i j k
  holds_edge_quad a i j k q r = sym (turned_twice (metal n s cut i j k) q) ∙ ap (turned (metal n s cut i j k)) (hold_around a i j k _ r)

  -- ---- vertices of another list that are ours

  module _ (words : List ℕ) where
    -- vertex v of the list is vertex u of ours
    pub record Tied (v u : ℕ) : Type 0 where
      pub to_holder : (c e : ℕ) → e < 12 → Spot words v c e → Holder loops_of n s cut u c e
      pub to_spot : (c e : ℕ) → e < 12 → Holder loops_of n s cut u c e → Spot words v c e

    -- the four of a quad
    pub record AllTied (q p : Quad) : Type 0 where
      pub first : Tied q.v0 p.v0
      pub second : Tied q.v1 p.v1
      pub third : Tied q.v2 p.v2
      pub fourth : Tied q.v3 p.v3

    pub tied_turned : (b : Bool) {q p : Quad} → AllTied q p → AllTied (turned b q) (turned b p)
    tied_turned true t = t
    tied_turned false t = record { first = t.first; second = t.fourth; third = t.third; fourth = t.second }

    spots_hold : (a : Axis) (i j k : ℕ) (q p : Quad) → AllTied q p → AllSpots words n a i j k q → FourHold (table_cubes n a i j k) (table_edges a) p
    spots_hold a i j k q p t r =
        let l = edges_lt a in
        (t.first.to_holder _ _ l.0 r.0, t.second.to_holder _ _ l.1 r.1, t.third.to_holder _ _ l.2 r.2, t.fourth.to_holder _ _ l.3 r.3)

    pub hold_spots : (a : Axis) (i j k : ℕ) (q p : Quad) → AllTied q p → AllHold loops_of n s cut a i j k p → AllSpots words n a i j k q
    hold_spots a i j k q p t h =
        let l = edges_lt a in
        let r = by_table a i j k p h in
        (t.first.to_spot _ _ l.0 r.0, t.second.to_spot _ _ l.1 r.1, t.third.to_spot _ _ l.2 r.2, t.fourth.to_spot _ _ l.3 r.3)

    -- a quad that lies round an inner edge is, by our numbers, the quad of that edge
    pub laid_edge : (q p : Quad) → AllTied q p → (d : Laid words n s cut q)
        → (crossed_from n s cut d.axis d.i d.j d.k ≡ true) × (p ≡ quad_of loops_of n s cut d.axis d.i d.j d.k)
    laid_edge q p t d =
        let r = spots_hold d.axis d.i d.j d.k _ _ (tied_turned (metal n s cut d.i d.j d.k) t) d.all_spots in
        (edge_crossed d.axis d.i d.j d.k _ d.is_inner r, holds_edge_quad d.axis d.i d.j d.k p r)

    pub laid_from : (q p : Quad) → AllTied q p → Laid words n s cut q → FromEdge loops_of n s cut p
    laid_from q p t d =
        let e = laid_edge q p t d in
        record { axis = d.axis; i = d.i; j = d.j; k = d.k; is_inner = inner_test n d.axis d.i d.j d.k d.is_inner; is_crossed = e.0; is = e.1 }

    -- and a quad that is so, by our numbers, lies round an inner edge, the same (so this is an abbreviation)
    abbrev pub from_laid : (q p : Quad) → AllTied q p → FromEdge loops_of n s cut p → Laid words n s cut q
    from_laid q p t e = record {
      axis = e.axis;
      i = e.i;
      j = e.j;
      k = e.k;
      is_inner = inner_facts n e.axis e.i e.j e.k e.is_inner;
      all_spots = hold_spots e.axis e.i e.j e.k _ _ (tied_turned (metal n s cut e.i e.j e.k) t) (quad_holds loops_of n s cut (cube_laws joined) e);
    }
