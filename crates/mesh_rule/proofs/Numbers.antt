-- "Vertices: for each cube by rising number, one for each loop", and "the vertex is the one whose mask holds that edge": the number that
-- `vertex_number` gives is that of the one vertex of the cube whose mask holds the edge.
-- Assumes nothing.
use Prim.Native.Nat.{ℕ, zero, suc, ◌+◌, ◌-◌, ◌≤◌, ◌<◌}
use mathlib.Core.Path.{◌≡◌, refl, ap, sym, ◌∙◌}
use mathlib.Core.Logic.{◌⊎◌, inl, inr}
use mathlib.Core.Bool.{true}
use mathlib.Core.List.{List, [], ◌∷◌, map, Memᴰ}
use native.Mathlib.Nat.{not-suc-le-zero, le_of_suc-le-suc}
use native.Mathlib.Omega.{arith}
use lib.ListN.{length, get_or, length-map}
use Rattle.laws.proofs.Filled.{mem_at}
use Rattle.laws.specs.Bits.{holds}
use Rattle.laws.proofs.Below.{length-below, get_or-below, split}
use Rattle.laws.proofs.Bits.{bit_le}
use Rattle.laws.proofs.Index.{index_lt}
use Rattle.laws.proofs.Tests.{lt_or_ge}
use Rattle.block.specs.declared.Cut.{Cut}
use Rattle.block.specs.declared.Size.{Size}
use Rattle.block.specs.Numbering.{cube_number, cube_count}
use Rattle.block.proofs.Numbering.{cube_back}
use Rattle.cube_rule.specs.Edges.{crossed_at}
use Rattle.cube_rule.specs.Laws.{CubeLaws}
use Rattle.cube_rule.specs.Links.{Decider}
use Rattle.cube_rule.specs.Rule.{holders, first_holder}
use Rattle.mesh_rule.specs.Grid.{corners_at, corners_of}
use Rattle.mesh_rule.specs.Mesh.{Vertex, cube_loops, vertices_of, vertices_before, vertices, vertex_of, Holder, vertex_number}
use Rattle.mesh_rule.specs.Layers.{vertex_at}
use Rattle.mesh_rule.proofs.Holders.{first_lt, first_holds, only_first}
use Rattle.mesh_rule.proofs.Inner.{CrossedIn}

mapped : (c : ℕ) (ms : List ℕ) (p : ℕ) (d : Vertex) → p < length ms
    → get_or (map (λ (m : ℕ). record { cube = c; mask = m }) ms) p d ≡ record { cube = c; mask = get_or ms p 0 }
mapped c [] p d h = absurd (not-suc-le-zero h)
mapped c (m ∷ ms) zero d h = refl
mapped c (m ∷ ms) (suc p) d h = mapped c ms p d (le_of_suc-le-suc h)

-- the cube (i,j,k) has the corners (i,j,k) to (i+1,j+1,k+1)
pub corners_of_number : (n : Size) (s : List ℕ) (i j k : ℕ) → i < n.nx - 1 → j < n.ny - 1 → corners_of n s (cube_number n i j k) ≡ corners_at n s i j k
unfolding corners_of
corners_of_number n s i j k hi hj = cube_back n (corners_at n s) i j k hi hj

module _ (loops_of : Cut → List ℕ → List ℕ) (n : Size) (s : List ℕ) (cut : Cut) where
  -- a cube has one vertex for each loop
  pub one_for_each_loop : (c : ℕ) → length (vertices_of loops_of n s cut c) ≡ length (cube_loops loops_of n s cut c)
  unfolding vertices_of
  one_for_each_loop c = length-map (cube_loops loops_of n s cut c) (λ (m : ℕ). record { cube = c; mask = m })

  -- each loop of a cube is a vertex: loop p of the cube c stands behind the vertices of the cubes before c
  pub loop_stands : (c p : ℕ) → c < cube_count n → p < length (cube_loops loops_of n s cut c)
      → vertex_of loops_of n s cut (length (vertices_before loops_of n s cut c) + p) ≡ record { cube = c; mask = get_or (cube_loops loops_of n s cut c) p 0 }
  unfolding vertices vertices_before vertices_of
  loop_stands c p hc hp =
      get_or-below (vertices_of loops_of n s cut) (record { cube = 0; mask = 0 }) (cube_count n) c p hc (rw (one_for_each_loop c) hp)
      ∙ mapped c (cube_loops loops_of n s cut c) p (record { cube = 0; mask = 0 }) hp

  -- the vertices of a cube before another stand before that one's
  before : (b c : ℕ) → b < c → length (vertices_before loops_of n s cut b) + length (cube_loops loops_of n s cut b) ≤ length (vertices_before loops_of n s cut c)
  unfolding vertices_before
  before b c l = omega (arith, one_for_each_loop b, length-below (vertices_of loops_of n s cut) c b l)

  pub loop_lt : (c p : ℕ) → c < cube_count n → p < length (cube_loops loops_of n s cut c)
      → length (vertices_before loops_of n s cut c) + p < length (vertices loops_of n s cut)
  unfolding vertices
  loop_lt c p hc hp = omega (arith, before c (cube_count n) hc)

  -- and each vertex is a loop of a cube
  record Stands (v : ℕ) : Type 0 where
    pub cube : ℕ
    pub nth : ℕ
    pub cube_lt : cube < cube_count n
    pub nth_lt : nth < length (cube_loops loops_of n s cut cube)
    pub number : v ≡ length (vertices_before loops_of n s cut cube) + nth
    pub is : vertex_of loops_of n s cut v ≡ record { cube = cube; mask = get_or (cube_loops loops_of n s cut cube) nth 0 }

  stands : (v : ℕ) → v < length (vertices loops_of n s cut) → Stands v
  unfolding vertices vertices_before
  stands v h =
      let r = split (vertices_of loops_of n s cut) (cube_count n) v h in
      let l : r.1 < length (cube_loops loops_of n s cut r.0) = rw (one_for_each_loop r.0) at r.3 in
      record {
        cube = r.0;
        nth = r.1;
        cube_lt = r.2;
        nth_lt = l;
        number = r.4;
        is = ap (vertex_of loops_of n s cut) r.4 ∙ loop_stands r.0 r.1 r.2 l;
      }

  -- its cube is one of the block's, and its mask is one of that cube's loops
  pub vertex_is_loop : (v : ℕ) → v < length (vertices loops_of n s cut)
      → ((vertex_of loops_of n s cut v).cube < cube_count n) × Memᴰ (vertex_of loops_of n s cut v).mask (cube_loops loops_of n s cut (vertex_of loops_of n s cut v).cube)
  vertex_is_loop v h =
      let a = stands v h in
      rw a.is (a.cube_lt, mem_at (cube_loops loops_of n s cut a.cube) a.nth a.nth_lt)

  -- the vertices stand by their cubes
  pub by_cube : (u v : ℕ) → u ≤ v → v < length (vertices loops_of n s cut) → (vertex_of loops_of n s cut u).cube ≤ (vertex_of loops_of n s cut v).cube
  by_cube u v h hv =
      let a = stands u (omega arith) in
      let b = stands v hv in
      rw (a.is, b.is) (go a b (lt_or_ge b.cube a.cube))
    where
      go : (a : Stands u) (b : Stands v) → (b.cube < a.cube) ⊎ (a.cube ≤ b.cube) → a.cube ≤ b.cube
      go a b (inl l) = absurd (omega (arith, a.number, b.number, b.nth_lt, before b.cube a.cube l))
      go a b (inr g) = g

  module _ {D : Decider} (laws : CubeLaws D loops_of) where
    -- there is one wherever the edge is crossed, and it has the number that `vertex_number` gives
    pub vertex_there : (c e : ℕ) → c < cube_count n → e < 12 → crossed_at cut (corners_of n s c) e ≡ true → Holder loops_of n s cut (vertex_number loops_of n s cut c e) c e
    unfolding vertex_number
    vertex_there c e hc he x =
        let some : 0 < holders e (cube_loops loops_of n s cut c) = rw (laws.each cut (corners_of n s c) e he, x) (omega arith) in
        let p : first_holder e (cube_loops loops_of n s cut c) < length (cube_loops loops_of n s cut c) = first_lt e (cube_loops loops_of n s cut c) some in
        let is = loop_stands c (first_holder e (cube_loops loops_of n s cut c)) hc p in
        record {
          is_vertex = loop_lt c (first_holder e (cube_loops loops_of n s cut c)) hc p;
          in_cube = ap (λ (v : Vertex). v.cube) is;
          holds_edge = ap (λ (v : Vertex). holds v.mask e) is ∙ first_holds e (cube_loops loops_of n s cut c) some;
        }

    -- and there is no other
    pub the_vertex : (v c e : ℕ) → e < 12 → Holder loops_of n s cut v c e → v ≡ vertex_number loops_of n s cut c e
    unfolding vertex_number
    the_vertex v c e he h = go (stands v h.is_vertex)
      where
        go : Stands v → v ≡ length (vertices_before loops_of n s cut c) + first_holder e (cube_loops loops_of n s cut c)
        go a =
            let same : a.cube ≡ c = ap (λ (v : Vertex). v.cube) (sym a.is) ∙ h.in_cube in
            let held : holds (get_or (cube_loops loops_of n s cut a.cube) a.nth 0) e ≡ true = ap (λ (v : Vertex). holds v.mask e) (sym a.is) ∙ h.holds_edge in
            let one : holders e (cube_loops loops_of n s cut a.cube) ≤ 1 = rw (laws.each cut (corners_of n s a.cube) e he) (bit_le (crossed_at cut (corners_of n s a.cube) e)) in
            let first = only_first e (cube_loops loops_of n s cut a.cube) one a.nth a.nth_lt held in
            a.number
            ∙ ap (λ (p : ℕ). length (vertices_before loops_of n s cut a.cube) + p) first
            ∙ ap (λ (d : ℕ). length (vertices_before loops_of n s cut d) + first_holder e (cube_loops loops_of n s cut d)) same

    -- the same of a cube by its coordinates
    pub vertex_at_lem : (x y z e : ℕ) → CrossedIn n s cut x y z e → Holder loops_of n s cut (vertex_at loops_of n s cut x y z e) (cube_number n x y z) e
    vertex_at_lem x y z e h =
        vertex_there (cube_number n x y z) e
        (index_lt (n.nx - 1) (n.ny - 1) x y z h.cube_in_lem.0 h.cube_in_lem.1 (n.nz - 1) h.cube_in_lem.2)
        h.edge_lt
        (rw (corners_of_number n s x y z h.cube_in_lem.0 h.cube_in_lem.1) h.is_crossed)
