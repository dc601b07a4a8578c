-- "Each crossed inner edge gives one quad": the quads are those of the crossed inner edges and no others, as many as there are such edges,
-- and each of their four numbers is that of the one vertex of its cube whose mask holds the edge.
-- Assumes nothing.
use Prim.Native.Nat.{ℕ, zero, suc, ◌+◌, ◌*◌, ◌<◌}
use mathlib.Core.Path.{◌≡◌, refl, ap, ◌∙◌, subst⁻¹}
use mathlib.Core.Logic.{⊎_elim}
use mathlib.Core.Bool.{Bool, true, false, cond, ◌&&◌}
use mathlib.Core.List.Memᴰ
use mathlib.Core.List.{List, [], ◌∷◌, ◌++◌, Memᴰ}
use native.Mathlib.Nat.{not-suc-le-zero, le_of_suc-le-suc}
use native.Mathlib.Omega.{arith}
use lib.ListN.{length, get_or, length-append}
use Rattle.laws.specs.Bits.{bit}
use Rattle.laws.proofs.Below.{mem_below, mem_of_below}
use Rattle.laws.specs.Counting.{count}
use Rattle.laws.proofs.Counting.{length-counted}
use Rattle.laws.proofs.Index.{index_lt, index_x, index_y, index_z}
use Rattle.laws.proofs.Tests.{and_both}
use Rattle.block.specs.declared.Cut.{Cut}
use Rattle.block.specs.declared.Size.{Size}
use Rattle.block.specs.Numbering.{Axis, X, Y, Z, sample_index, sample_count, cube_number}
use Rattle.cube_rule.specs.Laws.{CubeLaws}
use Rattle.cube_rule.specs.Links.{Decider}
use Rattle.mesh_rule.specs.Grid.{crossed_inner, metal, inner, crossed_from}
use Rattle.mesh_rule.specs.Mesh.{Quad, quad, turned, flat, vertices, Holder, AllHold, around, quad_at, quads_before, quads}
use Rattle.mesh_rule.specs.Layers.{vertex_at}
use Rattle.mesh_rule.proofs.Inner.{inner_facts, inner_sample, Round, map-round, crossed_round}
use Rattle.mesh_rule.proofs.Numbers.{vertex_at_lem}

-- four numbers a quad
pub flat_length : (qs : List Quad) → length (flat qs) ≡ 4 * length qs
flat_length [] = refl
flat_length (q ∷ qs) = omega (arith, flat_length qs)

-- equal buffers hold equal quads
pub flat_injective : (p q : List Quad) → flat p ≡ flat q → p ≡ q
flat_injective [] [] h = refl
flat_injective [] (b ∷ q) h = absurd (let z : ◌≡◌ {A = ℕ} 0 1 = cc in omega arith)
flat_injective (a ∷ p) [] h = absurd (let z : ◌≡◌ {A = ℕ} 0 1 = cc in omega arith)
flat_injective (a ∷ p) (b ∷ q) h =
    let e : flat p ≡ flat q = cc in
    let e0 : a.v0 ≡ b.v0 = cc in
    let e1 : a.v1 ≡ b.v1 = cc in
    let e2 : a.v2 ≡ b.v2 = cc in
    let e3 : a.v3 ≡ b.v3 = cc in
    λ i. record { v0 = e0 i; v1 = e1 i; v2 = e2 i; v3 = e3 i } ∷ flat_injective p q e i

-- the quad m by the four numbers that the buffer holds of it
pub quad_numbers : (qs : List Quad) (m : ℕ) → m < length qs
    → Memᴰ (quad (get_or (flat qs) (4 * m) 0) (get_or (flat qs) (4 * m + 1) 0) (get_or (flat qs) (4 * m + 2) 0) (get_or (flat qs) (4 * m + 3) 0)) qs
quad_numbers [] m h = absurd (not-suc-le-zero h)
quad_numbers (q ∷ qs) zero h = Memᴰ.head refl
quad_numbers (q ∷ qs) (suc m) h =
    let four : (r : ℕ) → 4 * suc m + r ≡ suc (suc (suc (suc (4 * m + r)))) = λ r. omega arith in
    let none : 4 * suc m ≡ suc (suc (suc (suc (4 * m)))) = omega arith in
    rw (four 1, four 2, four 3, none) (Memᴰ.tail (quad_numbers qs m (le_of_suc-le-suc h)))

-- turned twice
turned_back : (b : Bool) (q : Quad) → turned b (turned b q) ≡ q
turned_back true q = refl
turned_back false q = refl

one_or_none : {A : Type 0} (b : Bool) (x : A) → length (cond b (x ∷ []) []) ≡ bit b
one_or_none true x = refl
one_or_none false x = refl

module _ (loops_of : Cut → List ℕ → List ℕ) (n : Size) (s : List ℕ) (cut : Cut) where
  -- the quad of the edge along the axis a from (i,j,k)
  abbrev pub quad_of : Axis → ℕ → ℕ → ℕ → Quad
  quad_of a i j k = turned (metal n s cut i j k) (around loops_of n s cut a i j k)

  -- q is the quad of a crossed inner edge
  pub record FromEdge (q : Quad) : Type 0 where
    pub axis : Axis
    pub i : ℕ
    pub j : ℕ
    pub k : ℕ
    pub is_inner : inner n axis i j k ≡ true
    pub is_crossed : crossed_from n s cut axis i j k ≡ true
    pub is : q ≡ quad_of axis i j k

  -- ---- how many

  pub quads_along : (a : Axis) (m : ℕ) → length (quads_before loops_of n s cut a m) ≡ count (crossed_inner n s cut a) m
  unfolding quads_before quad_at
  quads_along a m = length-counted _ (crossed_inner n s cut a) (λ p. one_or_none (crossed_inner n s cut a p) _) m

  -- as many quads as crossed inner edges
  pub quad_count_lem : length (quads loops_of n s cut)
      ≡ count (crossed_inner n s cut X) (sample_count n) + count (crossed_inner n s cut Y) (sample_count n) + count (crossed_inner n s cut Z) (sample_count n)
  unfolding quads
  quad_count_lem = simp (length-append, quads_along)

  -- ---- which

  in_at : (a : Axis) (i j k : ℕ) → inner n a i j k ≡ true → crossed_from n s cut a i j k ≡ true
      → Memᴰ (quad_of a i j k) (quad_at loops_of n s cut a i j k)
  unfolding quad_at
  in_at a i j k h x = rw (h, x) (Memᴰ.head refl)

  of_at : {q : Quad} (a : Axis) (i j k : ℕ) → Memᴰ q (quad_at loops_of n s cut a i j k) → FromEdge q
  unfolding quad_at
  of_at {q} a i j k m = go (inner n a i j k && crossed_from n s cut a i j k) refl m
    where
      go : (b : Bool) → (inner n a i j k && crossed_from n s cut a i j k) ≡ b → Memᴰ q (cond b (quad_of a i j k ∷ []) []) → FromEdge q
      go true h m =
          let p = and_both _ _ h in
          record { axis = a; i = i; j = j; k = k; is_inner = p.0; is_crossed = p.1; is = Memᴰ.eq_of_singleton m }
      go false h m = absurd (Memᴰ.not-nil m)

  in_along : (a : Axis) (i j k : ℕ) → inner n a i j k ≡ true → crossed_from n s cut a i j k ≡ true
      → Memᴰ (quad_of a i j k) (quads_before loops_of n s cut a (sample_count n))
  unfolding quads_before
  in_along a i j k h x =
      let b = inner_sample n a i j k (inner_facts n a i j k h) in
      mem_below _ (sample_count n) (sample_index n i j k) (index_lt n.nx n.ny i j k b.0 b.1 n.nz b.2)
      (rw (index_x n.nx n.ny i j k b.0 b.1, index_y n.nx n.ny i j k b.0 b.1, index_z n.nx n.ny i j k b.0 b.1)
      (in_at a i j k h x))

  of_along : {q : Quad} (a : Axis) → Memᴰ q (quads_before loops_of n s cut a (sample_count n)) → FromEdge q
  unfolding quads_before
  of_along a m = of_at a _ _ _ (mem_of_below _ (sample_count n) m).2

  along : Axis → List Quad
  along a = quads_before loops_of n s cut a (sample_count n)

  -- each crossed inner edge has its quad
  pub quad_of_edge : (a : Axis) (i j k : ℕ) → inner n a i j k ≡ true → crossed_from n s cut a i j k ≡ true
      → Memᴰ (turned (metal n s cut i j k) (around loops_of n s cut a i j k)) (quads loops_of n s cut)
  unfolding quads along
  quad_of_edge X i j k h x = Memᴰ.append_left (along Z) (Memᴰ.append_left (along Y) (in_along X i j k h x))
  quad_of_edge Y i j k h x = Memᴰ.append_left (along Z) (Memᴰ.append_right (along X) (in_along Y i j k h x))
  quad_of_edge Z i j k h x = Memᴰ.append_right (along X ++ along Y) (in_along Z i j k h x)

  -- and each quad is that of such an edge
  pub edge_of_quad : {q : Quad} → Memᴰ q (quads loops_of n s cut) → FromEdge q
  unfolding quads
  edge_of_quad m = ⊎_elim (λ l. ⊎_elim (of_along X) (of_along Y) (Memᴰ.append_cases _ l)) (of_along Z) (Memᴰ.append_cases _ m)

  -- ---- of which vertices

  module _ {D : Decider} (laws : CubeLaws D loops_of) where
    -- by 01's table: each is that of a vertex of its cube, and the mask of that vertex holds the edge
    pub round_holds : (a : Axis) (i j k : ℕ) → inner n a i j k ≡ true → crossed_from n s cut a i j k ≡ true
        → AllHold loops_of n s cut a i j k (around loops_of n s cut a i j k)
    round_holds a i j k h x = all_hold_lem a i j k (map-round (vertex_at_lem loops_of n s cut laws) a i j k (crossed_round n s cut a i j k (inner_facts n a i j k h) x))
      where
        all_hold_lem : (a : Axis) (i j k : ℕ) → Round (λ x y z e. Holder loops_of n s cut (vertex_at loops_of n s cut x y z e) (cube_number n x y z) e) a i j k
            → AllHold loops_of n s cut a i j k (around loops_of n s cut a i j k)
        all_hold_lem X i j k r = r
        all_hold_lem Y i j k r = r
        all_hold_lem Z i j k r = r

    pub quad_holds : {q : Quad} (e : FromEdge q) → AllHold loops_of n s cut e.axis e.i e.j e.k (turned (metal n s cut e.i e.j e.k) q)
    quad_holds {q} e =
        subst⁻¹ (AllHold loops_of n s cut e.axis e.i e.j e.k)
        (ap (turned (metal n s cut e.i e.j e.k)) e.is ∙ turned_back (metal n s cut e.i e.j e.k) (around loops_of n s cut e.axis e.i e.j e.k))
        (round_holds e.axis e.i e.j e.k e.is_inner e.is_crossed)

    -- so every number of every quad is below the vertex count
    pub quad_inside : {q : Quad} → Memᴰ q (quads loops_of n s cut)
        → (q.v0 < length (vertices loops_of n s cut)) × (q.v1 < length (vertices loops_of n s cut)) × (q.v2 < length (vertices loops_of n s cut)) × (q.v3 < length (vertices loops_of n s cut))
    quad_inside {q} m = let e = edge_of_quad m in back (metal n s cut e.i e.j e.k) (inside e.axis e.i e.j e.k _ (quad_holds e))
      where
        inside : (a : Axis) (i j k : ℕ) (q : Quad) → AllHold loops_of n s cut a i j k q
            → (q.v0 < length (vertices loops_of n s cut)) × (q.v1 < length (vertices loops_of n s cut)) × (q.v2 < length (vertices loops_of n s cut)) × (q.v3 < length (vertices loops_of n s cut))
        inside X i j k q r = (r.0.is_vertex, r.1.is_vertex, r.2.is_vertex, r.3.is_vertex)
        inside Y i j k q r = (r.0.is_vertex, r.1.is_vertex, r.2.is_vertex, r.3.is_vertex)
        inside Z i j k q r = (r.0.is_vertex, r.1.is_vertex, r.2.is_vertex, r.3.is_vertex)

        back : (b : Bool) → ((turned b q).v0 < length (vertices loops_of n s cut)) × ((turned b q).v1 < length (vertices loops_of n s cut)) × ((turned b q).v2 < length (vertices loops_of n s cut)) × ((turned b q).v3 < length (vertices loops_of n s cut))
            → (q.v0 < length (vertices loops_of n s cut)) × (q.v1 < length (vertices loops_of n s cut)) × (q.v2 < length (vertices loops_of n s cut)) × (q.v3 < length (vertices loops_of n s cut))
        back true r = r
        back false r = omega arith
