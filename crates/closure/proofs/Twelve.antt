-- At most 12 quads of a mesh meet at a vertex, and at most 12 sides start there. The cube of the vertex tells the edge: along each axis there is at most
-- one edge whose quad has the vertex in its first place, one in its second, one in its third and one in its fourth.
-- Assumes nothing.
use Prim.Native.Nat.{ℕ, ◌+◌, ◌*◌, ◌/◌, ◌%◌, ◌≤◌}
use mathlib.Core.Path.{◌≡◌, refl, ap, sym, ◌∙◌}
use mathlib.Core.Bool.{Bool, true, false, cond, ◌&&◌, ◌||◌}
use mathlib.Core.List.{List, [], ◌∷◌, ◌++◌}
use native.Mathlib.Nat.{le_trans}
use native.Mathlib.Omega.{arith}
use lib.Dec.{eqb}
use lib.ListN.{length, get_or}
use borrow.Author.Tests.{eqb-true}
use Rattle.laws.specs.Bits.{bit}
use Rattle.laws.specs.Counting.{count}
use Rattle.laws.proofs.Counting.{count_none, count_add, count_same, count_one}
use Rattle.laws.proofs.Index.{index_of}
use Rattle.laws.proofs.Sums.{total_same, total_four, total_count, summed, summed_append, summed_below}
use Rattle.laws.proofs.Tests.{and_both}
use Rattle.block.specs.declared.Cut.{Cut}
use Rattle.block.specs.declared.Size.{Size}
use Rattle.block.specs.Numbering.{Axis, X, Y, Z, sample_count, at_sample}
use Rattle.cube_rule.specs.Decider.{joined, loops_of}
use Rattle.cube_rule.specs.Laws.{CubeLaws}
use Rattle.cube_rule.specs.Links.{Decider}
use Rattle.cube_rule.proofs.Laws.{cube_laws}
use Rattle.mesh_rule.specs.Buffers.{mesh_quads}
use Rattle.mesh_rule.specs.Grid.{metal, crossed_from, inner}
use Rattle.mesh_rule.specs.Mesh.{Quad, turned, flat, around, quad_at, quads_before, quads}
use Rattle.mesh_rule.proofs.Inner.{inner_facts, OneLower, four_cubes}
use Rattle.mesh_rule.proofs.Reading.{round_in}
use Rattle.closure.specs.Quads.{has_vertex, quads_at, sides_from}
use Rattle.closure.proofs.Parts.{first, second, third, fourth}
use Rattle.closure.proofs.Ends.{one_cube, Lies}
use Rattle.closure.proofs.Sides.{past, sides_in, sides_summed}

-- ---- of any list: a quad that has the vertex has a side that starts there

-- the sides of a quad that start at v
abbrev starts_in : ℕ → Quad → ℕ
starts_in v = sides_in (λ (a b : ℕ). eqb a v)

some_of_four : (a b c d : Bool) → bit (a || b || c || d) ≤ bit a + bit b + bit c + bit d
some_of_four true b c d = omega arith
some_of_four false true c d = omega arith
some_of_four false false true d = omega arith
some_of_four false false false d = omega arith

first_quad : (v : ℕ) (q : Quad) (qs : List Quad) → count (has_vertex (flat (q ∷ qs)) v) 1 ≤ starts_in v q
unfolding count
first_quad v q qs = omega (arith, some_of_four (eqb q.v0 v) (eqb q.v1 v) (eqb q.v2 v) (eqb q.v3 v))

next_quad : (v : ℕ) (q : Quad) (qs : List Quad) (m : ℕ) → has_vertex (flat (q ∷ qs)) v (1 + m) ≡ has_vertex (flat qs) v m
next_quad v q qs m = rw (at (4 * (1 + m)) (4 * m) (omega arith), at (4 * (1 + m) + 1) (4 * m + 1) (omega arith), at (4 * (1 + m) + 2) (4 * m + 2) (omega arith), at (4 * (1 + m) + 3) (4 * m + 3) (omega arith))
  where
    at : (i k : ℕ) → i ≡ 4 + k → get_or (flat (q ∷ qs)) i 0 ≡ get_or (flat qs) k 0
    at i k e = ap (λ (x : ℕ). get_or (flat (q ∷ qs)) x 0) e ∙ past q qs k

quads_few : (v : ℕ) (qs : List Quad) → quads_at (flat qs) v ≤ summed (starts_in v) qs
quads_few v [] = omega (arith, count_none (has_vertex [] v))
quads_few v (q ∷ qs) =
    let test = has_vertex (flat (q ∷ qs)) v in
    let more : length (flat (q ∷ qs)) / 4 ≡ 1 + length (flat qs) / 4 = omega arith in
    let behind : count (λ (m : ℕ). test (1 + m)) (length (flat qs) / 4) ≡ quads_at (flat qs) v = count_same _ _ (length (flat qs) / 4) (λ m _. next_quad v q qs m) in
    omega (
      arith,
      ap (count test) more ∙ count_add test 1 (length (flat qs) / 4),
      behind,
      first_quad v q qs,
      quads_few v qs,
    )

-- ---- of a mesh

turned_starts : (v : ℕ) (b : Bool) (q : Quad) → starts_in v (turned b q) ≡ starts_in v q
turned_starts v true q = refl
turned_starts v false q = omega arith

-- a quad that may be there
quad_starts : (v : ℕ) (c b : Bool) (q : Quad)
    → summed (starts_in v) (cond c (turned b q ∷ []) []) ≡ bit (c && eqb q.v0 v) + bit (c && eqb q.v1 v) + bit (c && eqb q.v2 v) + bit (c && eqb q.v3 v)
quad_starts v true b q = omega (arith, turned_starts v b q)
quad_starts v false b q = refl

module _ (D : Decider) (loops : Cut → List ℕ → List ℕ) (laws : CubeLaws D loops) (n : Size) (s : List ℕ) (cut : Cut) where
  -- the vertex in this place of its quad tells an edge along this axis
  Tells : (Quad → ℕ) → Axis → Type 0
  Tells f a =
      (i j k i' j' k' : ℕ) → OneLower a i j k → OneLower a i' j' k' → Lies D loops laws n s cut a i j k → Lies D loops laws n s cut a i' j' k'
      → f (around loops n s cut a i j k) ≡ f (around loops n s cut a i' j' k') → (i ≡ i') × (j ≡ j') × (k ≡ k')

  tells_first : (a : Axis) → Tells first a
  unfolding Tells
  tells_first X i j k i' j' k' h h' p q e = omega (arith, one_cube p.0 q.0 e)
  tells_first Y i j k i' j' k' h h' p q e = omega (arith, one_cube p.0 q.0 e)
  tells_first Z i j k i' j' k' h h' p q e = omega (arith, one_cube p.0 q.0 e)

  tells_second : (a : Axis) → Tells second a
  unfolding Tells
  tells_second X i j k i' j' k' h h' p q e = omega (arith, one_cube p.1 q.1 e)
  tells_second Y i j k i' j' k' h h' p q e = omega (arith, one_cube p.1 q.1 e)
  tells_second Z i j k i' j' k' h h' p q e = omega (arith, one_cube p.1 q.1 e)

  tells_third : (a : Axis) → Tells third a
  unfolding Tells
  tells_third X i j k i' j' k' h h' p q e = one_cube p.2 q.2 e
  tells_third Y i j k i' j' k' h h' p q e = one_cube p.2 q.2 e
  tells_third Z i j k i' j' k' h h' p q e = one_cube p.2 q.2 e

  tells_fourth : (a : Axis) → Tells fourth a
  unfolding Tells
  tells_fourth X i j k i' j' k' h h' p q e = omega (arith, one_cube p.3 q.3 e)
  tells_fourth Y i j k i' j' k' h h' p q e = omega (arith, one_cube p.3 q.3 e)
  tells_fourth Z i j k i' j' k' h h' p q e = omega (arith, one_cube p.3 q.3 e)

  module _ (v : ℕ) where
    -- the edge from (i,j,k) has a quad, with v in this place
    abbrev meets : (Quad → ℕ) → Axis → ℕ → ℕ → ℕ → Bool
    meets f a i j k = inner n a i j k && crossed_from n s cut a i j k && eqb (f (around loops n s cut a i j k)) v

    abbrev Met : (Quad → ℕ) → Axis → ℕ → ℕ → ℕ → Type 0
    Met f a i j k = OneLower a i j k × Lies D loops laws n s cut a i j k × (f (around loops n s cut a i j k) ≡ v)

    met : (f : Quad → ℕ) (a : Axis) (i j k : ℕ) → meets f a i j k ≡ true → Met f a i j k
    met f a i j k h =
        let p = and_both _ _ h in
        let q = and_both _ _ p.0 in
        let is_inner = inner_facts n a i j k q.0 in
        ((four_cubes n a i j k is_inner).0, round_in loops n s cut laws a i j k is_inner q.1, eqb-true _ _ p.1)

    -- the samples from which two such edges start are one
    one_start : (f : Quad → ℕ) (a : Axis) → Tells f a → (p q : ℕ) → at_sample n (meets f a) p ≡ true → at_sample n (meets f a) q ≡ true → p ≡ q
    unfolding Tells
    one_start f a tells p q x y =
        let m = met f a (p % n.nx) (p / n.nx % n.ny) (p / n.nx / n.ny) x in
        let k = met f a (q % n.nx) (q / n.nx % n.ny) (q / n.nx / n.ny) y in
        let e = tells (p % n.nx) (p / n.nx % n.ny) (p / n.nx / n.ny) (q % n.nx) (q / n.nx % n.ny) (q / n.nx / n.ny) m.0 k.0 m.1 k.1 (m.2 ∙ sym k.2) in
        sym (index_of n.nx n.ny p) ∙ rw (e.0, e.1, e.2) (index_of n.nx n.ny q)

    abbrev met_by : (Quad → ℕ) → Axis → ℕ
    met_by f a = count (at_sample n (meets f a)) (sample_count n)

    once : (f : Quad → ℕ) (a : Axis) → Tells f a → met_by f a ≤ 1
    once f a tells = count_one (at_sample n (meets f a)) (sample_count n) (λ p q _ _ x y. one_start f a tells p q x y)

    by_place : (a : Axis) → summed (starts_in v) (quads_before loops n s cut a (sample_count n)) ≡ met_by first a + met_by second a + met_by third a + met_by fourth a
    unfolding quads_before quad_at
    by_place a =
        summed_below (starts_in v) (at_sample n (quad_at loops n s cut a)) (sample_count n)
        ∙ total_same _ _ (sample_count n) (λ p _. quad_starts v (at_sample n (λ i j k. inner n a i j k && crossed_from n s cut a i j k) p) (at_sample n (metal n s cut) p) (at_sample n (around loops n s cut a) p))
        ∙ total_four (λ (p : ℕ). bit (at_sample n (meets first a) p)) (λ (p : ℕ). bit (at_sample n (meets second a) p)) (λ (p : ℕ). bit (at_sample n (meets third a) p)) (λ (p : ℕ). bit (at_sample n (meets fourth a) p)) (sample_count n)
        ∙ rw (total_count (at_sample n (meets first a)) (sample_count n), total_count (at_sample n (meets second a)) (sample_count n), total_count (at_sample n (meets third a)) (sample_count n), total_count (at_sample n (meets fourth a)) (sample_count n))

    along : (a : Axis) → summed (starts_in v) (quads_before loops n s cut a (sample_count n)) ≤ 4
    along a = omega (arith, by_place a, once first a (tells_first a), once second a (tells_second a), once third a (tells_third a), once fourth a (tells_fourth a))

    all_starts : summed (starts_in v) (quads loops n s cut) ≤ 12
    unfolding quads
    all_starts =
        omega (
          arith,
          summed_append (starts_in v) (quads_before loops n s cut X (sample_count n) ++ quads_before loops n s cut Y (sample_count n)) (quads_before loops n s cut Z (sample_count n)),
          summed_append (starts_in v) (quads_before loops n s cut X (sample_count n)) (quads_before loops n s cut Y (sample_count n)),
          along X,
          along Y,
          along Z,
        )

-- the paper's mesh: at most 12 quads meet at a vertex
pub twelve_quads : (n : Size) (s : List ℕ) (cut : Cut) (v : ℕ) → quads_at (mesh_quads loops_of n s cut) v ≤ 12
unfolding mesh_quads
twelve_quads n s cut v = le_trans (quads_few v (quads loops_of n s cut)) (all_starts joined loops_of (cube_laws joined) n s cut v)

-- and at most 12 sides start there
pub twelve_sides : (n : Size) (s : List ℕ) (cut : Cut) (v : ℕ) → sides_from (mesh_quads loops_of n s cut) v ≤ 12
unfolding mesh_quads
twelve_sides n s cut v = rw (sides_summed (λ (a b : ℕ). eqb a v) (quads loops_of n s cut)) (all_starts joined loops_of (cube_laws joined) n s cut v)
