-- Three times the vertices is at most four times the crossed edges, and the quads are at most as many as these (document 02, Seven). A loop has at least
-- three edges, and a crossed edge of a cube is in one loop; an edge of the block is in at most four cubes. Whatever decides the faces.
-- Assumes nothing.
use Prim.Native.Nat.{ℕ, ◌+◌, ◌-◌, ◌*◌, ◌/◌, ◌%◌, ◌≤◌, ◌<◌}
use mathlib.Core.Path.{◌≡◌, refl, ap, ◌∙◌}
use mathlib.Core.Bool.{Bool, true, false, ◌&&◌}
use mathlib.Core.List.{List, [], ◌∷◌, Memᴰ}
use native.Mathlib.Nat.{le_trans, le_refl}
use native.Mathlib.Omega.{arith}
use lib.Count.{ones}
use lib.ListN.{length, length-map}
use Rattle.laws.specs.Bits.{bit, holds}
use Rattle.laws.specs.Counting.{count, total}
use Rattle.laws.proofs.Counting.{count_le}
use Rattle.laws.proofs.Sums.{moved, total_same, total_le, total_plus, total_times, total_nothing, boxed, boxed_same, boxed_plus, boxed_four, boxed_part, total_boxed, summed, length-total}
use Rattle.laws.proofs.Words.{digit_holds, word_of, word_ones}
use Rattle.block.specs.declared.Cut.{Cut}
use Rattle.block.specs.declared.Size.{Size}
use Rattle.block.specs.Numbering.{Axis, X, Y, Z, sample_count, cube_count}
use Rattle.cube_rule.specs.Edges.{crossed_at}
use Rattle.cube_rule.specs.Laws.{CubeLaws}
use Rattle.cube_rule.specs.Links.{Decider}
use Rattle.cube_rule.specs.Rule.{holders}
use Rattle.mesh_rule.specs.Grid.{stays, inner, crossed_inner, corners_at, corners_of}
use Rattle.mesh_rule.specs.Mesh.{quads, vertices_of, vertices_before, vertices}
use Rattle.mesh_rule.proofs.Inner.{inner_facts, inner_stays, stays_test}
use Rattle.mesh_rule.proofs.Quads.{quad_count_lem}
use Rattle.room.specs.Crossed.{crossed_edge, crossed_along, crossed_count}
use Rattle.room.proofs.Along.{edge_at, edge_there, along_boxed}

-- ---- an edge of the block is in at most four cubes

module _ (n : Size) (s : List ℕ) (cut : Cut) where
  -- the four places of a cube from which its edges along an axis start
  abbrev four_at : Axis → ℕ → ℕ → ℕ → ℕ
  four_at X i j k = edge_at n s cut X i j k + edge_at n s cut X i (j + 1) k + edge_at n s cut X i j (k + 1) + edge_at n s cut X i (j + 1) (k + 1)
  four_at Y i j k = edge_at n s cut Y i j k + edge_at n s cut Y (i + 1) j k + edge_at n s cut Y i j (k + 1) + edge_at n s cut Y (i + 1) j (k + 1)
  four_at Z i j k = edge_at n s cut Z i j k + edge_at n s cut Z (i + 1) j k + edge_at n s cut Z i (j + 1) k + edge_at n s cut Z (i + 1) (j + 1) k

  twelve : (i j k : ℕ) → i < n.nx - 1 → j < n.ny - 1 → k < n.nz - 1
      → total (λ (e : ℕ). bit (crossed_at cut (corners_at n s i j k) e)) 12 ≡ four_at X i j k + four_at Y i j k + four_at Z i j k
  unfolding total
  twelve i j k hi hj hk =
      omega (
        arith,
        edge_there n s cut X i j k (omega arith),
        edge_there n s cut X i (j + 1) k (omega arith),
        edge_there n s cut X i j (k + 1) (omega arith),
        edge_there n s cut X i (j + 1) (k + 1) (omega arith),
        edge_there n s cut Y i j k (omega arith),
        edge_there n s cut Y (i + 1) j k (omega arith),
        edge_there n s cut Y i j (k + 1) (omega arith),
        edge_there n s cut Y (i + 1) j (k + 1) (omega arith),
        edge_there n s cut Z i j k (omega arith),
        edge_there n s cut Z (i + 1) j k (omega arith),
        edge_there n s cut Z i (j + 1) k (omega arith),
        edge_there n s cut Z (i + 1) (j + 1) k (omega arith),
      )

  -- over all cubes, moved along two of the axes or not
  abbrev part : Axis → Bool → Bool → Bool → ℕ
  part a p q r = boxed (λ (i j k : ℕ). edge_at n s cut a (moved p i) (moved q j) (moved r k)) (n.nx - 1) (n.ny - 1) (n.nz - 1)

  part_le : (a : Axis) (p q r : Bool) → part a p q r ≤ crossed_along n s cut a
  part_le a p q r = rw (along_boxed n s cut a) (boxed_part (edge_at n s cut a) n.nx n.ny n.nz p q r)

  four_le : (a : Axis) → boxed (four_at a) (n.nx - 1) (n.ny - 1) (n.nz - 1) ≤ 4 * crossed_along n s cut a
  four_le X =
      rw (boxed_four (λ (i j k : ℕ). edge_at n s cut X i j k) (λ (i j k : ℕ). edge_at n s cut X i (j + 1) k) (λ (i j k : ℕ). edge_at n s cut X i j (k + 1)) (λ (i j k : ℕ). edge_at n s cut X i (j + 1) (k + 1)) (n.nx - 1) (n.ny - 1) (n.nz - 1))
      (omega (arith, part_le X false false false, part_le X false true false, part_le X false false true, part_le X false true true))
  four_le Y =
      rw (boxed_four (λ (i j k : ℕ). edge_at n s cut Y i j k) (λ (i j k : ℕ). edge_at n s cut Y (i + 1) j k) (λ (i j k : ℕ). edge_at n s cut Y i j (k + 1)) (λ (i j k : ℕ). edge_at n s cut Y (i + 1) j (k + 1)) (n.nx - 1) (n.ny - 1) (n.nz - 1))
      (omega (arith, part_le Y false false false, part_le Y true false false, part_le Y false false true, part_le Y true false true))
  four_le Z =
      rw (boxed_four (λ (i j k : ℕ). edge_at n s cut Z i j k) (λ (i j k : ℕ). edge_at n s cut Z (i + 1) j k) (λ (i j k : ℕ). edge_at n s cut Z i (j + 1) k) (λ (i j k : ℕ). edge_at n s cut Z (i + 1) (j + 1) k) (n.nx - 1) (n.ny - 1) (n.nz - 1))
      (omega (arith, part_le Z false false false, part_le Z true false false, part_le Z false true false, part_le Z true true false))

  in_cubes : total (λ (c : ℕ). total (λ (e : ℕ). bit (crossed_at cut (corners_of n s c) e)) 12) (cube_count n) ≤ 4 * crossed_count n s cut
  unfolding corners_of crossed_count
  in_cubes =
      rw (total_boxed (λ (i j k : ℕ). total (λ (e : ℕ). bit (crossed_at cut (corners_at n s i j k) e)) 12) (n.nx - 1) (n.ny - 1) (n.nz - 1)
      ∙ boxed_same _ _ (n.nx - 1) (n.ny - 1) (n.nz - 1) twelve
      ∙ boxed_plus (λ (i j k : ℕ). four_at X i j k + four_at Y i j k) (four_at Z) (n.nx - 1) (n.ny - 1) (n.nz - 1)
      ∙ ap (λ (x : ℕ). x + boxed (four_at Z) (n.nx - 1) (n.ny - 1) (n.nz - 1)) (boxed_plus (four_at X) (four_at Y) (n.nx - 1) (n.ny - 1) (n.nz - 1)))
      (omega (arith, four_le X, four_le Y, four_le Z))

-- ---- a loop has at least three edges

ones_is : (m : ℕ) → m < 4096 → ones m ≡ total (λ (e : ℕ). bit (holds m e)) 12
ones_is m h = word_ones (word_of m 12 h) ∙ total_same _ _ 12 (λ e l. digit_holds m e)

-- edges and loops, counted either way
counted_twice : (ms : List ℕ) → total (λ (e : ℕ). holders e ms) 12 ≡ summed (λ (m : ℕ). total (λ (e : ℕ). bit (holds m e)) 12) ms
counted_twice [] = total_nothing 12
counted_twice (m ∷ ms) =
    total_plus (λ (e : ℕ). bit (holds m e)) (λ (e : ℕ). holders e ms) 12
    ∙ ap (λ (x : ℕ). total (λ (e : ℕ). bit (holds m e)) 12 + x) (counted_twice ms)

three_each : (ms : List ℕ) → ((m : ℕ) → Memᴰ m ms → (3 ≤ ones m) × (ones m ≤ 12) × (m < 4096)) → 3 * length ms ≤ summed (λ (m : ℕ). total (λ (e : ℕ). bit (holds m e)) 12) ms
three_each [] h = omega arith
three_each (m ∷ ms) h =
    let f = h m (Memᴰ.head refl) in
    omega (arith, three_each ms (λ x l. h x (Memᴰ.tail l)), f.0, ones_is m f.2)

-- ---- the bounds

module _ (D : Decider) (loops_of : Cut → List ℕ → List ℕ) (laws : CubeLaws D loops_of) where
  three_a_loop : (cut : Cut) (cs : List ℕ) → 3 * length (loops_of cut cs) ≤ total (λ (e : ℕ). bit (crossed_at cut cs e)) 12
  three_a_loop cut cs =
      omega (
        arith,
        three_each (loops_of cut cs) (λ m k. laws.sized cut cs m k),
        counted_twice (loops_of cut cs),
        total_same (λ (e : ℕ). holders e (loops_of cut cs)) (λ (e : ℕ). bit (crossed_at cut cs e)) 12 (λ e he. laws.each cut cs e he),
      )

  -- "Three times the vertices is at most four times E"
  pub vertices_bound : (n : Size) (s : List ℕ) (cut : Cut) → 3 * length (vertices loops_of n s cut) ≤ 4 * crossed_count n s cut
  unfolding vertices vertices_before vertices_of
  vertices_bound n s cut =
      rw (length-total (vertices_of loops_of n s cut) (cube_count n), total_times 3 (λ (c : ℕ). length (vertices_of loops_of n s cut c)) (cube_count n))
      (le_trans
      (total_le _ _ (cube_count n) (λ c lc. rw length-map (three_a_loop cut (corners_of n s c))))
      (in_cubes n s cut))

weaker : (p q c : Bool) → (p ≡ true → q ≡ true) → bit (p && c) ≤ bit (q && c)
weaker true q c f = rw (f refl) (le_refl _)
weaker false q c f = omega arith

-- "and quads are at most E": the inner edges are some of the block's
pub quads_bound : (loops_of : Cut → List ℕ → List ℕ) (n : Size) (s : List ℕ) (cut : Cut) → length (quads loops_of n s cut) ≤ crossed_count n s cut
unfolding crossed_count
quads_bound loops_of n s cut = omega (arith, quad_count_lem loops_of n s cut, along_le X, along_le Y, along_le Z)
  where
    along_le : (a : Axis) → count (crossed_inner n s cut a) (sample_count n) ≤ crossed_along n s cut a
    along_le a =
        count_le (crossed_inner n s cut a) (crossed_edge n s cut a) (sample_count n)
        (λ p lp. weaker (inner n a (p % n.nx) (p / n.nx % n.ny) (p / n.nx / n.ny)) (stays n a (p % n.nx) (p / n.nx % n.ny) (p / n.nx / n.ny)) _
        (λ h. stays_test n a _ _ _ (inner_stays n a _ _ _ (inner_facts n a (p % n.nx) (p / n.nx % n.ny) (p / n.nx / n.ny) h))))
