-- The largest counts are reached: by the checkerboard of 110 and 0 at t = 100, with 256 samples along each axis. Each of its cubes has four
-- loops, and each of its inner edges is crossed. Up to the section on 256 the board is of any size. Beside it, a block without metal, which has
-- no vertex.
-- Assumes nothing.
use Prim.Native.Nat.{ℕ, zero, suc, ◌+◌, ◌*◌, ◌-◌, ◌/◌, ◌%◌, ◌<◌}
use mathlib.Core.Path.{◌≡◌, refl, ap, ◌∙◌}
use mathlib.Core.Logic.{◌⊎◌, inl, inr}
use mathlib.Core.Bool.{true, cond, ◌&&◌}
use mathlib.Core.List.{List, [], ◌∷◌}
use native.Mathlib.Nat.{zero-mul}
use native.Mathlib.Omega.{arith}
use lib.Count.{count_trailing_zeros}
use lib.Dec.{eqb, leb}
use lib.ListN.{length, get_or, replicate, length-replicate}
use borrow.Author.Tests.{eq-eqb}
use Rattle.laws.specs.Bits.{differ, mask_of}
use Rattle.laws.specs.Counting.{count}
use Rattle.laws.proofs.Counting.{count_same}
use Rattle.laws.proofs.Below.{length_constant}
use Rattle.laws.proofs.Index.{index_lt, index_x, index_y, index_z, index_box}
use Rattle.laws.proofs.Over.{each_length, each_at}
use Rattle.laws.proofs.Tests.{and_implied}
use Rattle.laws.proofs.Trailing.{even_or_odd}
use Rattle.block.specs.declared.Checked.TheVariants.{Passes}
use Rattle.block.specs.declared.Size.{Size}
use Rattle.block.specs.Answer.{in_order}
use Rattle.block.specs.Numbering.{Axis, X, Y, Z, sample_index, sample_count, cube_count}
use Rattle.block.specs.Rows.{lowest_row, count_row}
use Rattle.block.specs.Block.{block_verdict}
use Rattle.cube_rule.specs.Edges.{pattern_of, crossed_mask}
use Rattle.cube_rule.specs.Loops.{grow, loop_from, loops_from, loops_by}
use Rattle.cube_rule.specs.Decider.{joined, loops_of}
use Rattle.mesh_rule.specs.Grid.{InBox, sample_at, corners_at, corners_of, inner, crossed_from, crossed_inner}
use Rattle.mesh_rule.specs.Mesh.{vertices_of, vertices_before, vertices, quads}
use Rattle.mesh_rule.specs.Boards.{cut, shade, board, hollow, size}
use Rattle.mesh_rule.proofs.Counts.{inner_from, inner_count, inner_count_lem}
use Rattle.mesh_rule.proofs.Inner.{Inner, inner_facts, inner_sample, inner_stays, Stays}
use Rattle.mesh_rule.proofs.Numbers.{one_for_each_loop}
use Rattle.mesh_rule.proofs.Quads.{quad_count_lem}

-- ---- the board

pub board_length : (n : Size) → length (board n) ≡ sample_count n
unfolding board
board_length n = each_length (λ (p : ℕ). shade (p % n.nx + p / n.nx % n.ny + p / n.nx / n.ny)) (sample_count n)

-- by its index
board_read : (n : Size) (p : ℕ) → p < sample_count n → get_or (board n) p 0 ≡ shade (p % n.nx + p / n.nx % n.ny + p / n.nx / n.ny)
unfolding board
board_read n p h = each_at (λ (p : ℕ). shade (p % n.nx + p / n.nx % n.ny + p / n.nx / n.ny)) (sample_count n) p 0 h

-- and by its coordinates
pub board_at : (n : Size) (i j k : ℕ) → i < n.nx → j < n.ny → k < n.nz → get_or (board n) (sample_index n i j k) 0 ≡ shade (i + j + k)
board_at n i j k hi hj hk =
    board_read n (sample_index n i j k) (index_lt n.nx n.ny i j k hi hj n.nz hk)
    ∙ rw (index_x n.nx n.ny i j k hi hj, index_y n.nx n.ny i j k hi hj, index_z n.nx n.ny i j k hi hj)

-- so row 2 of the table of refusals passes
pub board_counted : (n : Size) → count_row n (length (board n)) ≡ Passes
board_counted n = rw (eq-eqb (length (board n)) (sample_count n) (board_length n))

-- ---- a cube of the board

shade_even : (m : ℕ) → m % 2 ≡ 0 → shade m ≡ 110
shade_even m e = rw e

shade_odd : (m : ℕ) → m % 2 ≡ 1 → shade m ≡ 0
shade_odd m e = rw e

-- the corners 0 to 7 of a cube, each unlike the three that an edge joins to it
abbrev pub checks : ℕ → ℕ → List ℕ
checks a b = a ∷ b ∷ b ∷ a ∷ b ∷ a ∷ a ∷ b ∷ []

-- two computed cubes, the first of them on 01's bench
even_loops : length (loops_of cut (checks 110 0)) ≡ 4
unfolding loops_by joined pattern_of crossed_mask loops_from loop_from grow mask_of count_trailing_zeros
even_loops = refl

odd_loops : length (loops_of cut (checks 0 110)) ≡ 4
unfolding loops_by joined pattern_of crossed_mask loops_from loop_from grow mask_of count_trailing_zeros
odd_loops = refl

-- so four loops whether m is even or odd
four_loops : (m : ℕ) → length (loops_of cut (checks (shade m) (shade (m + 1)))) ≡ 4
four_loops m = go (even_or_odd m)
  where
    go : (m % 2 ≡ 0) ⊎ (m % 2 ≡ 1) → length (loops_of cut (checks (shade m) (shade (m + 1)))) ≡ 4
    go (inl e) = rw (shade_even m e, shade_odd (m + 1) (omega arith)) even_loops
    go (inr e) = rw (shade_odd m e, shade_even (m + 1) (omega arith)) odd_loops

-- the ends of an edge differ in sign
shades_differ : (m : ℕ) → differ (leb 100 (shade m)) (leb 100 (shade (m + 1))) ≡ true
shades_differ m = go (even_or_odd m)
  where
    go : (m % 2 ≡ 0) ⊎ (m % 2 ≡ 1) → differ (leb 100 (shade m)) (leb 100 (shade (m + 1))) ≡ true
    go (inl e) = rw (shade_even m e, shade_odd (m + 1) (omega arith))
    go (inr e) = rw (shade_odd m e, shade_even (m + 1) (omega arith))

module _ (n : Size) where
  -- a sample whose coordinates have a sum as even or odd as m
  sample_is : (i j k m : ℕ) → i < n.nx → j < n.ny → k < n.nz → (i + j + k) % 2 ≡ m % 2 → sample_at n (board n) i j k ≡ shade m
  sample_is i j k m hi hj hk e = board_at n i j k hi hj hk ∙ ap (λ (d : ℕ). cond (eqb d 0) 110 0) e

  -- the corners of each cube: 110 first if i + j + k is even, 0 first if it is odd
  pub corners_check : (i j k : ℕ) → i + 1 < n.nx → j + 1 < n.ny → k + 1 < n.nz
      → corners_at n (board n) i j k ≡ checks (shade (i + j + k)) (shade (i + j + k + 1))
  corners_check i j k hi hj hk =
      let a = sample_is i j k (i + j + k) (omega arith) (omega arith) (omega arith) (omega arith) in
      let b = sample_is (i + 1) j k (i + j + k + 1) hi (omega arith) (omega arith) (omega arith) in
      let c = sample_is i (j + 1) k (i + j + k + 1) (omega arith) hj (omega arith) (omega arith) in
      let d = sample_is (i + 1) (j + 1) k (i + j + k) hi hj (omega arith) (omega arith) in
      let e = sample_is i j (k + 1) (i + j + k + 1) (omega arith) (omega arith) hk (omega arith) in
      let f = sample_is (i + 1) j (k + 1) (i + j + k) hi (omega arith) hk (omega arith) in
      let g = sample_is i (j + 1) (k + 1) (i + j + k) (omega arith) hj hk (omega arith) in
      let h = sample_is (i + 1) (j + 1) (k + 1) (i + j + k + 1) hi hj hk (omega arith) in
      λ t. a t ∷ b t ∷ c t ∷ d t ∷ e t ∷ f t ∷ g t ∷ h t ∷ []

-- ---- how many vertices

module _ (n : Size) where
  -- four loops in each cube
  pub cube_loops_lem : (c : ℕ) → c < cube_count n → length (loops_of cut (corners_of n (board n) c)) ≡ 4
  unfolding corners_of
  cube_loops_lem c h =
      let b = index_box (n.nx - 1) (n.ny - 1) (n.nz - 1) c h in
      ap (λ (cs : List ℕ). length (loops_of cut cs))
      (corners_check n (c % (n.nx - 1)) (c / (n.nx - 1) % (n.ny - 1)) (c / (n.nx - 1) / (n.ny - 1)) (omega arith) (omega arith) (omega arith))
      ∙ four_loops (c % (n.nx - 1) + c / (n.nx - 1) % (n.ny - 1) + c / (n.nx - 1) / (n.ny - 1))

  pub board_vertices : length (vertices loops_of n (board n) cut) ≡ 4 * cube_count n
  unfolding vertices vertices_before
  board_vertices =
      length_constant (vertices_of loops_of n (board n) cut) 4 (cube_count n)
      (λ c l. one_for_each_loop loops_of n (board n) cut c ∙ cube_loops_lem c l)

-- ---- how many quads

module _ (n : Size) where
  -- two samples whose sums of coordinates are one apart
  pub ends_differ : (i j k x y z : ℕ) → i < n.nx → j < n.ny → k < n.nz → x < n.nx → y < n.ny → z < n.nz → x + y + z ≡ i + j + k + 1
      → differ (leb 100 (sample_at n (board n) i j k)) (leb 100 (sample_at n (board n) x y z)) ≡ true
  ends_differ i j k x y z hi hj hk hx hy hz e =
      rw (board_at n i j k hi hj hk, board_at n x y z hx hy hz, e) (shades_differ (i + j + k))

  -- every edge of the block is crossed, and so is every inner edge
  pub edge_crossed : (a : Axis) (i j k : ℕ) → InBox n i j k → Stays n a i j k → crossed_from n (board n) cut a i j k ≡ true
  edge_crossed X i j k b h = ends_differ i j k (i + 1) j k b.0 b.1 b.2 h b.1 b.2 (omega arith)
  edge_crossed Y i j k b h = ends_differ i j k i (j + 1) k b.0 b.1 b.2 b.0 h b.2 (omega arith)
  edge_crossed Z i j k b h = ends_differ i j k i j (k + 1) b.0 b.1 b.2 b.0 b.1 h (omega arith)

  pub inner_crossed : (a : Axis) (i j k : ℕ) → Inner n a i j k → crossed_from n (board n) cut a i j k ≡ true
  inner_crossed a i j k h = edge_crossed a i j k (inner_sample n a i j k h) (inner_stays n a i j k h)

  crossed_there : (a : Axis) (i j k : ℕ) → (inner n a i j k && crossed_from n (board n) cut a i j k) ≡ inner n a i j k
  crossed_there a i j k = and_implied (inner n a i j k) _ (λ e. inner_crossed a i j k (inner_facts n a i j k e))

  all_crossed : (a : Axis) → count (crossed_inner n (board n) cut a) (sample_count n) ≡ inner_count n a
  all_crossed a =
      count_same (crossed_inner n (board n) cut a) (inner_from n a) (sample_count n)
      (λ p l. crossed_there a (p % n.nx) (p / n.nx % n.ny) (p / n.nx / n.ny))
      ∙ inner_count_lem n a

  pub board_quads : length (quads loops_of n (board n) cut) ≡ inner_count n X + inner_count n Y + inner_count n Z
  board_quads = quad_count_lem loops_of n (board n) cut ∙ rw (all_crossed X, all_crossed Y, all_crossed Z)

-- ---- the largest counts

pub most_vertices_reached : length (vertices loops_of size (board size) cut) ≡ 66325500
most_vertices_reached = board_vertices size

pub most_quads_reached : length (quads loops_of size (board size) cut) ≡ 49354740
most_quads_reached = board_quads size

-- and the block is accepted: rows 1 to 3 pass
pub board_accepted : block_verdict 256 256 256 (board size) cut ≡ Passes
unfolding in_order lowest_row
board_accepted = rw (board_counted size)

-- ---- a block without metal has no vertex

dark_loops : loops_of cut (checks 0 0) ≡ []
unfolding loops_by joined pattern_of crossed_mask loops_from loop_from grow mask_of count_trailing_zeros
dark_loops = refl

zeros : (m p : ℕ) → ◌≡◌ {A = ℕ} (get_or (replicate m 0) p 0) 0
zeros zero p = refl
zeros (suc m) zero = refl
zeros (suc m) (suc p) = zeros m p

module _ (n : Size) where
  pub hollow_at : (p : ℕ) → get_or (hollow n) p 0 ≡ 0
  unfolding hollow
  hollow_at p = zeros (sample_count n) p

  pub hollow_length : length (hollow n) ≡ sample_count n
  unfolding hollow
  hollow_length = length-replicate (sample_count n) 0

  hollow_corners : (i j k : ℕ) → corners_at n (hollow n) i j k ≡ checks 0 0
  hollow_corners i j k =
      rw (
        hollow_at (sample_index n i j k),
        hollow_at (sample_index n (i + 1) j k),
        hollow_at (sample_index n i (j + 1) k),
        hollow_at (sample_index n (i + 1) (j + 1) k),
        hollow_at (sample_index n i j (k + 1)),
        hollow_at (sample_index n (i + 1) j (k + 1)),
        hollow_at (sample_index n i (j + 1) (k + 1)),
        hollow_at (sample_index n (i + 1) (j + 1) (k + 1)),
      )

  no_loop : (c : ℕ) → loops_of cut (corners_of n (hollow n) c) ≡ []
  unfolding corners_of
  no_loop c = ap (loops_of cut) (hollow_corners (c % (n.nx - 1)) (c / (n.nx - 1) % (n.ny - 1)) (c / (n.nx - 1) / (n.ny - 1))) ∙ dark_loops

  pub hollow_vertices : length (vertices loops_of n (hollow n) cut) ≡ 0
  unfolding vertices vertices_before
  hollow_vertices =
      length_constant (vertices_of loops_of n (hollow n) cut) 0 (cube_count n)
      (λ c l. one_for_each_loop loops_of n (hollow n) cut c ∙ ap length (no_loop c))
      ∙ zero-mul (cube_count n)
