-- The most crossed edges: all edges of a block, and 50,135,040 of them with 256 samples along each axis. A checkerboard of any size reaches it.
-- Assumes nothing.
use Prim.Native.Nat.{ℕ, ◌+◌, ◌-◌, ◌*◌, ◌/◌, ◌%◌, ◌≤◌}
use mathlib.Core.Path.{◌≡◌, refl, sym, ◌∙◌}
use mathlib.Core.Bool.{Bool, true, ◌&&◌, and-true}
use mathlib.Core.List.{List}
use native.Mathlib.Omega.{arith}
use lib.Dec.{ltb}
use Rattle.laws.specs.Counting.{count}
use Rattle.laws.proofs.Counting.{count_same, count_le, count_all, count_box}
use Rattle.laws.proofs.Index.{index_box}
use Rattle.laws.proofs.Tests.{and_implied}
use Rattle.block.specs.declared.Cut.{Cut}
use Rattle.block.specs.declared.Size.{Size}
use Rattle.block.specs.Numbering.{Axis, X, Y, Z, sample_count, at_sample}
use Rattle.block.specs.Size.{Limits}
use Rattle.block.proofs.Products.{product_le}
use Rattle.mesh_rule.specs.Boards.{cut, board, size}
use Rattle.mesh_rule.specs.Grid.{InBox, stays, crossed_from}
use Rattle.mesh_rule.proofs.Checkerboard.{edge_crossed}
use Rattle.mesh_rule.proofs.Counts.{count_lower, bit_and_le}
use Rattle.mesh_rule.proofs.Inner.{stays_fact}
use Rattle.room.specs.Crossed.{crossed_edge, crossed_along, crossed_count}

-- ---- all edges of a block

-- how many edges of the block run along an axis, crossed or not
abbrev pub edges_along : Size → Axis → ℕ
edges_along n X = (n.nx - 1) * (n.ny * n.nz)
edges_along n Y = n.nx * ((n.ny - 1) * n.nz)
edges_along n Z = n.nx * (n.ny * (n.nz - 1))

-- the edge along the axis from the sample with the index p is one of the block
abbrev pub edge_from : Size → Axis → ℕ → Bool
edge_from n a p = at_sample n (stays n a) p

abbrev yes : ℕ → Bool
yes c = true

yes_count : (m : ℕ) → count yes m ≡ m
yes_count m = count_all yes m (λ c l. refl)

-- that many they are
pub edge_count_lem : (n : Size) (a : Axis) → count (edge_from n a) (sample_count n) ≡ edges_along n a
edge_count_lem n X =
    count_same _ _ (sample_count n) (λ p l. sym (and-true (ltb (p % n.nx + 1) n.nx && true) ∙ and-true (ltb (p % n.nx + 1) n.nx)))
    ∙ count_box (λ (i : ℕ). ltb (i + 1) n.nx) yes yes n.nx n.ny n.nz
    ∙ rw (count_lower n.nx, yes_count n.ny, yes_count n.nz)
edge_count_lem n Y =
    count_same _ _ (sample_count n) (λ p l. sym (and-true (ltb (p / n.nx % n.ny + 1) n.ny)))
    ∙ count_box yes (λ (j : ℕ). ltb (j + 1) n.ny) yes n.nx n.ny n.nz
    ∙ rw (count_lower n.ny, yes_count n.nx, yes_count n.nz)
edge_count_lem n Z =
    count_box yes yes (λ (k : ℕ). ltb (k + 1) n.nz) n.nx n.ny n.nz
    ∙ rw (count_lower n.nz, yes_count n.nx, yes_count n.ny)

-- ---- at most these are crossed

module _ (n : Size) (s : List ℕ) (cut : Cut) where
  along_most : (a : Axis) → crossed_along n s cut a ≤ edges_along n a
  along_most a = rw (edge_count_lem n a) at (count_le (crossed_edge n s cut a) (edge_from n a) (sample_count n) (λ p l. bit_and_le (edge_from n a p) _))

  pub edges_most : crossed_count n s cut ≤ edges_along n X + edges_along n Y + edges_along n Z
  unfolding crossed_count
  edges_most = omega (arith, along_most X, along_most Y, along_most Z)

  -- three times 255 · 256 · 256
  pub most_edges : Limits n → crossed_count n s cut ≤ 50135040
  most_edges h =
      omega (
        arith,
        edges_most,
        product_le (n.nx - 1) n.ny n.nz 255 256 256 (omega arith) (omega arith) (omega arith),
        product_le n.nx (n.ny - 1) n.nz 256 255 256 (omega arith) (omega arith) (omega arith),
        product_le n.nx n.ny (n.nz - 1) 256 256 255 (omega arith) (omega arith) (omega arith),
      )

-- ---- on a checkerboard all are

module _ (n : Size) where
  crossed_there : (a : Axis) (i j k : ℕ) → InBox n i j k → (stays n a i j k && crossed_from n (board n) cut a i j k) ≡ stays n a i j k
  crossed_there a i j k b = and_implied (stays n a i j k) _ (λ e. edge_crossed n a i j k b (stays_fact n a i j k e))

  along_board : (a : Axis) → crossed_along n (board n) cut a ≡ edges_along n a
  along_board a =
      count_same (crossed_edge n (board n) cut a) (edge_from n a) (sample_count n)
      (λ p l. crossed_there a (p % n.nx) (p / n.nx % n.ny) (p / n.nx / n.ny) (index_box n.nx n.ny n.nz p l))
      ∙ edge_count_lem n a

  pub board_edges : crossed_count n (board n) cut ≡ edges_along n X + edges_along n Y + edges_along n Z
  unfolding crossed_count
  board_edges = rw (along_board X, along_board Y, along_board Z)

pub most_edges_reached : crossed_count size (board size) cut ≡ 50135040
most_edges_reached = board_edges size
