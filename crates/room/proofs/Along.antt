-- The crossed edges along an axis as a sum over the samples of the block, in rows and planes.
-- Assumes nothing.
use Prim.Native.Nat.{ℕ}
use mathlib.Core.Path.{◌≡◌, sym, ◌∙◌}
use mathlib.Core.Bool.{◌&&◌}
use mathlib.Core.List.{List}
use Rattle.laws.specs.Bits.{bit}
use Rattle.laws.specs.Counting.{total}
use Rattle.laws.proofs.Sums.{total_count, boxed, total_boxed}
use Rattle.block.specs.declared.Cut.{Cut}
use Rattle.block.specs.declared.Size.{Size}
use Rattle.block.specs.Numbering.{Axis, sample_count}
use Rattle.mesh_rule.specs.Grid.{stays, crossed_from}
use Rattle.mesh_rule.proofs.Inner.{Stays, stays_test}
use Rattle.room.specs.Crossed.{crossed_edge, crossed_along}

module _ (n : Size) (s : List ℕ) (cut : Cut) where
  -- 1 for a crossed edge of the block, else 0
  abbrev pub edge_at : Axis → ℕ → ℕ → ℕ → ℕ
  edge_at a i j k = bit (stays n a i j k && crossed_from n s cut a i j k)

  pub edge_there : (a : Axis) (i j k : ℕ) → Stays n a i j k → edge_at a i j k ≡ bit (crossed_from n s cut a i j k)
  edge_there a i j k h = rw (stays_test n a i j k h)

  -- from a row, and from a plane
  abbrev pub from_row : Axis → ℕ → ℕ → ℕ
  from_row a k j = total (λ (i : ℕ). edge_at a i j k) n.nx

  abbrev pub from_plane : Axis → ℕ → ℕ
  from_plane a k = total (from_row a k) n.ny

  pub along_boxed : (a : Axis) → crossed_along n s cut a ≡ boxed (edge_at a) n.nx n.ny n.nz
  along_boxed a = sym (total_count (crossed_edge n s cut a) (sample_count n)) ∙ total_boxed (edge_at a) n.nx n.ny n.nz
