-- "The number E of crossed edges of the whole block, each counted once" (document 02, Seven). An edge is counted at its lower sample, and the edges on the
-- faces of the box count too.
use Rattle.std.specs.Prelude.{ℕ, ◌+◌, Bool, ◌&&◌, List}
use Rattle.laws.specs.Counting.{count}
use Rattle.block.specs.declared.Cut.{Cut}
use Rattle.block.specs.declared.Size.{Size}
use Rattle.block.specs.Numbering.{Axis, X, Y, Z, sample_count, at_sample}
use Rattle.mesh_rule.specs.Grid.{stays, crossed_from}

-- the edge along the axis from the sample with the index p is an edge of the block, and crossed
abbrev pub crossed_edge : Size → List ℕ → Cut → Axis → ℕ → Bool
crossed_edge n s cut a p = at_sample n (λ i j k. stays n a i j k && crossed_from n s cut a i j k) p

-- how many there are along an axis, and along all three
abbrev pub crossed_along : Size → List ℕ → Cut → Axis → ℕ
crossed_along n s cut a = count (crossed_edge n s cut a) (sample_count n)

unfoldable pub crossed_count : Size → List ℕ → Cut → ℕ
crossed_count n s cut = crossed_along n s cut X + crossed_along n s cut Y + crossed_along n s cut Z
