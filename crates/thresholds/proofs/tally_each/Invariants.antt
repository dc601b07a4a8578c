-- `tally_each` meets its contract. The loop's invariant: for each threshold the layers before k are counted. The measure is what is left of the layers.
-- Assumes nothing.
use Prim.Native.Nat.{◌-◌, ◌≤◌}
use mathlib.Core.Path.{◌≡◌}
use lib.ListN.{length}
use Rattle.thresholds.specs.Steps.{CountedFrom}
use Rattle.thresholds.proofs.tally_each.Given as goal

abbrev pub invariant-loop-k : goal.invariant-loop-k
invariant-loop-k l = CountedFrom l.size l.samples l.thresholds l.noise l.w 0 (length l.thresholds) l.k × (l.k ≤ l.last) × (length l.w ≡ 16)

abbrev pub decreases-loop-k : goal.decreases-loop-k
decreases-loop-k l = l.last - l.k
