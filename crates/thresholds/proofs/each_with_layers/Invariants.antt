-- `each_with_layers` meets its contract. The loop's invariant: the thresholds before i are through the run of layers, and the others stand before it. The measure is
-- what is left of the thresholds. Assumes nothing.
use Prim.Native.Nat.{◌-◌, ◌≤◌}
use mathlib.Core.Path.{◌≡◌}
use lib.ListN.{length}
use Rattle.thresholds.specs.Steps.{CountedFrom}
use Rattle.thresholds.proofs.each_with_layers.Given as goal

abbrev pub invariant-loop-i : goal.invariant-loop-i
invariant-loop-i l = (l.i ≤ length l.thresholds) × (length l.w ≡ 16) × CountedFrom l.size l.samples l.thresholds l.noise l.w 0 l.i l.to × CountedFrom l.size l.samples l.thresholds l.noise l.w l.i (length l.thresholds) l.from

abbrev pub decreases-loop-i : goal.decreases-loop-i
decreases-loop-i l = length l.thresholds - l.i
