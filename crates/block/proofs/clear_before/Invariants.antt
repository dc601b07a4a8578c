-- `clear_before` meets its contract, which is the loop's invariant. The measure is what is left of the samples.
-- Assumes nothing.
use Prim.Native.Nat.{◌-◌}
use lib.ListN.{length}
use Rattle.block.specs.Steps.{ClearBefore}
use Rattle.block.proofs.clear_before.Given as goal

abbrev pub invariant-loop-i : goal.invariant-loop-i
invariant-loop-i l = ClearBefore l.samples l.i

abbrev pub decreases-loop-i : goal.decreases-loop-i
decreases-loop-i l = length l.samples - l.i
