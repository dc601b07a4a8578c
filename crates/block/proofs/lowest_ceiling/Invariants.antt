-- `lowest_ceiling` meets its contract. The loop's invariant: no sample before i is at the ceiling. The measure is what is left of the
-- samples. Assumes nothing.
use Prim.Native.Nat.{◌-◌}
use lib.ListN.{length}
use Rattle.block.specs.Steps.{ClearBefore}
use Rattle.block.proofs.lowest_ceiling.Given as goal

abbrev pub invariant-loop-i : goal.invariant-loop-i
invariant-loop-i l = ClearBefore l.samples l.i

abbrev pub decreases-loop-i : goal.decreases-loop-i
decreases-loop-i l = length l.samples - l.i
