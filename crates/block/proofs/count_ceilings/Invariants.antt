-- `count_ceilings` meets its contract. The invariant of both loops: n of the samples before i are at the ceiling. The measure is what is left of
-- the samples. Assumes nothing.
use Prim.Native.Nat.{◌-◌}
use lib.ListN.{length}
use Rattle.block.specs.Steps.{CountedTo}
use Rattle.block.proofs.count_ceilings.Given as goal

abbrev pub invariant-loop-i : goal.invariant-loop-i
invariant-loop-i l = CountedTo l.samples l.n l.i

abbrev pub decreases-loop-i : goal.decreases-loop-i
decreases-loop-i l = length l.samples - l.i

abbrev pub invariant-loop-i-2 : goal.invariant-loop-i-2
invariant-loop-i-2 l = CountedTo l.samples l.n l.i

abbrev pub decreases-loop-i-2 : goal.decreases-loop-i-2
decreases-loop-i-2 l = length l.samples - l.i
