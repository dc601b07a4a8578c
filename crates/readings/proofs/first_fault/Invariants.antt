-- `first_fault` meets its contract. The loop's invariant: none of the first i readings is at fault. The measure is what is left of the readings.
-- Assumes nothing.
use Prim.Native.Nat.{◌-◌}
use Rattle.readings.specs.Steps.{SoundTo}
use Rattle.readings.proofs.first_fault.Given as goal

abbrev pub invariant-loop-i : goal.invariant-loop-i
invariant-loop-i l = SoundTo l.readings l.i

abbrev pub decreases-loop-i : goal.decreases-loop-i
decreases-loop-i l = l.n - l.i
