-- `check_readings` meets its contract. The loop's invariant: none of the first p readings is at fault. The measure is what is left of the readings.
-- Assumes nothing.
use Prim.Native.Nat.{◌-◌}
use Rattle.readings.specs.Steps.{SoundTo}
use Rattle.readings.proofs.check_readings.Given as goal

abbrev pub invariant-loop-p : goal.invariant-loop-p
invariant-loop-p l = SoundTo l.readings l.p

abbrev pub decreases-loop-p : goal.decreases-loop-p
decreases-loop-p l = l.n - l.p
