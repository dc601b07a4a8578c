-- `floats_of` ends: what is left of the list is the measure.
-- Assumes nothing.
use Prim.Native.Nat.{◌-◌, ◌≤◌}
use lib.ListN.{length}
use Rattle.bench_samples.proofs.floats_of.Given as goal

abbrev pub invariant-loop-i : goal.invariant-loop-i
invariant-loop-i g l = l.i ≤ length l.floats

abbrev pub decreases-loop-i : goal.decreases-loop-i
decreases-loop-i g l = length l.floats - l.i
