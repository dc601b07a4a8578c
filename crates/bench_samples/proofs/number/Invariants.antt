-- `number` ends: the invariant is that at most sixteen digits are left, and these are the measure.
-- Assumes nothing.
use Prim.Native.Nat.{◌≤◌}
use Rattle.bench_samples.proofs.number.Given as goal

abbrev pub invariant-loop-left : goal.invariant-loop-left
invariant-loop-left g l = l.left ≤ 16

abbrev pub decreases-loop-left : goal.decreases-loop-left
decreases-loop-left g l = l.left
