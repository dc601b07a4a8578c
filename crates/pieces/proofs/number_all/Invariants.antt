-- `number_all` meets its contract: the vertices below v have their numbers.
-- Assumes nothing.
use Prim.Native.Nat.{◌-◌, ◌≤◌}
use Rattle.pieces.proofs.Midway.{Midway}
use Rattle.pieces.proofs.number_all.Given as goal

abbrev pub invariant-loop-v : goal.invariant-loop-v
invariant-loop-v l = (l.v ≤ l.n) × (l.count ≤ l.v) × Midway l.n l.v l.initial.up l.initial.size l.up l.size l.count

abbrev pub decreases-loop-v : goal.decreases-loop-v
decreases-loop-v l = l.n - l.v
