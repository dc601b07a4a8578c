-- `right_bytes` meets its contract: all columns before the one in hand are right.
-- Assumes nothing.
use Prim.Native.Nat.{◌+◌, ◌-◌, ◌≤◌}
use Rattle.laws.proofs.Leading.{HoldsTo}
use Rattle.reading.proofs.Line.{right_at}
use Rattle.reading.proofs.right_bytes.Given as goal

abbrev pub invariant-loop-column : goal.invariant-loop-column
invariant-loop-column l = (l.column ≤ l.n + 1) × HoldsTo (right_at l.input l.at l.n) l.column

abbrev pub decreases-loop-column : goal.decreases-loop-column
decreases-loop-column l = l.n + 1 - l.column
