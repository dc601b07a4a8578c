-- `first_fault` meets its contract: each side before n is in order.
-- Assumes nothing.
use Rattle.laws.proofs.Leading.{HoldsTo}
use Rattle.closed.specs.Closed.{side_sound}
use Rattle.closed_with.proofs.first_fault.Given as goal

abbrev pub invariant-loop-n : goal.invariant-loop-n
invariant-loop-n l = HoldsTo (side_sound l.quads) l.n
