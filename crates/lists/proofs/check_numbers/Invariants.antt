-- `check_numbers` meets its promise: the quads before the one in hand are in order.
-- Assumes nothing.
use Prim.Native.Nat.{◌-◌, ◌/◌, ◌≤◌}
use lib.ListN.{length}
use Rattle.laws.proofs.Leading.{HoldsTo}
use Rattle.lists.specs.Rows.{quad_below}
use Rattle.lists.proofs.check_numbers.Given as goal

abbrev pub invariant-loop-q : goal.invariant-loop-q
invariant-loop-q l = (l.q ≤ length l.quads / 4) × HoldsTo (quad_below l.count l.quads) l.q

abbrev pub decreases-loop-q : goal.decreases-loop-q
decreases-loop-q l = length l.quads / 4 - l.q
