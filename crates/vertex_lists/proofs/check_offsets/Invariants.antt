-- `check_offsets` meets its promise: the vertices before the one in hand are in order.
-- Assumes nothing.
use Prim.Native.Nat.{◌-◌, ◌/◌, ◌≤◌}
use lib.ListN.{length}
use Rattle.laws.proofs.Leading.{HoldsTo}
use Rattle.vertex_lists.specs.Rows.{offset_inside}
use Rattle.vertex_lists.proofs.check_offsets.Given as goal

abbrev pub invariant-loop-v : goal.invariant-loop-v
invariant-loop-v l = (l.v ≤ length l.offsets / 3) × HoldsTo (offset_inside l.offsets) l.v

abbrev pub decreases-loop-v : goal.decreases-loop-v
decreases-loop-v l = length l.offsets / 3 - l.v
