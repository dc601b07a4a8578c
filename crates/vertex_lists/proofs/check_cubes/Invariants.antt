-- `check_cubes` meets its promise: the vertices before the one in hand are in order.
-- Assumes nothing.
use Prim.Native.Nat.{◌-◌, ◌/◌, ◌≤◌}
use lib.ListN.{length}
use Rattle.laws.proofs.Leading.{HoldsTo}
use Rattle.vertex_lists.proofs.Rows.{before}
use Rattle.vertex_lists.proofs.check_cubes.Given as goal

abbrev pub invariant-loop-v : goal.invariant-loop-v
invariant-loop-v l = (l.v ≤ length l.words / 2) × HoldsTo (before l.end l.words) l.v

abbrev pub decreases-loop-v : goal.decreases-loop-v
decreases-loop-v l = length l.words / 2 - l.v
