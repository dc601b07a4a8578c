-- `walks_from` meets its contract: the chain of a is followed.
-- Assumes nothing.
use Prim.Native.Nat.{◌-◌}
use lib.ListN.{length}
use Rattle.closed_with.proofs.Chains.{Following}
use Rattle.closed_with.proofs.walks_from.Given as goal

abbrev pub invariant-loop-m : goal.invariant-loop-m
invariant-loop-m l = Following l.quads l.a l.b l.found l.m

abbrev pub decreases-loop-m : goal.decreases-loop-m
decreases-loop-m l = length l.quads - l.m
