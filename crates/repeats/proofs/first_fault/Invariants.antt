-- `first_fault` meets its contract. The loop's invariant: the entries before the one in hand are sound, and their keys rise if so it is said.
-- Assumes nothing.
use Rattle.std.proofs.Common.{◌≡◌, ◌*◌, ◌≤◌}
use Rattle.laws.proofs.Leading.{HoldsTo}
use Rattle.repeats.specs.Fresh.{span, Rising}
use Rattle.repeats.proofs.first_fault.Given as goal

abbrev pub invariant-loop-v : goal.invariant-loop-v
invariant-loop-v g l = record {
  sound : HoldsTo (g.T.Keyed.sound l.entries) l.v;
  rising : Rising (g.T.Keyed.key l.entries) l.v l.last l.rises;
  last_bound : l.last ≤ span * l.ranges;
  m_value : l.m ≡ l.count;
}
