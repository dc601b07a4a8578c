-- `first_again` meets its contract. The loop's invariant: the limit is the first repeat with a key in the ranges before.
-- Assumes nothing.
use Rattle.std.proofs.Common.{◌≡◌, ◌*◌, ◌≤◌}
use Rattle.laws.specs.Leading.{leading}
use Rattle.repeats.specs.Fresh.{span, fresh_below}
use Rattle.repeats.proofs.first_again.Given as goal

abbrev pub invariant-loop-r : goal.invariant-loop-r
invariant-loop-r g l = record {
  within : l.limit ≤ l.m;
  first : l.limit ≡ leading (fresh_below (g.T.Keyed.key l.entries) (span * l.r)) l.m;
}
