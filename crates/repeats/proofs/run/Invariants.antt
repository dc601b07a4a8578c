-- `run` meets its contract. The loop's invariant: the entries before the one in hand are passed.
-- Assumes nothing.
use Rattle.std.proofs.Common.{◌*◌}
use Rattle.repeats.specs.Fresh.{span, Passed}
use Rattle.repeats.proofs.run.Given as goal

abbrev pub invariant-loop-v : goal.invariant-loop-v
invariant-loop-v g l = Passed (g.T.Keyed.key l.entries) (span * l.r) l.v l.table
