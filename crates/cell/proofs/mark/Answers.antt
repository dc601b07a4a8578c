-- `mark` meets its contract. The loop's invariant: no corner before i is at the ceiling. The measure is what is left of the eight.
-- Assumes nothing.
use Rattle.cell.proofs.Words.{marked_some, marked_none}
use native.Mathlib.Omega.{arith}
use Rattle.cell.proofs.mark.Goals as goal

pub returns-clause-value : goal.returns-clause-value
returns-clause-value c = marked_none c.args.corners c.loop-i.i (omega arith) c.loop-i.invariant.1

pub returns-then-corners-i-clause-value : goal.returns-then-corners-i-clause-value
returns-then-corners-i-clause-value c = marked_some c.args.corners c.loop-i.i (omega arith) c.if-corners-i.true
