-- `right_bytes` meets its contract: all columns before the one in hand are right.
-- Assumes nothing.
use native.Mathlib.Omega.{arith}
use Rattle.reading.proofs.Line.{found_in, wrong_at, all_right}
use Rattle.reading.proofs.right_bytes.Goals as goal

pub returns-then-not-right_byte-clause-value : goal.returns-then-not-right_byte-clause-value
returns-then-not-right_byte-clause-value c =
    let input = c.args.input.now in wrong_at input _ _ _ c.loop-column-test.true c.loop-column.invariant.1 (found_in input _ _ _ _ _ _ c.read_at-b.ensures.value c.right_byte.ensures c.if-not-right_byte.true)

pub returns-clause-value : goal.returns-clause-value
returns-clause-value c = all_right c.args.input.now _ _ _ (omega (arith, c.loop-column-test.false, c.loop-column.invariant.0)) c.loop-column.invariant.1
