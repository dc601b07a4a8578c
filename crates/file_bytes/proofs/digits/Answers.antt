-- `digits` meets its contract: the digits cut off, and those of what is left.
-- Assumes nothing.
use borrow.Author.Rules.{rules}
use mathlib.Core.Path.{◌≡◌}
use native.Mathlib.Omega.{arith}
use lib.ListN.{length}
use Rattle.file_bytes.specs.Bytes.{decimal}
use Rattle.file_bytes.proofs.Decimal.{length_small, length_large, length_some, length_twenty}
use Rattle.file_bytes.proofs.digits.Goals as goal

pub overflow_add-count : goal.overflow_add-count
overflow_add-count c = omega (arith, c.loop-left.invariant, length_some c.loop-left.left, length_twenty c.args.n (search rules))

pub loop-left-preserved : goal.loop-left-preserved
loop-left-preserved c = omega (arith, c.loop-left.invariant, length_large c.loop-left.left (omega (arith, c.loop-left-test.true)))

pub returns-clause-value : goal.returns-clause-value
returns-clause-value c =
    let l = c.loop-left in
    let e : l.count ≡ length (decimal c.args.n) = omega (arith, l.invariant, length_small l.left (omega (arith, c.loop-left-test.false))) in e

pub returns-clause-upper_bound : goal.returns-clause-upper_bound
returns-clause-upper_bound c =
    let l = c.loop-left in
    let e : l.count ≡ length (decimal c.args.n) = omega (arith, l.invariant, length_small l.left (omega (arith, c.loop-left-test.false))) in omega (arith, e, length_twenty c.args.n (search rules))
