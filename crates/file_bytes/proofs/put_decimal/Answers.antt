-- `put_decimal` meets its contract: the digits behind those that are left are put.
-- Assumes nothing.
use mathlib.Core.Path.{refl}
use Rattle.file_bytes.proofs.Writing.{down_end, down_inside, down_start, down_more}
use native.Mathlib.Omega.{arith}
use lib.ListN.{length-set}
use Rattle.file_bytes.proofs.put_decimal.Goals as goal

pub loop-next-preserved : goal.loop-next-preserved
loop-next-preserved c = (down_more _ _ _ _ _ _ _ (omega arith) c.loop-next-test.true c.loop-next.invariant.0, simp length-set c.loop-next.invariant.1)

pub loop-next-init : goal.loop-next-init
loop-next-init c = (down_start _ _ _ _ (omega (arith, c.digits.ensures.value)), refl)

pub overflow_sub-next : goal.overflow_sub-next
overflow_sub-next c = omega (arith, c.loop-next-test.true, down_inside _ _ _ _ _ _ c.loop-next.invariant.0)

pub returns-clause-put : goal.returns-clause-put
returns-clause-put c =
    let end = c.digits.ensures.value in record { stored = down_end _ _ _ _ _ _ c.loop-next-test.false c.loop-next.invariant.0; behind = omega (arith, end) }
