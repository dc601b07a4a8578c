-- `put_text` meets its contract: the first i bytes are copied.
-- Assumes nothing.
use Rattle.file_bytes.proofs.Writing.{copy_all, copy_more}
use native.Mathlib.Omega.{arith}
use lib.ListN.{length-set}
use Rattle.file_bytes.proofs.put_text.Goals as goal

pub loop-i-preserved : goal.loop-i-preserved
loop-i-preserved c =
    let l = c.loop-i in
    (omega arith, simp length-set l.invariant.1, copy_more _ _ _ _ _ l.invariant.2 (omega arith))

pub returns-clause-put : goal.returns-clause-put
returns-clause-put c =
    let l = c.loop-i in copy_all _ _ _ _ _ l.invariant.2 (omega arith)
