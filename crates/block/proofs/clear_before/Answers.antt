-- `clear_before` meets its contract, which is the loop's invariant. The measure is what is left of the samples.
-- Assumes nothing.
use mathlib.Core.Path.{sym, ◌∙◌}
use native.Mathlib.Omega.{arith}
use Rattle.block.proofs.ClearRuns.{clear_more}
use Rattle.block.proofs.clear_before.Goals as goal

pub loop-i-preserved : goal.loop-i-preserved
loop-i-preserved c =
    let l = c.loop-i in clear_more c.args.samples.now l.i (omega arith) l.invariant (sym c.ceilings_in_run.ensures.value ∙ omega arith)
