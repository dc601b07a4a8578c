-- `count_ceilings` meets its contract. The invariant of both loops: n of the samples before i are at the ceiling. The measure is what is left of
-- the samples. Assumes nothing.
use Rattle.block.proofs.ClearRuns.{counted_all, counted_none, counted_more, counted_next}
use native.Mathlib.Omega.{arith}
use Rattle.block.proofs.count_ceilings.Goals as goal

pub loop-i-init : goal.loop-i-init
loop-i-init c = counted_none c.args.samples.now c.args.from c.requires

pub loop-i-preserved : goal.loop-i-preserved
loop-i-preserved c =
    let l = c.loop-i in
    counted_more c.args.samples.now l.n l.i 256 _ l.invariant (omega arith) c.ceilings_in_run.ensures.upper_bound c.ceilings_in_run.ensures.value

pub loop-i-2-preserved : goal.loop-i-2-preserved
loop-i-2-preserved c =
    let l = c.loop-i-2 in
    counted_next c.args.samples.now l.n l.i _ l.invariant (omega arith) c.at_ceiling.ensures.upper_bound c.at_ceiling.ensures.value

pub returns : goal.returns
returns c =
    let l = c.loop-i-2 in
    counted_all c.args.samples.now l.n l.i l.invariant (omega arith)
