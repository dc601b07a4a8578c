-- `ceilings` meets its promise: no sample before the lowest is at the ceiling, so the count may begin there.
-- Assumes nothing.
use mathlib.Core.Path.{sym, subst}
use Rattle.block.specs.Grey.{is_ceiling}
use Rattle.block.specs.Steps.{ClearBefore}
use Rattle.block.proofs.Lowest.{lowest_le, lowest_before}
use Rattle.block.proofs.ceilings.Goals as goal

pub count_ceilings-count-requires : goal.count_ceilings-count-requires
count_ceilings-count-requires c =
    let s = c.args.samples.now in
    subst (ClearBefore s) (sym c.lowest_ceiling-lowest.ensures) (lowest_le is_ceiling s, lowest_before is_ceiling 0 s)
