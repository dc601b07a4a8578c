-- `is_whole` meets its contract.
-- Assumes nothing.
use Rattle.foundry.proofs.Outcome.{as_many, not_as_many}
use Rattle.foundry.proofs.is_whole.Goals as goal

pub returns : goal.returns
returns c =
    let a = c.args in
    as_many a.size a.samples.now a.cut a.vertices a.quads c.counts_from-ours.result c.counts_from-ours.ensures c.if-vertices-ours.false

pub returns-then-vertices-ours : goal.returns-then-vertices-ours
returns-then-vertices-ours c =
    let a = c.args in
    not_as_many a.size a.samples.now a.cut a.vertices a.quads c.counts_from-ours.result c.counts_from-ours.ensures c.if-vertices-ours.true
