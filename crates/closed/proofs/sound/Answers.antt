-- `sound` meets its contract: equal ends, or as many walks there as back.
-- Assumes nothing.
use Rattle.closed.proofs.Search.{other_ends, equal_ends}
use Rattle.closed.proofs.sound.Goals as goal

pub returns : goal.returns
returns c = other_ends _ _ c.args.there c.args.back c.if-a-b.false

pub returns-then-a-b : goal.returns-then-a-b
returns-then-a-b c = equal_ends _ _ c.args.there c.args.back c.if-a-b.true
