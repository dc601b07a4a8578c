-- `number` meets its contract.
-- Assumes nothing.
use Rattle.pieces.proofs.Midway.{lowest_one, numbered_one}
use Rattle.pieces.proofs.number.Goals as goal

pub returns-clause-numbered_one : goal.returns-clause-numbered_one
returns-clause-numbered_one c = lowest_one c.args.up.now c.args.size.now c.args.v _ c.search-way.ensures.top_value c.if-top-v.false

pub returns-then-top-v-clause-numbered_one : goal.returns-then-top-v-clause-numbered_one
returns-then-top-v-clause-numbered_one c = numbered_one c.args.up.now c.args.size.now c.args.v _ c.search-way.ensures.top_value c.if-top-v.true
