-- `whole` meets its contract: the comparison tells which of the two whole numbers next to x is its whole part.
-- Assumes nothing.
use lib.Ieee.{of_bits}
use Rattle.readings.proofs.Floor.{whole_above, whole_there}
use Rattle.readings.proofs.whole.Goals as goal

pub returns-then-x-near : goal.returns-then-x-near
unfolding of_bits
returns-then-x-near c = whole_above c.args.x c.requires c.if-x-near.true

pub returns-else-x-near : goal.returns-else-x-near
unfolding of_bits
returns-else-x-near c = whole_there c.args.x c.requires c.if-x-near.false
