-- `capped` meets its contract.
-- Assumes nothing.
use lib.Ieee.{of_bits}
use Rattle.readings.proofs.Cases.{capped_under, capped_top}
use Rattle.readings.proofs.capped.Goals as goal

pub returns-then-x : goal.returns-then-x
unfolding of_bits
returns-then-x c = capped_under c.args.x c.requires c.if-x.true

pub returns-else-x : goal.returns-else-x
unfolding of_bits
returns-else-x c = capped_top c.args.x c.requires c.if-x.false
