-- `Offset::plus` meets its contract: one rounded sum on each axis.
-- Assumes nothing.
use Rattle.place.specs.Steps.{plus_crossing}
use Rattle.place.proofs.Offset.plus.Goals as goal

pub returns : goal.returns
unfolding plus_crossing
returns c = cc
