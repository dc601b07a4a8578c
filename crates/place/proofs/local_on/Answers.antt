-- `local_on` meets its contract: along the edge the fraction, across it the coordinate of the lower corner.
-- Assumes nothing.
use mathlib.Core.Path.{sym}
use Rattle.place.proofs.Steps.{local_along, local_across}
use Rattle.place.proofs.local_on.Goals as goal

pub returns-then-e-axis : goal.returns-then-e-axis
returns-then-e-axis c = sym (local_along _ _ _ c.if-e-axis.true)

pub returns : goal.returns
returns c = sym (local_across _ _ _ c.if-e-axis.false _ c.lower_corner.ensures.value)
