-- `Offset::over` meets its contract: one division on each axis, by a count that fits an f64.
-- Assumes nothing.
use mathlib.Core.Path.{refl}
use Rattle.place.specs.Steps.{divided_by}
use Rattle.place.proofs.Offset.over.Goals as goal

pub returns : goal.returns
unfolding divided_by
returns c = refl
