-- `has_quads` meets its contract, case by case.
-- Assumes nothing.
use Rattle.layers.proofs.Steps.{has_z, has_x, has_none_x}
use Rattle.layers.proofs.has_quads.Goals as goal

pub returns-in-AxisZ : goal.returns-in-AxisZ
returns-in-AxisZ c = has_z _ _ c.in-AxisZ.is

pub returns-else-j-eq0 : goal.returns-else-j-eq0
returns-else-j-eq0 c = has_x _ _ c.in-AxisX.is c.if-j-eq0.false

pub returns-then-j-eq0 : goal.returns-then-j-eq0
returns-then-j-eq0 c = has_none_x _ _ c.in-AxisX.is c.if-j-eq0.true
