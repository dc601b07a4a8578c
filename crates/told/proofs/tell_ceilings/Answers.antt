-- `tell_ceilings` meets its contract.
-- Assumes nothing.
use mathlib.Core.Path.{refl}
use Rattle.laws.specs.Filled.{filled}
use Rattle.told.proofs.tell_ceilings.Goals as goal

pub returns : goal.returns
unfolding filled
returns c = refl
