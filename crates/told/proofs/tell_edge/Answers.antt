-- `tell_edge` meets its contract: each case in its numbers.
-- Assumes nothing.
use mathlib.Core.Path.{sym, ap}
use Rattle.laws.specs.Filled.{filled}
use Rattle.place.specs.declared.Crossing.{Crossing}
use Rattle.place.specs.Crossing.{said_edge}
use Rattle.told.specs.Numbers.{told_edge}
use Rattle.told.proofs.tell_edge.Goals as goal

pub returns-in-Nothing : goal.returns-in-Nothing
unfolding filled
returns-in-Nothing c = sym (ap (λ (x : Crossing). told_edge (said_edge x)) c.in-Nothing.is)

pub returns-in-At : goal.returns-in-At
unfolding filled
returns-in-At c = sym (ap (λ (x : Crossing). told_edge (said_edge x)) c.in-At.is)

pub returns-in-Refused : goal.returns-in-Refused
unfolding filled
returns-in-Refused c = sym (ap (λ (x : Crossing). told_edge (said_edge x)) c.in-Refused.is)
