-- `tell_fraction` meets its contract: the fraction, or zero.
-- Assumes nothing.
use mathlib.Core.Path.{sym, ap}
use lib.Ieee.{of_bits}
use Rattle.laws.specs.Filled.{filled}
use Rattle.place.specs.declared.Crossing.{Crossing}
use Rattle.place.specs.Crossing.{said_edge}
use Rattle.told.specs.Numbers.{told_fraction}
use Rattle.told.proofs.tell_fraction.Goals as goal

pub returns-in-Nothing : goal.returns-in-Nothing
unfolding filled of_bits
returns-in-Nothing c = sym (ap (λ (x : Crossing). told_fraction (said_edge x)) c.in-Nothing.is)

pub returns-in-At : goal.returns-in-At
unfolding filled
returns-in-At c = sym (ap (λ (x : Crossing). told_fraction (said_edge x)) c.in-At.is)

pub returns-in-Refused : goal.returns-in-Refused
unfolding filled of_bits
returns-in-Refused c = sym (ap (λ (x : Crossing). told_fraction (said_edge x)) c.in-Refused.is)
