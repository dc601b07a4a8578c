-- `tell_crossed` meets its contract: each case in its numbers.
-- Assumes nothing.
use mathlib.Core.Path.{sym, ap}
use Rattle.laws.specs.Filled.{filled}
use Rattle.room.specs.declared.Edged.{Edged}
use Rattle.room.specs.Answer.{said_crossed}
use Rattle.told.specs.Numbers.{told_number}
use Rattle.told.proofs.tell_crossed.Goals as goal

pub returns-in-Edges : goal.returns-in-Edges
unfolding filled
returns-in-Edges c = sym (ap (λ (x : Edged). told_number (said_crossed x)) c.in-Edges.is)

pub returns-in-Refused : goal.returns-in-Refused
unfolding filled
returns-in-Refused c = sym (ap (λ (x : Edged). told_number (said_crossed x)) c.in-Refused.is)
