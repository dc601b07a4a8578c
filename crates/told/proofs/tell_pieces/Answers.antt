-- `tell_pieces` meets its contract: each case in its numbers.
-- Assumes nothing.
use mathlib.Core.Path.{sym, ap}
use Rattle.laws.specs.Filled.{filled}
use Rattle.pieces.specs.declared.Pieced.{Pieced}
use Rattle.pieces.specs.Answer.{said_pieces}
use Rattle.told.specs.Numbers.{told_pieces}
use Rattle.told.proofs.tell_pieces.Goals as goal

pub returns-in-Found : goal.returns-in-Found
unfolding filled
returns-in-Found c = sym (ap (λ (x : Pieced). told_pieces (said_pieces x)) c.in-Found.is)

pub returns-in-Refused : goal.returns-in-Refused
unfolding filled
returns-in-Refused c = sym (ap (λ (x : Pieced). told_pieces (said_pieces x)) c.in-Refused.is)
