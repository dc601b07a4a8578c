-- `tell_cube` meets its contract: each case in its numbers.
-- Assumes nothing.
use mathlib.Core.Path.{sym, ap}
use Rattle.laws.specs.Filled.{filled}
use Rattle.cell.specs.declared.Found.{Found}
use Rattle.cell.specs.Answer.{said_cube}
use Rattle.told.specs.Numbers.{told_number}
use Rattle.told.proofs.tell_cube.Goals as goal

pub returns-in-Loops : goal.returns-in-Loops
unfolding filled
returns-in-Loops c = sym (ap (λ (x : Found). told_number (said_cube x)) c.in-Loops.is)

pub returns-in-Refused : goal.returns-in-Refused
unfolding filled
returns-in-Refused c = sym (ap (λ (x : Found). told_number (said_cube x)) c.in-Refused.is)
