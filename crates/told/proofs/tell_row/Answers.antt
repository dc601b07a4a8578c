-- `tell_row` meets its contract: each case in its numbers.
-- Assumes nothing.
use mathlib.Core.Path.{sym, ap}
use Rattle.laws.specs.Filled.{filled}
use Rattle.thresholds.specs.declared.RowAnswer.{RowAnswer}
use Rattle.thresholds.specs.Answer.{said_row}
use Rattle.told.specs.Numbers.{told_nothing}
use Rattle.told.proofs.tell_row.Goals as goal

pub returns-in-Answered : goal.returns-in-Answered
unfolding filled
returns-in-Answered c = sym (ap (λ (x : RowAnswer). told_nothing (said_row x)) c.in-Answered.is)

pub returns-in-Refused : goal.returns-in-Refused
unfolding filled
returns-in-Refused c = sym (ap (λ (x : RowAnswer). told_nothing (said_row x)) c.in-Refused.is)
