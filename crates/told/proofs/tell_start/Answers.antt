-- `tell_start` meets its contract: each case in its numbers.
-- Assumes nothing.
use mathlib.Core.Path.{sym, ap}
use Rattle.laws.specs.Filled.{filled}
use Rattle.by_planes.specs.declared.Started.{Started}
use Rattle.by_planes.specs.Answer.{said_start}
use Rattle.told.specs.Numbers.{told_nothing}
use Rattle.told.proofs.tell_start.Goals as goal

pub returns-in-Begun : goal.returns-in-Begun
unfolding filled
returns-in-Begun c = sym (ap (λ (x : Started). told_nothing (said_start x)) c.in-Begun.is)

pub returns-in-Refused : goal.returns-in-Refused
unfolding filled
returns-in-Refused c = sym (ap (λ (x : Started). told_nothing (said_start x)) c.in-Refused.is)
