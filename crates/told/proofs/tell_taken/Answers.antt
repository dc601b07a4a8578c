-- `tell_taken` meets its contract: each case in its numbers.
-- Assumes nothing.
use mathlib.Core.Path.{sym, ap}
use Rattle.laws.specs.Filled.{filled}
use Rattle.by_planes.specs.declared.Taken.{Taken}
use Rattle.by_planes.specs.Answer.{said_taken}
use Rattle.told.specs.Numbers.{told_growth}
use Rattle.told.proofs.tell_taken.Goals as goal

pub returns-in-Wrote : goal.returns-in-Wrote
unfolding filled
returns-in-Wrote c = sym (ap (λ (x : Taken). told_growth (said_taken x)) c.in-Wrote.is)

pub returns-in-Refused : goal.returns-in-Refused
unfolding filled
returns-in-Refused c = sym (ap (λ (x : Taken). told_growth (said_taken x)) c.in-Refused.is)
