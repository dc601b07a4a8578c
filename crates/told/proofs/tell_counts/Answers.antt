-- `tell_counts` meets its contract: each case in its numbers.
-- Assumes nothing.
use mathlib.Core.Path.{sym, ap}
use Rattle.laws.specs.Filled.{filled}
use Rattle.mesh.specs.declared.Counted.{Counted}
use Rattle.mesh.specs.Answer.{said_counts, told_counts}
use Rattle.told.proofs.tell_counts.Goals as goal

pub returns-in-Counts : goal.returns-in-Counts
unfolding filled
returns-in-Counts c = sym (ap (λ (x : Counted). told_counts (said_counts x)) c.in-Counts.is)

pub returns-in-Refused : goal.returns-in-Refused
unfolding filled
returns-in-Refused c = sym (ap (λ (x : Counted). told_counts (said_counts x)) c.in-Refused.is)
