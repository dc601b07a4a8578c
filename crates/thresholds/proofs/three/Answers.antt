-- `three` meets its contract: what row 3 refuses, or the counts.
-- Assumes nothing.
use mathlib.Core.Path.{sym, ◌∙◌}
use Rattle.thresholds.proofs.Threes.{told_refused, told_counted}
use Rattle.thresholds.proofs.three.Goals as goal

pub returns-in-Refuses : goal.returns-in-Refuses
returns-in-Refuses c = told_refused _ _ _ (sym c.check_threshold-checked.ensures ∙ c.in-Refuses.is)

pub returns : goal.returns
returns c = told_counted _ _ _ (sym c.check_threshold-checked.ensures ∙ c.in_default.is) c.total-c.ensures
