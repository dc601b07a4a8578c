-- `check_row` meets its contract: one row after the other.
-- Assumes nothing.
use mathlib.Core.Path.{◌∙◌}
use native.Mathlib.Omega.{arith}
use Rattle.thresholds.proofs.Rows.{many_refuses, short_refuses, row_passes}
use Rattle.thresholds.proofs.check_row.Goals as goal

pub returns-then-count-gt16 : goal.returns-then-count-gt16
returns-then-count-gt16 c = c.refuse.ensures ∙ many_refuses _ _ _ (omega (arith, c.if-count-gt16.true)) c.short.ensures

pub returns-then-room-count : goal.returns-then-room-count
returns-then-room-count c = c.refuse-then-room-count.ensures ∙ short_refuses _ _ _ (omega (arith, c.if-count-gt16.false)) c.if-room-count.true c.short-then-room-count.ensures

pub returns : goal.returns
returns c = row_passes _ _ (omega (arith, c.if-count-gt16.false)) c.if-room-count.false
