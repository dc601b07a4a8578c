-- `check_block` meets its contract: the first of rows 2 and 3 that refuses decides.
-- Assumes nothing.
use mathlib.Core.Path.{sym, ◌∙◌}
use Rattle.block.proofs.Order.{order_refuses, order_passes, order_last}
use Rattle.block.proofs.check_block.Goals as goal

pub returns-in-Refuses : goal.returns-in-Refuses
returns-in-Refuses c = sym (order_refuses _ _ _ (sym c.check_count-count.ensures ∙ c.in-Refuses.is))

pub returns : goal.returns
returns c =
    sym (order_passes _ _ (sym c.check_count-count.ensures ∙ c.in_default.is)
    ∙ order_last _ ∙ sym c.check_threshold.ensures)
