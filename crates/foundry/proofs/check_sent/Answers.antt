-- `check_sent` meets its contract: the first of the rows that refuses decides.
-- Assumes nothing.
use mathlib.Core.Path.{sym, ◌∙◌}
use Rattle.block.proofs.Order.{order_refuses, order_passes, order_last}
use Rattle.foundry.proofs.check_sent.Goals as goal

pub returns-in-Refuses : goal.returns-in-Refuses
returns-in-Refuses c = sym (order_refuses _ _ _ (sym c.check_shape-shape.ensures ∙ c.in-Refuses.is))

pub returns-in-Refuses-whole : goal.returns-in-Refuses-whole
returns-in-Refuses-whole c =
    sym (order_passes _ _ (sym c.check_shape-shape.ensures ∙ c.in_default.is)
    ∙ order_refuses _ _ _ (sym c.check_length-whole.ensures ∙ c.in-Refuses-whole.is))

pub returns : goal.returns
returns c =
    sym (order_passes _ _ (sym c.check_shape-shape.ensures ∙ c.in_default.is)
    ∙ order_passes _ _ (sym c.check_length-whole.ensures ∙ c.in_default-whole.is)
    ∙ order_last _
    ∙ sym c.check_numbers.ensures)
