-- `check` meets its contract: rows 2 and 3 before those of the lists.
-- Assumes nothing.
use mathlib.Core.Path.{sym, ◌∙◌}
use Rattle.block.proofs.Order.{orders_refuse, orders_pass}
use Rattle.foundry.proofs.check.Goals as goal

pub returns-in-Refuses : goal.returns-in-Refuses
returns-in-Refuses c = sym (orders_refuse _ _ _ (sym c.check_block-block.ensures ∙ c.in-Refuses.is))

pub returns : goal.returns
returns c = sym (orders_pass _ _ (sym c.check_block-block.ensures ∙ c.in_default.is) ∙ sym c.check_sent.ensures)
