-- `check` meets its promise: the first of the rows that refuses decides.
-- Assumes nothing.
use mathlib.Core.Path.{sym, ◌∙◌}
use Rattle.block.proofs.Order.{order_refuses, order_passes, order_last}
use Rattle.vertex_lists.proofs.check.Goals as goal

pub returns-in-Refuses : goal.returns-in-Refuses
returns-in-Refuses c = sym (order_refuses _ _ _ (sym c.check_shape-shape.ensures ∙ c.in-Refuses.is))

pub returns-in-Refuses-inside : goal.returns-in-Refuses-inside
returns-in-Refuses-inside c =
    sym (order_passes _ _ (sym c.check_shape-shape.ensures ∙ c.in_default.is)
    ∙ order_refuses _ _ _ (sym c.check_cubes-inside.ensures ∙ c.in-Refuses-inside.is))

pub returns : goal.returns
returns c =
    sym (order_passes _ _ (sym c.check_shape-shape.ensures ∙ c.in_default.is)
    ∙ order_passes _ _ (sym c.check_cubes-inside.ensures ∙ c.in_default-inside.is)
    ∙ order_last _
    ∙ sym c.check_offsets.ensures)
