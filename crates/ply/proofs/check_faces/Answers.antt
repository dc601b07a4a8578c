-- `check_faces` meets its contract: the first of the rows that refuses decides.
-- Assumes nothing.
use Prim.Native.Nat.{ℕ}
use mathlib.Core.Path.{sym, ap, ◌∙◌}
use Rattle.block.proofs.Order.{order_refuses, order_passes, order_last}
use Rattle.block.specs.Rows.{room_row}
use Rattle.ply.proofs.check_faces.Goals as goal

pub returns-in-Refuses : goal.returns-in-Refuses
returns-in-Refuses c = sym (order_refuses _ _ _ (sym c.check_length-whole.ensures ∙ c.in-Refuses.is))

pub returns-in-Refuses-good : goal.returns-in-Refuses-good
returns-in-Refuses-good c =
    sym (order_passes _ _ (sym c.check_length-whole.ensures ∙ c.in_default.is)
    ∙ order_refuses _ _ _ (sym c.check_spacing-good.ensures ∙ c.in-Refuses-good.is))

pub returns-in-Refuses-known : goal.returns-in-Refuses-known
returns-in-Refuses-known c =
    sym (order_passes _ _ (sym c.check_length-whole.ensures ∙ c.in_default.is)
    ∙ order_passes _ _ (sym c.check_spacing-good.ensures ∙ c.in_default-good.is)
    ∙ order_refuses _ _ _ (sym c.check_numbers-known.ensures ∙ c.in-Refuses-known.is))

pub returns : goal.returns
returns c =
    sym (order_passes _ _ (sym c.check_length-whole.ensures ∙ c.in_default.is)
    ∙ order_passes _ _ (sym c.check_spacing-good.ensures ∙ c.in_default-good.is)
    ∙ order_passes _ _ (sym c.check_numbers-known.ensures ∙ c.in_default-known.is)
    ∙ order_last _
    ∙ sym (c.check_room.ensures ∙ ap (λ (l : ℕ). room_row l c.args.room) c.bytes_needed.ensures))
