-- `check` meets its contract: the first of rows 2, 3 and 19 to 21 that refuses decides.
-- Assumes nothing.
use mathlib.Core.Path.{◌≡◌, sym, ◌∙◌}
use lib.ListN.{length}
use Rattle.block.specs.declared.Checked.TheVariants.{Passes}
use Rattle.block.specs.Rows.{count_row}
use Rattle.block.proofs.Order.{order_refuses}
use Rattle.readings_mesh.proofs.Rows.{threshold_refused, faults_decide}
use Rattle.readings_mesh.proofs.check.Goals as goal

pub returns-in-Refuses : goal.returns-in-Refuses
returns-in-Refuses c = sym (order_refuses _ _ _ (sym c.check_count-count.ensures ∙ c.in-Refuses.is))

pub returns-in-Refuses-threshold : goal.returns-in-Refuses-threshold
returns-in-Refuses-threshold c =
    let counted : let a = c.args in count_row a.size (length a.readings.now) ≡ Passes = sym c.check_count-count.ensures ∙ c.in_default.is in
    let a = c.args in
    threshold_refused a.size a.readings.now a.cut counted _ (sym c.check_threshold-threshold.ensures ∙ c.in-Refuses-threshold.is)

pub returns : goal.returns
returns c =
    let counted : let a = c.args in count_row a.size (length a.readings.now) ≡ Passes = sym c.check_count-count.ensures ∙ c.in_default.is in
    let a = c.args in
    faults_decide a.size a.readings.now a.cut counted (sym c.check_threshold-threshold.ensures ∙ c.in_default-threshold.is) _ c.check_readings.ensures
