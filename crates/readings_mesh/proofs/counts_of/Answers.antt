-- `counts_of` meets its contract: a refusal of rows 2, 3 and 19 to 21, or the counts of the block so obtained.
-- Assumes nothing.
use mathlib.Core.Path.{◌≡◌, sym, ◌∙◌}
use Rattle.block.specs.declared.Checked.TheVariants.{Passes}
use Rattle.block.specs.Answer.{in_order}
use Rattle.block.proofs.Order.{judged_refused, judged_passed}
use Rattle.readings_mesh.specs.Answer.{reading_rows}
use Rattle.readings_mesh.proofs.Rows.{readings_sampled, readings_sound}
use Rattle.readings_mesh.proofs.counts_of.Goals as goal

pub returns-in-Refuses : goal.returns-in-Refuses
returns-in-Refuses c = judged_refused _ _ _ (sym c.check-checked.ensures ∙ c.in-Refuses.is)

pub counts_from-requires : goal.counts_from-requires
counts_from-requires c =
    let passed : let a = c.args in in_order (reading_rows a.size a.readings.now a.cut) ≡ Passes = sym c.check-checked.ensures ∙ c.in_default.is in
    let a = c.args in
    (readings_sampled a.size a.readings.now a.cut c.requires passed, λ _. readings_sound a.size a.readings.now a.cut c.requires passed)

pub returns : goal.returns
returns c =
    let passed : let a = c.args in in_order (reading_rows a.size a.readings.now a.cut) ≡ Passes = sym c.check-checked.ensures ∙ c.in_default.is in
    judged_passed _ _ _ passed c.counts_from.ensures
