-- `counts_row` meets its promise: rows 16 and 15 refuse, or row 1 does, or the size is made and row 2 decides.
-- Assumes nothing.
use mathlib.Core.Path.{◌≡◌, sym, ◌∙◌, subst}
use mathlib.Core.List.{[], ◌∷◌}
use lib.ListN.{length}
use Rattle.block.specs.declared.Checked.TheVariants.{Passes}
use Rattle.block.specs.Answer.{in_order}
use Rattle.block.specs.Size.{SizeMade}
use Rattle.block.proofs.Sizes.{size_made}
use Rattle.thresholds.specs.Answer.{many_row, answers_row}
use Rattle.thresholds.proofs.Rows.{row_fits}
use Rattle.thresholds.proofs.Verdicts.{early, bad_axis, made}
use Rattle.thresholds.proofs.counts_row.Goals as goal

pub returns-in-Refuses : goal.returns-in-Refuses
returns-in-Refuses c =
    let a = c.args in
    early a.nx a.ny a.nz a.samples.now a.thresholds.now a.noise a.answers.now _ (sym c.check_row-checked.ensures ∙ c.in-Refuses.is)

pub counts_in-requires : goal.counts_in-requires
counts_in-requires c =
    let passed : let a = c.args in in_order (many_row (length a.thresholds.now) ∷ answers_row (length a.thresholds.now) (length a.answers.now) ∷ []) ≡ Passes = sym c.check_row-checked.ensures ∙ c.in_default.is in
    let a = c.args in
    let fits = row_fits (length a.thresholds.now) (length a.answers.now) passed in
    ((size_made a.nx a.ny a.nz _ (subst (SizeMade a.nx a.ny a.nz) c.in-Made.is c.new-made.ensures)).1, fits.0, fits.1)

pub returns-in-BadAxis : goal.returns-in-BadAxis
returns-in-BadAxis c =
    let passed : let a = c.args in in_order (many_row (length a.thresholds.now) ∷ answers_row (length a.thresholds.now) (length a.answers.now) ∷ []) ≡ Passes = sym c.check_row-checked.ensures ∙ c.in_default.is in
    let a = c.args in
    bad_axis a.nx a.ny a.nz a.samples.now a.thresholds.now a.noise a.answers.now passed _
    (subst (SizeMade a.nx a.ny a.nz) c.in-BadAxis.is c.new-made.ensures)

pub returns-in-Made : goal.returns-in-Made
returns-in-Made c =
    let passed : let a = c.args in in_order (many_row (length a.thresholds.now) ∷ answers_row (length a.thresholds.now) (length a.answers.now) ∷ []) ≡ Passes = sym c.check_row-checked.ensures ∙ c.in_default.is in
    let a = c.args in
    made a.nx a.ny a.nz a.samples.now a.thresholds.now a.noise a.answers.now passed _ _ _
    (subst (SizeMade a.nx a.ny a.nz) c.in-Made.is c.new-made.ensures) c.counts_in.ensures
