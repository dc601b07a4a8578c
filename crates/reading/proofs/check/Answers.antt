-- `check` meets its contract: the first of the rows that refuses decides.
-- Assumes nothing.
use mathlib.Core.Path.{sym, ◌∙◌}
use native.Mathlib.Omega.{arith}
use Rattle.reading.proofs.Axes.{both_pass}
use Rattle.reading.proofs.Verdicts.{first_refuses, axes_refuse, threshold_refuses, lines_decide}
use Rattle.reading.proofs.check.Goals as goal

pub returns-in-Refuses : goal.returns-in-Refuses
returns-in-Refuses c =
    let a = c.args in
    sym (first_refuses a.input.now (record { nx = a.nx; ny = a.ny; nz = a.nz }) (record { t = a.t; noise = 0 }) _ (sym c.check_line-first.ensures ∙ c.in-Refuses.is))

pub returns-in-Refuses-axes : goal.returns-in-Refuses-axes
returns-in-Refuses-axes c =
    let a = c.args in
    sym (axes_refuse a.input.now (record { nx = a.nx; ny = a.ny; nz = a.nz }) (record { t = a.t; noise = 0 })
    (sym c.check_line-first.ensures ∙ c.in_default.is) _ (sym c.check_axes-axes.ensures ∙ c.in-Refuses-axes.is))

pub returns-in-Refuses-threshold : goal.returns-in-Refuses-threshold
returns-in-Refuses-threshold c =
    let a = c.args in
    sym (threshold_refuses a.input.now (record { nx = a.nx; ny = a.ny; nz = a.nz }) (record { t = a.t; noise = 0 })
    (sym c.check_line-first.ensures ∙ c.in_default.is)
    (sym c.check_axes-axes.ensures ∙ c.in_default-axes.is) _ (sym c.check_threshold-threshold.ensures ∙ c.in-Refuses-threshold.is))

pub overflow_mul-ny : goal.overflow_mul-ny
overflow_mul-ny c =
    let eight = both_pass _ _ _ (sym c.check_axes-axes.ensures ∙ c.in_default-axes.is) in
    omega (arith, eight.rows)

pub check_lines-requires : goal.check_lines-requires
check_lines-requires c =
    let eight = both_pass _ _ _ (sym c.check_axes-axes.ensures ∙ c.in_default-axes.is) in
    (eight.x, eight.rows)

pub returns : goal.returns
returns c =
    let a = c.args in
    sym (lines_decide a.input.now (record { nx = a.nx; ny = a.ny; nz = a.nz }) (record { t = a.t; noise = 0 })
    (sym c.check_line-first.ensures ∙ c.in_default.is)
    (sym c.check_axes-axes.ensures ∙ c.in_default-axes.is)
    (sym c.check_threshold-threshold.ensures ∙ c.in_default-threshold.is)
    ∙ sym c.check_lines.ensures)
