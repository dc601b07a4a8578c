-- `start` meets its promise: row 1 refuses, or the size is made and the other rows decide.
-- Assumes nothing.
use Rattle.std.proofs.Common.{sym, ap, ◌∙◌, subst}
use Rattle.block.specs.declared.Checked.{Checked}
use Rattle.block.specs.Answer.{judged}
use Rattle.block.specs.Rows.{axis_row}
use Rattle.block.specs.Size.{SizeMade}
use Rattle.block.proofs.Order.{order_refuses, order_passes, judged_refused}
use Rattle.block.proofs.Sizes.{axis_refused, axis_passed, size_made}
use Rattle.by_planes.specs.Answer.{begun}
use Rattle.by_planes.proofs.start.Goals as goal

pub start_of-requires : goal.start_of-requires
start_of-requires c =
    let a = c.args in
    let m = size_made a.nx a.ny a.nz _ (subst (SizeMade a.nx a.ny a.nz) c.in-Made.is c.new-made.ensures) in
    record { is = m.0; limits = m.1 }

pub returns-in-BadAxis : goal.returns-in-BadAxis
returns-in-BadAxis c =
    let a = c.args in
    judged_refused _ (begun a.nx a.ny a.nz a.cut) _ (order_refuses (axis_row a.nx a.ny a.nz) _ _ (axis_refused a.nx a.ny a.nz _ (subst (SizeMade a.nx a.ny a.nz) c.in-BadAxis.is c.new-made.ensures)))

pub returns-in-Made : goal.returns-in-Made
returns-in-Made c =
    let a = c.args in
    c.start_of.ensures
    ∙ ap (λ (k : Checked). judged k (begun a.nx a.ny a.nz a.cut)) (sym (order_passes (axis_row a.nx a.ny a.nz) _ (axis_passed a.nx a.ny a.nz _ (subst (SizeMade a.nx a.ny a.nz) c.in-Made.is c.new-made.ensures))))
