-- `check_axes` meets its contract: what `Size::new` answers is what row 1 says, and the lowest axis over 8 is named.
-- Assumes nothing.
use mathlib.Core.Path.{◌≡◌, subst, ◌∙◌}
use Rattle.block.specs.declared.Checked.TheVariants.{Passes}
use Rattle.block.specs.Rows.{axis_row}
use Rattle.block.specs.Size.{SizeMade}
use Rattle.block.proofs.Sizes.{axis_refused, axis_passed}
use Rattle.reading.proofs.Axes.{first_large, second_large, third_large, none_large, axis_first, then_large}
use Rattle.reading.proofs.check_axes.Goals as goal

pub returns-in-BadAxis : goal.returns-in-BadAxis
returns-in-BadAxis c =
    let a = c.args in
    c.refuse.ensures ∙ axis_first a.nx a.ny a.nz _ (axis_refused a.nx a.ny a.nz _ (subst (SizeMade a.nx a.ny a.nz) c.in-BadAxis.is c.new-size.ensures))

pub returns-then-nx-gt8 : goal.returns-then-nx-gt8
returns-then-nx-gt8 c =
    let axes-made : axis_row c.args.nx c.args.ny c.args.nz ≡ Passes = let a = c.args in axis_passed a.nx a.ny a.nz _ (subst (SizeMade a.nx a.ny a.nz) c.in_default.is c.new-size.ensures) in
    c.refuse-then-nx-gt8.ensures ∙ then_large _ _ _ _ axes-made (first_large _ _ _ c.if-nx-gt8.true)

pub returns-then-ny-gt8 : goal.returns-then-ny-gt8
returns-then-ny-gt8 c =
    let axes-made : axis_row c.args.nx c.args.ny c.args.nz ≡ Passes = let a = c.args in axis_passed a.nx a.ny a.nz _ (subst (SizeMade a.nx a.ny a.nz) c.in_default.is c.new-size.ensures) in
    c.refuse-then-ny-gt8.ensures ∙ then_large _ _ _ _ axes-made (second_large _ _ _ c.if-nx-gt8.false c.if-ny-gt8.true)

pub returns-then-nz-gt8 : goal.returns-then-nz-gt8
returns-then-nz-gt8 c =
    let axes-made : axis_row c.args.nx c.args.ny c.args.nz ≡ Passes = let a = c.args in axis_passed a.nx a.ny a.nz _ (subst (SizeMade a.nx a.ny a.nz) c.in_default.is c.new-size.ensures) in
    c.refuse-then-nz-gt8.ensures
    ∙ then_large _ _ _ _ axes-made (third_large _ _ _ c.if-nx-gt8.false c.if-ny-gt8.false c.if-nz-gt8.true)

pub returns : goal.returns
returns c =
    let axes-made : axis_row c.args.nx c.args.ny c.args.nz ≡ Passes = let a = c.args in axis_passed a.nx a.ny a.nz _ (subst (SizeMade a.nx a.ny a.nz) c.in_default.is c.new-size.ensures) in
    then_large _ _ _ _ axes-made (none_large _ _ _ c.if-nx-gt8.false c.if-ny-gt8.false c.if-nz-gt8.false)
