-- `take` meets its promise: row 1 refuses, or the size is made and the other rows decide.
-- Assumes nothing.
use Rattle.std.proofs.Common.{subst}
use Rattle.block.specs.Rows.{axis_row}
use Rattle.block.specs.Size.{SizeMade}
use Rattle.block.proofs.Order.{order_refuses}
use Rattle.block.proofs.Sizes.{axis_refused, size_made}
use Rattle.by_planes.proofs.Calls.{taken_refused}
use Rattle.by_planes.proofs.take.Goals as goal

pub take_of-requires : goal.take_of-requires
take_of-requires c =
    let a = c.args.stream in
    let m = size_made a.nx a.ny a.nz _ (subst (SizeMade a.nx a.ny a.nz) c.in-Made.is c.new-made.ensures) in
    record { is = m.0; limits = m.1 }

pub returns-in-BadAxis : goal.returns-in-BadAxis
returns-in-BadAxis c =
    let a = c.args.stream in
    taken_refused a c.args.plane.now c.args.work.now c.args.words.now c.args.offsets.now c.args.quads.now _
    (order_refuses (axis_row a.nx a.ny a.nz) _ _ (axis_refused a.nx a.ny a.nz _ (subst (SizeMade a.nx a.ny a.nz) c.in-BadAxis.is c.new-made.ensures)))
