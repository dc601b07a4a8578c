-- `crossed` meets its promise: row 1 refuses, or the size is made and the other rows decide.
-- Assumes nothing.
use mathlib.Core.Path.{subst}
use Rattle.block.specs.Size.{SizeMade}
use Rattle.block.specs.Block.{block_rows}
use Rattle.block.proofs.Blocks.{axis_judged, made_judged}
use Rattle.block.proofs.Sizes.{size_made}
use Rattle.room.specs.Answer.{said_crossed}
use Rattle.room.specs.Crossed.{crossed_count}
use Rattle.room.proofs.crossed.Goals as goal

pub crossed_of-requires : goal.crossed_of-requires
crossed_of-requires c = (size_made c.args.nx c.args.ny c.args.nz _ (subst (SizeMade c.args.nx c.args.ny c.args.nz) c.in-Made.is c.new-made.ensures)).1

pub returns-in-BadAxis : goal.returns-in-BadAxis
returns-in-BadAxis c =
    axis_judged c.args.nx c.args.ny c.args.nz (λ n. block_rows n c.args.samples.now c.args.cut) _ _
    (subst (SizeMade c.args.nx c.args.ny c.args.nz) c.in-BadAxis.is c.new-made.ensures)

pub returns-in-Made : goal.returns-in-Made
returns-in-Made c =
    made_judged c.args.nx c.args.ny c.args.nz (λ n. block_rows n c.args.samples.now c.args.cut) (λ n. crossed_count n c.args.samples.now c.args.cut) _ (said_crossed c.crossed_of.result)
    (subst (SizeMade c.args.nx c.args.ny c.args.nz) c.in-Made.is c.new-made.ensures) c.crossed_of.ensures
