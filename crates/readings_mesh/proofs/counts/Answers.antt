-- `counts` meets its promise: row 1 refuses, or the size is made and the other rows decide.
-- Assumes nothing.
use mathlib.Core.Path.{subst}
use Rattle.block.specs.Size.{SizeMade}
use Rattle.block.proofs.Blocks.{axis_judged, made_judged}
use Rattle.block.proofs.Sizes.{size_made}
use Rattle.mesh.specs.Answer.{counts_of, said_counts}
use Rattle.readings.specs.Reading.{greys_of}
use Rattle.readings_mesh.specs.Answer.{reading_rows}
use Rattle.readings_mesh.proofs.counts.Goals as goal

pub counts_of-requires : goal.counts_of-requires
counts_of-requires c = (size_made c.args.nx c.args.ny c.args.nz _ (subst (SizeMade c.args.nx c.args.ny c.args.nz) c.in-Made.is c.new-made.ensures)).1

pub returns-in-BadAxis : goal.returns-in-BadAxis
returns-in-BadAxis c =
    axis_judged c.args.nx c.args.ny c.args.nz (λ n. reading_rows n c.args.readings.now c.args.cut) _ _
    (subst (SizeMade c.args.nx c.args.ny c.args.nz) c.in-BadAxis.is c.new-made.ensures)

pub returns-in-Made : goal.returns-in-Made
returns-in-Made c =
    made_judged c.args.nx c.args.ny c.args.nz (λ n. reading_rows n c.args.readings.now c.args.cut) (λ n. counts_of n (greys_of c.args.readings.now) c.args.cut) _ (said_counts c.counts_of.result)
    (subst (SizeMade c.args.nx c.args.ny c.args.nz) c.in-Made.is c.new-made.ensures) c.counts_of.ensures
