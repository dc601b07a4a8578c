-- `judge` meets its promise: row 1 refuses, or the size is made and the other rows decide.
-- Assumes nothing.
use mathlib.Core.Path.{subst}
use Rattle.block.specs.Size.{SizeMade}
use Rattle.block.specs.Block.{block_rows}
use Rattle.block.proofs.Blocks.{axis_judged, made_judged}
use Rattle.block.proofs.Sizes.{size_made}
use mathlib.Core.List.{◌++◌}
use Rattle.foundry.specs.Answer.{said_judgement, sent_rows, compared_with}
use Rattle.foundry.proofs.judge.Goals as goal

pub judge_in-requires : goal.judge_in-requires
judge_in-requires c = (size_made c.args.nx c.args.ny c.args.nz _ (subst (SizeMade c.args.nx c.args.ny c.args.nz) c.in-Made.is c.new-made.ensures)).1

pub returns-in-BadAxis : goal.returns-in-BadAxis
returns-in-BadAxis c =
    axis_judged c.args.nx c.args.ny c.args.nz (λ n. block_rows n c.args.samples.now c.args.cut ++ sent_rows c.args.words.now c.args.offsets.now c.args.quads.now) _ _
    (subst (SizeMade c.args.nx c.args.ny c.args.nz) c.in-BadAxis.is c.new-made.ensures)

pub returns-in-Made : goal.returns-in-Made
returns-in-Made c =
    made_judged c.args.nx c.args.ny c.args.nz (λ n. block_rows n c.args.samples.now c.args.cut ++ sent_rows c.args.words.now c.args.offsets.now c.args.quads.now)
    (λ n. compared_with n c.args.samples.now c.args.cut c.args.words.now c.args.offsets.now c.args.quads.now) _ (said_judgement c.judge_in.result)
    (subst (SizeMade c.args.nx c.args.ny c.args.nz) c.in-Made.is c.new-made.ensures) c.judge_in.ensures
