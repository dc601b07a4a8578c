-- `counts_of` meets its contract: a refusal of rows 2 and 3, or the counts.
-- Assumes nothing.
use mathlib.Core.Path.{◌≡◌, sym, ◌∙◌}
use Rattle.block.specs.declared.Checked.TheVariants.{Passes}
use Rattle.block.specs.Answer.{in_order}
use Rattle.block.specs.Block.{block_rows}
use Rattle.block.proofs.Order.{judged_refused, judged_passed}
use Rattle.block.proofs.Blocks.{sampled_of}
use Rattle.mesh.proofs.Sources.{not_readings}
use Rattle.mesh.proofs.counts_of.Goals as goal

pub returns-in-Refuses : goal.returns-in-Refuses
returns-in-Refuses c = judged_refused _ _ _ (sym c.check_block-checked.ensures ∙ c.in-Refuses.is)

pub counts_from-requires : goal.counts_from-requires
counts_from-requires c =
    let passed : in_order (block_rows c.args.size c.args.samples.now c.args.cut) ≡ Passes = sym c.check_block-checked.ensures ∙ c.in_default.is in
    (sampled_of c.args.size c.args.samples.now c.args.cut c.requires passed, λ e. absurd (not_readings e))

pub returns : goal.returns
returns c =
    let passed : in_order (block_rows c.args.size c.args.samples.now c.args.cut) ≡ Passes = sym c.check_block-checked.ensures ∙ c.in_default.is in
    judged_passed _ _ _ passed c.counts_from.ensures
