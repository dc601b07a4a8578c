-- `crossed_of` meets its contract: a refusal of rows 2 and 3, or the crossed edges, which are few enough for an answer.
-- Assumes nothing.
use mathlib.Core.Path.{◌≡◌, sym, ◌∙◌}
use native.Mathlib.Omega.{arith}
use Rattle.block.specs.declared.Checked.TheVariants.{Passes}
use Rattle.block.specs.Answer.{in_order}
use Rattle.block.specs.Block.{block_rows}
use Rattle.block.proofs.Blocks.{sampled_of}
use Rattle.block.proofs.Order.{judged_refused, judged_passed}
use Rattle.room.proofs.Most.{most_edges}
use Rattle.room.proofs.crossed_of.Goals as goal

pub returns-in-Refuses : goal.returns-in-Refuses
returns-in-Refuses c = judged_refused _ _ _ (sym c.check_block-checked.ensures ∙ c.in-Refuses.is)

pub block_edges-m-requires : goal.block_edges-m-requires
block_edges-m-requires c =
    let passed : in_order (block_rows c.args.size c.args.samples.now c.args.cut) ≡ Passes = sym c.check_block-checked.ensures ∙ c.in_default.is in
    sampled_of c.args.size c.args.samples.now c.args.cut c.requires passed

pub overflow_cast-result : goal.overflow_cast-result
overflow_cast-result c = omega (arith, c.block_edges-m.ensures, most_edges c.args.size c.args.samples.now c.args.cut c.requires)

pub returns : goal.returns
returns c =
    let passed : in_order (block_rows c.args.size c.args.samples.now c.args.cut) ≡ Passes = sym c.check_block-checked.ensures ∙ c.in_default.is in
    judged_passed _ _ _ passed c.block_edges-m.ensures
