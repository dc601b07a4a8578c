-- `mesh_of` meets its contract: rows 2 and 3 refuse, or leave it to rows 5 and 6 and the mesh.
-- Assumes nothing.
use mathlib.Core.Path.{◌≡◌, sym, ◌∙◌}
use Rattle.block.specs.declared.Checked.TheVariants.{Passes}
use Rattle.block.specs.Answer.{in_order}
use Rattle.block.specs.Block.{block_rows}
use Rattle.mesh.proofs.MeshSteps.{early_refused, early_passed}
use Rattle.mesh.proofs.Sources.{not_readings}
use Rattle.mesh.proofs.Verdicts.{meshable_of}
use Rattle.mesh.proofs.mesh_of.Goals as goal

pub returns-in-Refuses : goal.returns-in-Refuses
returns-in-Refuses c =
    early_refused c.args.size c.args.samples.now c.args.cut c.args.words.now c.args.offsets.now c.args.quads.now (block_rows c.args.size c.args.samples.now c.args.cut) _ _
    (sym c.check_block-checked.ensures ∙ c.in-Refuses.is)

pub mesh_from-requires : goal.mesh_from-requires
mesh_from-requires c =
    let passed : in_order (block_rows c.args.size c.args.samples.now c.args.cut) ≡ Passes = sym c.check_block-checked.ensures ∙ c.in_default.is in
    (meshable_of c.args.size c.args.samples.now c.args.cut c.requires passed, λ d. absurd (not_readings d))

pub returns : goal.returns
returns c =
    let passed : in_order (block_rows c.args.size c.args.samples.now c.args.cut) ≡ Passes = sym c.check_block-checked.ensures ∙ c.in_default.is in
    early_passed c.args.size c.args.samples.now c.args.cut c.args.words.now c.args.offsets.now c.args.quads.now (block_rows c.args.size c.args.samples.now c.args.cut) _ passed c.mesh_from.ensures
