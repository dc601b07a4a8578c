-- `mesh_of` meets its contract: rows 2, 3 and 19 to 21 refuse, or leave it to rows 5 and 6 and the mesh.
-- Assumes nothing.
use mathlib.Core.Path.{◌≡◌, sym, ◌∙◌}
use Rattle.block.specs.declared.Checked.TheVariants.{Passes}
use Rattle.block.specs.Answer.{in_order}
use Rattle.mesh.proofs.MeshSteps.{early_refused, early_passed}
use Rattle.readings.specs.Reading.{greys_of}
use Rattle.readings_mesh.specs.Answer.{reading_rows}
use Rattle.readings_mesh.proofs.Rows.{readings_meshable, readings_sound}
use Rattle.readings_mesh.proofs.mesh_of.Goals as goal

pub returns-in-Refuses : goal.returns-in-Refuses
returns-in-Refuses c =
    early_refused c.args.size (greys_of c.args.readings.now) c.args.cut c.args.words.now c.args.offsets.now c.args.quads.now (reading_rows c.args.size c.args.readings.now c.args.cut) _ _
    (sym c.check-checked.ensures ∙ c.in-Refuses.is)

pub mesh_from-requires : goal.mesh_from-requires
mesh_from-requires c =
    let passed : in_order (reading_rows c.args.size c.args.readings.now c.args.cut) ≡ Passes = sym c.check-checked.ensures ∙ c.in_default.is in
    (readings_meshable c.args.size c.args.readings.now c.args.cut c.requires passed, λ _. readings_sound c.args.size c.args.readings.now c.args.cut c.requires passed)

pub returns : goal.returns
returns c =
    let passed : in_order (reading_rows c.args.size c.args.readings.now c.args.cut) ≡ Passes = sym c.check-checked.ensures ∙ c.in_default.is in
    early_passed c.args.size (greys_of c.args.readings.now) c.args.cut c.args.words.now c.args.offsets.now c.args.quads.now (reading_rows c.args.size c.args.readings.now c.args.cut) _ passed c.mesh_from.ensures
