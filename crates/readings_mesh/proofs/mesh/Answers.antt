-- `mesh` meets its promise: row 1 refuses, or the size is made and the other rows decide.
-- Assumes nothing.
use mathlib.Core.Path.{subst}
use Rattle.readings.specs.Reading.{greys_of}
use Rattle.readings_mesh.specs.Answer.{reading_rows}
use Rattle.block.specs.Size.{SizeMade}
use Rattle.block.proofs.Sizes.{size_made}
use Rattle.mesh.proofs.Verdicts.{mesh_bad_axis, mesh_made}
use Rattle.readings_mesh.proofs.mesh.Goals as goal

pub mesh_of-requires : goal.mesh_of-requires
mesh_of-requires c = (size_made c.args.nx c.args.ny c.args.nz _ (subst (SizeMade c.args.nx c.args.ny c.args.nz) c.in-Made.is c.new-made.ensures)).1

pub returns-in-BadAxis : goal.returns-in-BadAxis
returns-in-BadAxis c =
    mesh_bad_axis c.args.nx c.args.ny c.args.nz (λ n. reading_rows n c.args.readings.now c.args.cut) (greys_of c.args.readings.now) c.args.cut c.args.words.now c.args.offsets.now c.args.quads.now _
    (subst (SizeMade c.args.nx c.args.ny c.args.nz) c.in-BadAxis.is c.new-made.ensures)

pub returns-in-Made : goal.returns-in-Made
returns-in-Made c =
    mesh_made c.args.nx c.args.ny c.args.nz (λ n. reading_rows n c.args.readings.now c.args.cut) (greys_of c.args.readings.now) c.args.cut c.args.words.now c.args.offsets.now c.args.quads.now _ c.mesh_of.result _ _ _
    (subst (SizeMade c.args.nx c.args.ny c.args.nz) c.in-Made.is c.new-made.ensures) c.mesh_of.ensures
