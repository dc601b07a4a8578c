-- `check` meets its contract: the first of the rows that refuses decides.
-- Assumes nothing.
use mathlib.Core.Path.{sym, subst, ◌∙◌}
use Rattle.block.specs.Size.{SizeMade}
use Rattle.block.proofs.Sizes.{size_made}
use Rattle.ply.proofs.Rows.{axis_refuses, vertices_refuse, faces_decide, few_vertices}
use Rattle.ply.proofs.check.Goals as goal

pub check-listed-requires : goal.check-listed-requires
check-listed-requires c =
    let a = c.args in
    (size_made a.nx a.ny a.nz _ (subst (SizeMade a.nx a.ny a.nz) c.in-Made.is c.new-sized.ensures)).1

pub returns-in-Refuses : goal.returns-in-Refuses
returns-in-Refuses c =
    let a = c.args in
    vertices_refuse a.nx a.ny a.nz a.words.now a.offsets.now a.quads.now a.spacing a.room _
    (subst (SizeMade a.nx a.ny a.nz) c.in-Made.is c.new-sized.ensures) _ (sym c.check-listed.ensures ∙ c.in-Refuses.is)

pub check_faces-requires : goal.check_faces-requires
check_faces-requires c =
    let a = c.args in
    few_vertices _ a.words.now a.offsets.now (sym c.check-listed.ensures ∙ c.in_default.is)

pub returns-in-BadAxis : goal.returns-in-BadAxis
returns-in-BadAxis c =
    let a = c.args in
    c.refuse.ensures
    ∙ axis_refuses a.nx a.ny a.nz a.words.now a.offsets.now a.quads.now a.spacing a.room _ (subst (SizeMade a.nx a.ny a.nz) c.in-BadAxis.is c.new-sized.ensures)

pub returns-in_default : goal.returns-in_default
returns-in_default c =
    let a = c.args in
    faces_decide a.nx a.ny a.nz a.words.now a.offsets.now a.quads.now a.spacing a.room _
    (subst (SizeMade a.nx a.ny a.nz) c.in-Made.is c.new-sized.ensures) (sym c.check-listed.ensures ∙ c.in_default.is) _ c.check_faces.ensures
