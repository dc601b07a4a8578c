-- `put_mesh` meets its contract: the head line, the vertices, the quads.
-- Assumes nothing.
use Rattle.lines.proofs.Texts.{mesh_put}
use Rattle.lines.proofs.put_mesh.Goals as goal

pub returns : goal.returns
returns c =
    let a = c.args in
    mesh_put _ _ _ a.words.now a.offsets.now a.quads.now c.closed_field-closed.ensures c.put_head-a.ensures.put c.put_vertices-b.ensures.put c.put_quads.ensures.put
