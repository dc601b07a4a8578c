-- `put_vertex` meets its contract: three coordinates.
-- Assumes nothing.
use Rattle.ply.proofs.Files.{vertex_put}
use Rattle.ply.proofs.put_vertex.Goals as goal

pub returns-clause-put : goal.returns-clause-put
returns-clause-put c =
    let p = vertex_put _ _ _ c.put_coordinate-a.ensures.put c.put_coordinate-b.ensures.put c.put_coordinate.ensures.put in p
