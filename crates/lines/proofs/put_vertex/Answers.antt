-- `put_vertex` meets its contract: six fields and the end of the line.
-- Assumes nothing.
use Rattle.lines.proofs.Texts.{vertex_put}
use Rattle.lines.proofs.put_vertex.Goals as goal

pub returns-clause-put : goal.returns-clause-put
returns-clause-put c =
    let p = vertex_put _ _ _ _ _ c.put_hex-a.ensures.put c.put_hex-b.ensures.put c.put_hex-c.ensures.put c.put_hex-d.ensures.put c.put_hex-e.ensures.put c.put_hex-f.ensures.put c.put_end.ensures.put in p
