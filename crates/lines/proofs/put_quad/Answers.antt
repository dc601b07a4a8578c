-- `put_quad` meets its contract: five fields and the end of the line.
-- Assumes nothing.
use Rattle.lines.proofs.Texts.{quad_put}
use Rattle.lines.proofs.put_quad.Goals as goal

pub returns-clause-put : goal.returns-clause-put
returns-clause-put c =
    let p = quad_put _ _ _ _ c.put_hex-a.ensures.put c.put_hex-b.ensures.put c.put_hex-c.ensures.put c.put_hex-d.ensures.put c.put_hex-e.ensures.put c.put_end.ensures.put in p
