-- `put_head` meets its contract: four fields and the end of the line.
-- Assumes nothing.
use Rattle.lines.proofs.Texts.{head_put}
use Rattle.lines.proofs.put_head.Goals as goal

pub returns-clause-put : goal.returns-clause-put
returns-clause-put c =
    let p = head_put _ _ _ c.put_hex-a.ensures.put c.put_hex-b.ensures.put c.put_hex-c.ensures.put c.put_hex-d.ensures.put c.put_end.ensures.put in p
