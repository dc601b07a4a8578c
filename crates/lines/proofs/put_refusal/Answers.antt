-- `put_refusal` meets its contract: three fields and the end of the line.
-- Assumes nothing.
use Rattle.lines.proofs.Texts.{refusal_put}
use Rattle.lines.proofs.put_refusal.Goals as goal

pub returns : goal.returns
returns c = refusal_put _ c.put_hex-a.ensures.put c.put_hex-b.ensures.put c.put_hex-c.ensures.put c.put_end.ensures.put
