-- `put_eight` meets its contract: the lower four bytes, then the upper four.
-- Assumes nothing.
use Rattle.file_bytes.proofs.Writing.{eight_put}
use Rattle.file_bytes.proofs.put_eight.Goals as goal

pub returns-clause-put : goal.returns-clause-put
returns-clause-put c = eight_put _ c.put_four-middle.ensures.put c.put_four.ensures.put
