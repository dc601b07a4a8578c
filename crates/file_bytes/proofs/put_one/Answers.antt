-- `put_one` meets its contract.
-- Assumes nothing.
use Rattle.file_bytes.proofs.Writing.{one_put}
use borrow.Author.Rules.{rules}
use Rattle.file_bytes.proofs.put_one.Goals as goal

pub returns-clause-put : goal.returns-clause-put
returns-clause-put c = one_put _ _ _ (search rules)
