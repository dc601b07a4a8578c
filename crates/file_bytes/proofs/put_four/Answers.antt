-- `put_four` meets its contract: four bytes one behind the other.
-- Assumes nothing.
use native.Mathlib.Omega.{arith}
use Rattle.file_bytes.proofs.Writing.{four_put}
use borrow.Author.Rules.{rules}
use Rattle.file_bytes.proofs.put_four.Goals as goal

pub returns-clause-put : goal.returns-clause-put
returns-clause-put c = four_put _ _ _ _ _ _ _ (search rules) (omega arith) (omega arith) (omega arith) (omega arith)
