-- `clear_heads` meets its contract: the words of the vertices are written, and no other.
-- Assumes nothing.
use native.Mathlib.Omega.{arith}
use Rattle.closed_with.proofs.Chains.{chained_none}
use Rattle.closed_with.proofs.clear_heads.Goals as goal

pub returns : goal.returns
returns c = chained_none _ _ (omega arith) (c.fill.ensures.after (λ v same. same))
