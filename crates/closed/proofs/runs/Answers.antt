-- `runs` meets its contract: by cases on its two tests.
-- Assumes nothing.
use Rattle.closed.proofs.Search.{runs_both, runs_other}
use Rattle.closed.proofs.runs.Goals as goal

pub returns-then-d-b-clause-value : goal.returns-then-d-b-clause-value
returns-then-d-b-clause-value c = runs_both _ _ _ _ c.if-c-a.true c.if-d-b.true

pub returns-else-d-b-clause-value : goal.returns-else-d-b-clause-value
returns-else-d-b-clause-value c = runs_other c.args.c c.args.d c.args.a c.args.b (λ p q. c.if-d-b.false q)
