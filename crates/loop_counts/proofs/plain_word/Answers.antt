-- `plain_word` meets its contract: a word without a cube is plain, and any other is compared.
-- Assumes nothing.
use Rattle.loop_counts.proofs.PlainRows.{none_plain}
use Rattle.loop_counts.proofs.plain_word.Goals as goal

pub returns-then-act-eq0 : goal.returns-then-act-eq0
returns-then-act-eq0 c = none_plain c.args.e c.args.act c.if-act-eq0.true
