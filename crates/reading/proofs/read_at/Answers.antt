-- `read_at` meets its contract: a byte before the end, and 256 behind it.
-- Assumes nothing.
use Rattle.reading.proofs.Reading.{get_or-other}
use Rattle.reading.proofs.read_at.Goals as goal

pub returns-then-at-input-clause-value : goal.returns-then-at-input-clause-value
returns-then-at-input-clause-value c = get_or-other c.args.input.now _ _ _ c.if-at-input.true
