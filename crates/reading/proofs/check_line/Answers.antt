-- `check_line` meets its contract: all bytes are right, or the first wrong one says what is wrong.
-- Assumes nothing.
use Rattle.reading.proofs.Faults.{line_passes, line_by}
use Rattle.reading.proofs.check_line.Goals as goal

pub returns-then-column-n : goal.returns-then-column-n
returns-then-column-n c = line_passes c.args.input.now _ _ _ _ c.right_bytes-column.ensures.value c.if-column-n.true

pub returns : goal.returns
returns c = line_by c.args.input.now _ _ _ _ c.right_bytes-column.ensures.value _ _ c.if-column-n.false c.read_at.ensures.value c.fault.ensures
