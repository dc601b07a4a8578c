-- `window` meets its contract.
-- Assumes nothing.
use Rattle.reading_rows.proofs.Windows.{window_filled}
use Rattle.reading_rows.proofs.window.Goals as goal

pub returns : goal.returns
returns c = window_filled c.args.part.now _ _ c.fill.ensures c.fill.auto.window
