-- `closed_field` meets its contract: what the closed question answers, as 1 or 0.
-- Assumes nothing.
use Rattle.lines.proofs.Closing.{field_closed, field_open, field_refused}
use Rattle.lines.proofs.closed_field.Goals as goal

pub returns-in-Closed : goal.returns-in-Closed
returns-in-Closed c = field_closed c.args.quads.now c.requires _ c.closed.ensures c.in-Closed.is

pub returns-in-Open : goal.returns-in-Open
returns-in-Open c = field_open c.args.quads.now c.requires _ _ _ c.closed.ensures c.in-Open.is

pub returns-in-Refused : goal.returns-in-Refused
returns-in-Refused c = field_refused c.args.quads.now c.requires _ _ c.closed.ensures c.in-Refused.is
