-- `start_of` meets its contract: row 3 refuses, or row 15, or the run begins.
-- Assumes nothing.
use Rattle.std.proofs.Common.{sym, ◌∙◌}
use Rattle.by_planes.proofs.Rows.{work_is, start_threshold, start_short, start_begins}
use Rattle.by_planes.proofs.start_of.Goals as goal

pub returns-in-Refuses : goal.returns-in-Refuses
returns-in-Refuses c = start_threshold c.args.stream c.args.room _ (sym c.check_threshold-threshold.ensures ∙ c.in-Refuses.is)

pub returns-in-Refuses-checked : goal.returns-in-Refuses-checked
returns-in-Refuses-checked c = start_short c.args.stream c.args.room (sym c.check_threshold-threshold.ensures ∙ c.in_default.is) _ (sym (work_is c.requires c.nx-nx.ensures c.ny-ny.ensures _) ∙ sym c.check_room-checked.ensures ∙ c.in-Refuses-checked.is)

pub returns : goal.returns
returns c = start_begins c.args.stream c.args.room (sym c.check_threshold-threshold.ensures ∙ c.in_default.is) (sym (work_is c.requires c.nx-nx.ensures c.ny-ny.ensures _) ∙ sym c.check_room-checked.ensures ∙ c.in_default-checked.is)
