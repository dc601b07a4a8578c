-- `row_counts` meets its contract: a row without an active cube moves no mark.
-- Assumes nothing.
use Rattle.std.proofs.Common.{sym, ◌∙◌}
use Rattle.cube_rule.specs.Decider.{joined}
use Rattle.cube_rule.proofs.Laws.{cube_laws}
use Rattle.layers.proofs.Quiets.{quiet_counted}
use Rattle.layers.proofs.row_counts.Goals as goal

pub returns-then-quiet : goal.returns-then-quiet
returns-then-quiet c = quiet_counted (cube_laws joined) c.args.row c.requires.0 (sym c.if-quiet.true ∙ c.quiet.ensures) c.args.m
