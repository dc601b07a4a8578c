-- `row_step` meets its contract: a row without an active cube writes nothing, and of any other the windows are made and written by.
-- Assumes nothing.
use mathlib.Core.Path.{sym, ◌∙◌}
use Rattle.cube_rule.specs.Decider.{joined}
use Rattle.cube_rule.proofs.Laws.{cube_laws}
use Rattle.layers.proofs.Quiets.{quiet_stepped}
use Rattle.reading_rows.proofs.row_step.Goals as goal

pub returns-then-quiet : goal.returns-then-quiet
returns-then-quiet c =
    quiet_stepped (cube_laws joined) c.args.row c.requires.2 (sym c.if-quiet.true ∙ c.quiet.ensures) c.args.below.now c.args.m c.args.words.now c.args.offsets.now
    c.args.quads.now c.args.here.now c.requires.5
