-- `row_counts` meets its contract: a row without an active cube moves no mark, a row of plain cubes is counted by its signs, and of any other the windows are
-- made. Assumes nothing.
use Prim.Native.Nat.{ℕ, ◌-◌, ◌≤◌}
use mathlib.Core.Path.{◌≡◌, refl, sym, ◌∙◌, subst}
use lib.ListN.{length, take, drop}
use Rattle.cube_rule.specs.Decider.{joined, loops_of}
use Rattle.cube_rule.proofs.Laws.{cube_laws}
use Rattle.layers.specs.Steps.{MarksBy, RowCounted}
use Rattle.layers.proofs.Quiets.{quiet_counted}
use Rattle.readings.specs.Reading.{greys_of}
use Rattle.rows.specs.Rows.{row_masks}
use Rattle.reading_rows.proofs.Windows.{low_long, high_long, plain_few, window_lent, windows_as}
use Rattle.reading_rows.proofs.row_counts.Goals as goal

pub returns-then-quiet : goal.returns-then-quiet
returns-then-quiet c = quiet_counted (cube_laws joined) c.args.row c.requires.2 (sym c.if-quiet.true ∙ c.quiet.ensures) c.args.m

pub with_quads-requires : goal.with_quads-requires
with_quads-requires c =
    let plain-said : let v = c.in-Plain.v in (v ≡ length (row_masks loops_of (greys_of c.args.low.now) (greys_of c.args.high.now) c.args.row.cut c.args.row.nx)) × (v ≤ 1020) = plain_few c.args.low.now c.args.high.now c.requires.2 c.in-Plain.v (sym c.plain_row-loops.ensures ∙ c.in-Plain.is) in
    (c.requires.3, c.requires.4, plain-said.1)

pub returns-in-Plain : goal.returns-in-Plain
returns-in-Plain c =
    let plain-said : let v = c.in-Plain.v in (v ≡ length (row_masks loops_of (greys_of c.args.low.now) (greys_of c.args.high.now) c.args.row.cut c.args.row.nx)) × (v ≤ 1020) = plain_few c.args.low.now c.args.high.now c.requires.2 c.in-Plain.v (sym c.plain_row-loops.ensures ∙ c.in-Plain.is) in
    subst (λ (v : ℕ). MarksBy v c.args.row c.args.a.now c.args.b.now c.args.m c.with_quads.result) plain-said.0 c.with_quads.ensures

pub returns : goal.returns
returns c =
    let low_is : take (length c.args.low.now - 0) (drop 0 c.window-lo.result) ≡ greys_of c.args.low.now = window_lent _ c.window-lo.ensures refl in
    let high_is : take (length c.args.low.now - 0) (drop 0 c.window-hi.result) ≡ greys_of c.args.high.now = window_lent _ c.window-hi.ensures (low_long c.args.low.now c.args.high.now c.requires.2 ∙ sym (high_long c.args.low.now c.args.high.now c.requires.2)) in
    windows_as (λ lo hi. RowCounted loops_of lo hi c.args.row c.args.a.now c.args.b.now c.args.m c.active_counts.result) (sym low_is) (sym high_is) c.active_counts.ensures
