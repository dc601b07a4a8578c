-- `counts_in` meets its contract: row 2 refuses, or each threshold is told what the marks of the whole block say.
-- Assumes nothing.
use Prim.Native.Nat.{ℕ}
use mathlib.Core.Path.{◌≡◌, ap, sym, ◌∙◌}
use mathlib.Core.List.{List}
use lib.ListN.{length}
use Rattle.laws.specs.Below.{over}
use Rattle.block.specs.declared.Checked.TheVariants.{Passes}
use Rattle.block.specs.Rows.{count_row}
use Rattle.thresholds.proofs.Marks.{each_few, answers_are}
use Rattle.thresholds.proofs.Verdicts.{refused_by, answered_by}
use Rattle.thresholds.proofs.counts_in.Goals as goal

pub returns-in-Refuses : goal.returns-in-Refuses
returns-in-Refuses c = refused_by _ _ _ _ (sym c.check_count-checked.ensures ∙ c.in-Refuses.is)

pub put_each-requires : goal.put_each-requires
put_each-requires c = (c.requires.1, c.requires.2, each_few c.args.size c.args.samples.now c.args.thresholds.now c.args.noise c.tally_each-marks.result c.tally_each-marks.ensures c.requires.0)

pub returns : goal.returns
returns c =
    let passed : count_row c.args.size (length c.args.samples.now) ≡ Passes = sym c.check_count-checked.ensures ∙ c.in_default.is in
    answered_by _ _ c.args.answers.now _ passed
    (c.put_each.ensures
    ∙ ap (λ (xs : List ℕ). over xs c.args.answers.now) (answers_are c.args.size c.args.samples.now c.args.thresholds.now c.args.noise c.tally_each-marks.result c.tally_each-marks.ensures))
