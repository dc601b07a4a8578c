-- `first_fault` meets its contract. The loop's invariant: none of the first i readings is at fault. The measure is what is left of the readings.
-- Assumes nothing.
use mathlib.Core.Path.{sym, ◌∙◌}
use native.Mathlib.Omega.{arith}
use Rattle.readings.proofs.Rows.{row_refuses, row_passes, sound_all}
use Rattle.readings.proofs.first_fault.Goals as goal

pub returns-in-Refuses : goal.returns-in-Refuses
returns-in-Refuses c =
    let l = c.loop-i in
    let xs = c.args.readings.now in
    sym (row_refuses xs l.i _ l.invariant.before (omega (arith, c.loop-i-test.true)) (sym c.check_reading-found.ensures ∙ c.in-Refuses.is))

pub returns : goal.returns
returns c =
    let l = c.loop-i in let xs = c.args.readings.now in sym (row_passes xs (sound_all xs l.i (omega (arith, c.loop-i-test.false)) l.invariant))
