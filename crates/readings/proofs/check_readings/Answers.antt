-- `check_readings` meets its contract. The loop's invariant: none of the first p readings is at fault. The measure is what is left of the readings.
-- Assumes nothing.
use Prim.Native.Nat.{◌-◌}
use Rattle.readings.proofs.Rows.{sound_none, row_passes, sound_run, sound_all}
use mathlib.Core.Path.{sym}
use native.Mathlib.Omega.{arith}
use Rattle.readings.proofs.check_readings.Goals as goal

pub loop-p-preserved : goal.loop-p-preserved
loop-p-preserved c =
    let l = c.loop-p in
    sound_run c.args.readings.now l.p c.run_end-end.result c.run_end-end.ensures.lower_bound (omega (arith, c.run_end-end.ensures.upper_bound)) l.invariant (c.some_fault.ensures c.if-some_fault.false)

pub returns : goal.returns
returns c =
    let l = c.loop-p in let xs = c.args.readings.now in sym (row_passes xs (sound_all xs l.p (omega (arith, c.loop-p-test.false)) l.invariant))

pub loop-p-init : goal.loop-p-init
loop-p-init c = sound_none c.args.readings.now
