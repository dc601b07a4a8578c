-- `some_fault` meets its contract. The loop's invariant: if no fault was seen, none of the first i readings is at fault. The measure is what is left of the part.
-- Assumes nothing.
use Prim.Native.Nat.{◌<◌}
use mathlib.Core.Path.{sym, ◌∙◌}
use native.Mathlib.Omega.{arith}
use lib.ListN.{length}
use Rattle.laws.proofs.Pack.{or_none}
use Rattle.readings.proofs.Rows.{bit_none, sound_more}
use Rattle.readings.proofs.some_fault.Goals as goal

pub loop-i-preserved : goal.loop-i-preserved
loop-i-preserved c =
    let xs = c.args.part.now in
    let l = c.loop-i in
    let h : l.i < length xs = omega (arith, c.loop-i-test.true) in (
      omega arith,
      λ e. let z = or_none l.seen c.fault-seen.result e in sound_more xs l.i h (l.invariant.1 z.0) (bit_none _ (sym c.fault-seen.ensures.value ∙ z.1)),
    )
