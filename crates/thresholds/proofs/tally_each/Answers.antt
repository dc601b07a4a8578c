-- `tally_each` meets its contract. The loop's invariant: for each threshold the layers before k are counted. The measure is what is left of the layers.
-- Assumes nothing.
use Prim.Native.Nat.{◌-◌}
use mathlib.Core.Path.{refl}
use native.Mathlib.Omega.{arith}
use Rattle.thresholds.proofs.Marks.{counted_start, counted_all}
use Rattle.thresholds.proofs.tally_each.Goals as goal

pub loop-k-init : goal.loop-k-init
loop-k-init c = (counted_start c.args.size c.args.samples.now c.args.thresholds.now c.args.noise _ 16 c.requires.1, omega arith, refl)

pub returns : goal.returns
returns c =
    counted_all c.args.size c.args.samples.now c.args.thresholds.now c.args.noise c.loop-k.k c.loop-k.w
    (omega (arith, c.nz-last.ensures, c.requires.0.limits.z_low, c.loop-k.invariant.1, c.loop-k-test.false)) c.loop-k.invariant.0
