-- `each_with_layers` meets its contract. The loop's invariant: the thresholds before i are through the run of layers, and the others stand before it. The measure is
-- what is left of the thresholds. Assumes nothing.
use Prim.Native.Nat.{◌-◌, ◌<◌}
use native.Mathlib.Omega.{arith}
use lib.ListN.{length, length-set}
use Rattle.thresholds.proofs.Marks.{counted_next, counted_rest}
use Rattle.thresholds.proofs.each_with_layers.Goals as goal

pub loop-i-preserved : goal.loop-i-preserved
loop-i-preserved c =
    let room : c.loop-i.i < length c.loop-i.w = omega (arith, c.loop-i.invariant.1, c.requires.1, c.loop-i-test.true) in
    let n = c.args.size in
    let s = c.args.samples.now in
    let ts = c.args.thresholds.now in (
      omega arith,
      simp length-set c.loop-i.invariant.1,
      counted_next n s ts c.args.noise c.loop-i.w c.loop-i.i c.with_layers.result room c.args.to c.loop-i.invariant.2 c.with_layers.ensures,
      counted_rest n s ts c.args.noise c.loop-i.w c.loop-i.i c.with_layers.result room (length ts) c.args.from c.loop-i.invariant.3,
    )
