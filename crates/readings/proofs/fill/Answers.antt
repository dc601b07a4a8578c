-- `fill` meets its contract. The loop's invariant: the grey values of the first i readings stand at the front. The measure is what is left of the part.
-- Assumes nothing.
use mathlib.Core.Path.{◌≡◌, refl, ◌∙◌}
use native.Mathlib.Omega.{arith}
use lib.ListN.{length, length-set}
use Rattle.laws.proofs.Over.{over_none, over_put}
use Rattle.readings.proofs.Readings.{greys_each}
use Rattle.readings.proofs.fill.Goals as goal

pub loop-i-init : goal.loop-i-init
loop-i-init c = (omega arith, refl, over_none _ _)

pub loop-i-preserved : goal.loop-i-preserved
loop-i-preserved c =
    let h = c.loop-i in
    let t = c.loop-i-test.true in
    (omega arith, length-set h.window h.i c.grey.result ∙ h.invariant.1, over_put _ c.args.window.now h.window h.i c.grey.result h.invariant.2 c.grey.ensures (omega (arith, c.requires.1)))

pub returns : goal.returns
returns c =
    let h = c.loop-i in
    let e : h.i ≡ length c.args.part.now = omega (arith, c.loop-i-test.false, h.invariant.0) in
    h.invariant.2 ∙ rw (e, greys_each c.args.part.now)
