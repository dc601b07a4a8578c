-- `block_edges` meets its contract. The loop's invariant: a has the signs of plane k, and m is the tally up to that plane. The measure is what is left of
-- the planes. Assumes nothing.
use Prim.Native.Nat.{◌+◌, ◌-◌}
use mathlib.Core.Path.{refl, ◌∙◌}
use native.Mathlib.Omega.{arith}
use Rattle.signs.specs.Signs.{Plane}
use Rattle.signs.proofs.Planes.{plane_of_lem}
use Rattle.room.proofs.Tallies.{tally_first, tally_next, tally_all}
use Rattle.room.proofs.block_edges.Goals as goal

pub loop-k-init : goal.loop-k-init
loop-k-init c =
    let plane = plane_of_lem c.args.size c.args.samples.now c.args.cut 0 _ _ c.requires.limits refl c.plane_signs.ensures in (
      omega (arith, c.nz-nz.ensures, c.requires.limits.z_low),
      plane,
      refl,
      omega (arith, c.plane_edges-m.ensures.upper_bound),
      tally_first c.args.size c.args.samples.now c.args.cut c.requires.limits _ _ _ c.nx-nx.ensures c.ny-ny.ensures plane c.plane_edges-m.ensures.value,
    )

pub loop-k-preserved : goal.loop-k-preserved
loop-k-preserved c =
    let upper_of : Plane c.args.size c.args.samples.now c.args.cut (c.loop-k.k + 1) c.plane_signs-in-loop-k.new.plane = plane_of_lem c.args.size c.args.samples.now c.args.cut (c.loop-k.k + 1) _ _ c.requires.limits c.loop-k.invariant.2 c.plane_signs-in-loop-k.ensures in (
      omega arith,
      upper_of,
      upper_of.room,
      omega (arith, c.loop-k.invariant.3, c.plane_edges-m-in-loop-k.ensures.upper_bound),
      tally_next c.args.size c.args.samples.now c.args.cut c.requires.limits c.loop-k.k c.loop-k.m _ _ _ c.nx-nx.ensures c.ny-ny.ensures
          (omega (arith, c.nz-nz.ensures, c.loop-k-test.true)) c.loop-k.invariant.1 upper_of c.loop-k.invariant.4 c.plane_edges-m-in-loop-k.ensures.value,
    )

pub returns : goal.returns
returns c = c.loop-k.invariant.4 ∙ tally_all c.args.size c.args.samples.now c.args.cut c.requires.limits c.loop-k.k (omega (arith, c.nz-nz.ensures, c.loop-k.invariant.0, c.loop-k-test.false))
