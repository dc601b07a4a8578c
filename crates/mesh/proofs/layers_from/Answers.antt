-- `layers_from` meets its contract. The loop's invariant: a has the signs of plane k, and the layers before k are counted. The measure is
-- what is left of the layers. Assumes nothing.
use Prim.Native.Nat.{ℕ, ◌+◌, ◌-◌}
use mathlib.Core.Path.{refl}
use native.Mathlib.Omega.{arith}
use mathlib.Core.List.{List}
use Rattle.signs.specs.Signs.{Plane}
use Rattle.signs.proofs.Planes.{plane_of_lem}
use Rattle.mesh.specs.Source.{block_of}
use Rattle.mesh.proofs.layers_from.Goals as goal

pub loop-k-init : goal.loop-k-init
loop-k-init c =
    let block : List ℕ = block_of c.args.source c.args.samples.now c.args.readings.now in (
      c.requires.2,
      plane_of_lem c.args.size block c.args.cut c.args.from _ _ c.requires.0.limits refl c.signs_of.ensures,
      refl,
      c.requires.4,
    )

pub with_layer-w-requires : goal.with_layer-w-requires
with_layer-w-requires c =
    let block : List ℕ = block_of c.args.source c.args.samples.now c.args.readings.now in
    let upper_of : Plane c.args.size (block) c.args.cut (c.loop-k.k + 1) c.signs_of-in-loop-k.new.plane = plane_of_lem c.args.size (block) c.args.cut (c.loop-k.k + 1) _ _ c.requires.0.limits c.loop-k.invariant.2 c.signs_of-in-loop-k.ensures in (
      record {
        limits = c.requires.0.limits;
        samples = c.requires.0.samples;
        lower = c.loop-k.invariant.1;
        upper = upper_of;
        inside = omega (arith, c.requires.3, c.loop-k-test.true);
      },
      c.loop-k.invariant.3,
      c.requires.1,
    )

pub loop-k-preserved : goal.loop-k-preserved
loop-k-preserved c =
    let block : List ℕ = block_of c.args.source c.args.samples.now c.args.readings.now in
    let upper_of : Plane c.args.size (block) c.args.cut (c.loop-k.k + 1) c.signs_of-in-loop-k.new.plane = plane_of_lem c.args.size (block) c.args.cut (c.loop-k.k + 1) _ _ c.requires.0.limits c.loop-k.invariant.2 c.signs_of-in-loop-k.ensures in
    let u = upper_of in
    (omega arith, u, u.room, c.with_layer-w.ensures)
