-- `write_block` meets its contract. The loop's invariant: a has the signs of plane k, and the layers before k are written. The measure is
-- what is left of the layers. Assumes nothing.
use Prim.Native.Nat.{ℕ, ◌+◌, ◌-◌, ◌≤◌, ◌<◌}
use mathlib.Core.Path.{◌≡◌, refl, ap, ◌∙◌}
use mathlib.Core.List.{List}
use Rattle.cube_rule.specs.Decider.{loops_of}
use Rattle.mesh_rule.specs.Layers.{layer_first}
use Rattle.signs.specs.Signs.{Plane}
use Rattle.signs.proofs.Planes.{plane_of_lem}
use Rattle.vertices.specs.Layers.{Ready}
use Rattle.mesh.specs.Source.{block_of}
use Rattle.mesh.proofs.Belows.{first_is}
use Rattle.mesh.proofs.Tallies.{tallied_few}
use Rattle.mesh.proofs.Writings.{writing_start, block_written}
use native.Mathlib.Omega.{arith}
use Rattle.mesh.proofs.write_block.Goals as goal

pub overflow_add-m : goal.overflow_add-m
overflow_add-m c =
    let block : List ℕ = block_of c.args.source c.args.samples.now c.args.readings.now in
    let few : c.args.t.x + c.args.t.y + c.args.t.z ≤ 197418960 = (tallied_few c.args.size (block) c.args.cut c.args.t c.requires.0.limits c.requires.1).1 in
    omega (arith, few)

pub loop-k-init : goal.loop-k-init
loop-k-init c =
    let block : List ℕ = block_of c.args.source c.args.samples.now c.args.readings.now in (
      omega (arith, c.nz-nz.ensures, c.requires.0.limits.z_low),
      plane_of_lem c.args.size block c.args.cut 0 _ _ c.requires.0.limits refl c.signs_of.ensures,
      refl,
      λ h. absurd (omega arith),
      writing_start c.args.size block c.args.cut c.args.t c.args.words.now c.args.offsets.now c.args.quads.now c.requires.1,
    )

pub write_layer-m-requires : goal.write_layer-m-requires
write_layer-m-requires c =
    let block : List ℕ = block_of c.args.source c.args.samples.now c.args.readings.now in
    let upper_of : Plane c.args.size (block) c.args.cut (c.loop-k.k + 1) c.signs_of-in-loop-k.new.plane = plane_of_lem c.args.size (block) c.args.cut (c.loop-k.k + 1) _ _ c.requires.0.limits c.loop-k.invariant.2 c.signs_of-in-loop-k.ensures in
    let inside : c.loop-k.k + 1 < c.args.size.nz = omega (arith, c.nz-nz.ensures, c.loop-k-test.true) in
    let layer_ready : Ready c.args.size (block) c.args.cut c.loop-k.a c.signs_of-in-loop-k.new.plane c.loop-k.k = record { limits = c.requires.0.limits; samples = c.requires.0.count; lower = c.loop-k.invariant.1; upper = upper_of; inside = inside } in (
      layer_ready,
      c.requires.0,
      c.loop-k.invariant.3,
      record { w₀ = c.args.words.now; o₀ = c.args.offsets.now; q₀ = c.args.quads.now; room = c.requires.2; writing = c.loop-k.invariant.4 },
      c.requires.3,
    )

pub loop-k-preserved : goal.loop-k-preserved
loop-k-preserved c =
    let block : List ℕ = block_of c.args.source c.args.samples.now c.args.readings.now in
    let upper_of : Plane c.args.size (block) c.args.cut (c.loop-k.k + 1) c.signs_of-in-loop-k.new.plane = plane_of_lem c.args.size (block) c.args.cut (c.loop-k.k + 1) _ _ c.requires.0.limits c.loop-k.invariant.2 c.signs_of-in-loop-k.ensures in
    let h = c.loop-k in
    let u = upper_of in (
      omega (arith, c.loop-k-test.true),
      u,
      u.room,
      λ t.
          first_is c.args.size block c.args.cut h.k h.invariant.4
          ∙ ap (layer_first loops_of c.args.size block c.args.cut) (back h.k),
      c.write_layer-m.ensures c.args.words.now c.args.offsets.now c.args.quads.now c.requires.2 h.invariant.4,
    )
  where
    back : (k : ℕ) → k ≡ k + 1 - 1
    back k = omega arith

pub returns : goal.returns
returns c =
    let block : List ℕ = block_of c.args.source c.args.samples.now c.args.readings.now in
    block_written c.args.size block c.args.cut c.loop-k.k c.loop-k.invariant.4
    (omega (arith, c.loop-k-test.false, c.loop-k.invariant.0, c.nz-nz.ensures)) c.requires.2
