-- `write_layer` meets its contract. The loop's invariant: the rows before j are written, and the tables of the row before are there. The measure
-- is what is left of the rows.
-- Assumes nothing.
use Prim.Native.Nat.{◌+◌, ◌-◌, ◌<◌}
use mathlib.Core.Path.{refl}
use Rattle.mesh.specs.Source.{block_of}
use Rattle.mesh.proofs.LayerSteps.{state_start, below_ready, tables_ready, row_underway, state_more, state_words, state_offsets, state_quads}
use Rattle.mesh.proofs.Writings.{writing_layer}
use native.Mathlib.Omega.{arith}
use Rattle.mesh.proofs.write_layer.Goals as goal

pub loop-j-init : goal.loop-j-init
loop-j-init c = (omega arith, state_start _ _ _ _ _ _ _ _ _ _ refl refl)

pub note_below-passed-requires : goal.note_below-passed-requires
note_below-passed-requires c =
    let in-layer : c.loop-j.j + 1 < c.args.size.ny = omega (arith, c.loop-j-test.true, c.ny-rows.ensures) in
    below_ready c.requires.0 c.requires.1 c.requires.3 in-layer c.loop-j.invariant.1 _ c.requires.2

pub step_row-w-requires : goal.step_row-w-requires
step_row-w-requires c =
    let in-layer : c.loop-j.j + 1 < c.args.size.ny = omega (arith, c.loop-j-test.true, c.ny-rows.ensures) in
    let st = c.loop-j.invariant.1 in
    let l = c.note_below-passed.ensures in (
      c.requires.0,
      c.requires.1,
      tables_ready c.requires.0 c.requires.1 c.requires.3 in-layer st l,
      row_underway c.requires.0 c.requires.1 c.requires.3 in-layer st l,
      c.requires.4,
    )

pub loop-j-preserved : goal.loop-j-preserved
loop-j-preserved c =
    let in-layer : c.loop-j.j + 1 < c.args.size.ny = omega (arith, c.loop-j-test.true, c.ny-rows.ensures) in (
      omega (arith, in-layer),
      state_more c.requires.0 c.requires.1 c.requires.3 in-layer c.loop-j.invariant.1 c.note_below-passed.ensures c.step_row-w.ensures,
    )

pub returns : goal.returns
returns c =
    let h = c.loop-j in
    λ w₀ o₀ q₀ room x.
    writing_layer c.args.size (block_of c.args.source c.args.samples.now c.args.readings.now) c.args.cut h.j c.args.k
    (omega (arith, c.loop-j-test.false, c.ny-rows.ensures, h.invariant.0, c.requires.0.limits.y_low)) (h.invariant.1.writing w₀ o₀ q₀ room x)

pub shape_of-words : goal.shape_of-words
shape_of-words c = state_words c.requires.3 c.loop-j.invariant.1

pub shape_of-quads : goal.shape_of-quads
shape_of-quads c = state_quads c.requires.3 c.loop-j.invariant.1

pub shape_of-offsets : goal.shape_of-offsets
shape_of-offsets c = state_offsets c.requires.3 c.loop-j.invariant.1
