-- `with_layer` meets its contract. The loop's invariant: the rows before j are counted. The measure is what is left of the rows.
-- Assumes nothing.
use Prim.Native.Nat.{◌-◌}
use native.Mathlib.Omega.{arith}
use Rattle.mesh.specs.Source.{block_of}
use Rattle.mesh.proofs.Tallies.{marked_layer}
use Rattle.mesh.proofs.with_layer.Goals as goal

pub returns : goal.returns
returns c =
    let h = c.loop-j in
    let a = c.args in
    marked_layer a.size (block_of a.source a.samples.now a.readings.now) a.cut 0 0 h.j a.k (omega (arith, c.loop-j-test.false, c.ny-rows.ensures, h.invariant.0, c.requires.0.limits.y_low)) h.invariant.1
