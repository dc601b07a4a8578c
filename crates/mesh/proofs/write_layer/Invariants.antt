-- `write_layer` meets its contract. The loop's invariant: the rows before j are written, and the tables of the row before are there. The measure
-- is what is left of the rows.
-- Assumes nothing.
use Prim.Native.Nat.{◌-◌, ◌≤◌}
use Rattle.mesh.specs.Source.{block_of}
use Rattle.mesh.proofs.LayerSteps.{RowState}
use Rattle.mesh.proofs.write_layer.Given as goal

abbrev pub invariant-loop-j : goal.invariant-loop-j
invariant-loop-j l = (l.j ≤ l.size.ny - 1) × RowState l.size (block_of l.source l.samples l.readings) l.cut l.j l.k l.initial.w l.initial.words l.initial.offsets l.initial.quads l.passed l.under l.tab l.w l.words l.offsets l.quads

abbrev pub decreases-loop-j : goal.decreases-loop-j
decreases-loop-j l = l.size.ny - 1 - l.j
