-- `with_layer` meets its contract. The loop's invariant: the rows before j are counted. The measure is what is left of the rows.
-- Assumes nothing.
use Prim.Native.Nat.{◌-◌, ◌≤◌}
use Rattle.cube_rule.specs.Decider.{loops_of}
use Rattle.mesh.specs.Source.{block_of}
use Rattle.mesh.specs.Steps.{Counting}
use Rattle.mesh.proofs.with_layer.Given as goal

abbrev pub invariant-loop-j : goal.invariant-loop-j
invariant-loop-j l = (l.j ≤ l.size.ny - 1) × Counting loops_of l.size (block_of l.source l.samples l.readings) l.cut l.j l.k l.w

abbrev pub decreases-loop-j : goal.decreases-loop-j
decreases-loop-j l = l.size.ny - 1 - l.j
