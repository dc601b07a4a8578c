-- `write_rows` meets its contract: the rows before j are written, and their numbers are remembered.
-- Assumes nothing.
use Rattle.cube_rule.specs.Decider.{loops_of}
use Rattle.plane_layers.specs.Layer.{RowsState}
use Rattle.plane_layers.proofs.write_rows.Given as goal

abbrev pub invariant-loop-j : goal.invariant-loop-j
invariant-loop-j l =
    let i = l.initial in
    RowsState loops_of l.layer i.m.y i.m.z l.plane i.work i.words i.offsets i.quads l.under l.tab l.work l.words l.offsets l.quads l.m l.j
