-- `write_row` meets its contract. The loop's invariant: the vertices of the cubes of the words before w are stored and noted.
-- Assumes nothing.
use Rattle.cube_rule.specs.Decider.{loops_of}
use Rattle.vertices.proofs.Rows.{RowPart}
use Rattle.vertices.proofs.write_row.Given as goal

abbrev pub invariant-loop-w : goal.invariant-loop-w
invariant-loop-w l = RowPart loops_of l.lo l.hi l.row.cut l.row.nx l.row.c l.w l.row.first l.v l.initial.words l.words l.initial.offsets l.offsets l.initial.numbers l.numbers l.m
