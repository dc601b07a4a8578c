-- `cube::loops_of` meets its contract. The loop's invariant: the first `n` loops are found, and `left` has the edges of the others.
-- Assumes nothing.
use Rattle.cube.proofs.Filling.{Found}
use Rattle.cube.proofs.loops_of.Given as goal

abbrev pub invariant-loop-n : goal.invariant-loop-n
invariant-loop-n l = Found l.links l.crossed l.left l.masks l.n
