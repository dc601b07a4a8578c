-- `old_signs` meets its contract: the signs of the rows before j stand there.
-- Assumes nothing.
use Rattle.plane_layers.specs.Memory.{SignedTo, sample_in}
use Rattle.plane_layers.proofs.old_signs.Given as goal

abbrev pub invariant-loop-j : goal.invariant-loop-j
invariant-loop-j l = SignedTo l.nx (sample_in l.work) l.cut l.j l.signs
