-- `new_signs` meets its contract: the signs of the rows before j stand there.
-- Assumes nothing.
use Rattle.plane_layers.specs.Memory.{SignedTo, item_at}
use Rattle.plane_layers.proofs.new_signs.Given as goal

abbrev pub invariant-loop-j : goal.invariant-loop-j
invariant-loop-j l = SignedTo l.nx (item_at l.plane) l.cut l.j l.signs
