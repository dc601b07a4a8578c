-- `put_coordinate` meets its contract.
-- Assumes nothing.
use Rattle.ply.specs.File.{millimetres, double}
use Rattle.ply.proofs.put_coordinate.Goals as goal

pub float_to_bits-cube : goal.float_to_bits-cube
unfolding millimetres
float_to_bits-cube c = c.requires.number

pub returns-clause-put : goal.returns-clause-put
unfolding millimetres double
returns-clause-put c = c.put_eight.ensures.put
