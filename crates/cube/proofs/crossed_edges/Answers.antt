-- `cube::crossed_edges` meets its contract: what it works out is what the definition has at each of the 256 sign patterns.
-- Assumes nothing.
use Rattle.cube.proofs.Crossed.{worked_is}
use Rattle.cube.proofs.crossed_edges.Goals as goal

pub returns-clause-value : goal.returns-clause-value
returns-clause-value c = let e = worked_is c.args.p c.requires in e
