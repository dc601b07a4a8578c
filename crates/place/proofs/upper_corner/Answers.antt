-- `upper_corner` meets its contract: the digits are the edges' upper corners.
-- Assumes nothing.
use borrow.Author.Rules.{rules}
use Rattle.laws.proofs.Tests.{below}
use Rattle.cube_rule.specs.Edges.{upper}
use Rattle.place.proofs.Corners.{agree}
use Rattle.place.proofs.upper_corner.Goals as goal

pub returns-clause-upper_bound : goal.returns-clause-upper_bound
unfolding below
returns-clause-upper_bound c = (agree _ upper tt c.args.e (search rules)).1
