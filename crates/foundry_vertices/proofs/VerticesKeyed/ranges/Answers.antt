-- `ranges` meets its contract.
-- Assumes nothing.
use Rattle.std.proofs.Common.{arith}
use Rattle.laws.proofs.Tests.{and_both}
use Rattle.foundry_vertices.proofs.Ranges.{keys_below}
use Rattle.foundry_vertices.proofs.VerticesKeyed.ranges.Goals as goal

pub returns-clause-keys_below : goal.returns-clause-keys_below
returns-clause-keys_below c =
    let s = c.args.self.now in
    λ v l e. keys_below s.size s.samples.now s.cut s.words.now _ (omega (arith, c.cubes.ensures, c.div_ceil.ensures)) v (and_both _ _ e).0
