-- `find` meets its contract.
-- Assumes nothing.
use Prim.Native.Nat.{◌<◌}
use borrow.Author.Rules.{rules}
use Rattle.pieces.proofs.Found.{begun, standing, found_all}
use Rattle.pieces.proofs.find.Goals as goal

pub number_all-count-requires : goal.number_all-count-requires
number_all-count-requires c =
    let small : c.args.n < 4294967296 = search rules in
    let quads = c.args.quads.now in
    let long = begun c.args.n small quads c.requires.2 c.requires.3 _ _ c.begin.ensures in
    standing c.args.n small quads c.requires.2 c.requires.3 _ _ _ _ long c.join_all-longest.ensures

pub returns : goal.returns
returns c =
    let small : c.args.n < 4294967296 = search rules in
    let quads = c.args.quads.now in
    let long = begun c.args.n small quads c.requires.2 c.requires.3 _ _ c.begin.ensures in
    let found = found_all c.args.n small quads c.requires.2 c.requires.3 _ _ _ _ long c.join_all-longest.ensures _ _ _ c.number_all-count.ensures in
    record { numbers = found.0; size_after = found.1.0; value = found.1.1 }
