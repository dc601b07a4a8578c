-- `sorted` meets its contract: the doubtful faces of the cubes in question are decided, and the words follow.
-- Assumes nothing.
use Rattle.std.proofs.Common.{◌≡◌}
use Rattle.joins.specs.Joined.{sorted_of}
use Rattle.joins.proofs.JoinedFaces.{sides_in_lem, sorted_faces}
use Rattle.joins.proofs.sorted.Goals as goal

pub joined_words-joined-requires : goal.joined_words-joined-requires
joined_words-joined-requires c = rw c.within.ensures (sides_in_lem c.requires.0 _ c.ranges.act.fits c.requires.1)

pub returns-clause-sorted : goal.returns-clause-sorted
returns-clause-sorted c =
    let a = c.args in
    let value : c.sorts_of.result ≡ sorted_of a.lo.now a.hi.now a.nx a.s a.cut a.e a.act = cc in
    sorted_faces c.requires.0 value
