-- `word_place` meets its contract: a cube with few crossed edges has one loop at most.
-- Assumes nothing.
use Rattle.foundry_vertices.proofs.Places.{found_few}
use Rattle.foundry_vertices.proofs.word_place.Goals as goal

pub returns-then-crossed-le-SINGLE : goal.returns-then-crossed-le-SINGLE
returns-then-crossed-le-SINGLE c =
    let a = c.args in
    rw c.then_some.ensures
    (found_few a.cut a.corners a.w c.mark-mark.result c.crossed_in-crossed.result c.mark-mark.ensures.value c.crossed_in-crossed.ensures c.if-w-mark.false c.if-crossed-le-SINGLE.true)
