-- `write_along` meets its contract: nothing where no inner edges start, else the row's quads.
-- Assumes nothing.
use Rattle.layers.proofs.Steps.{step_none, put_nothing}
use Rattle.layers.proofs.write_along.Goals as goal

pub returns-then-not-has_quads : goal.returns-then-not-has_quads
returns-then-not-has_quads c =
    let a = c.args in
    let p = a.piece in
    put_nothing _ _
    (step_none p.along a.a.now a.b.now p.nx p.j p.lower a.n0.now a.n1.now a.n2.now a.n3.now c.has_quads.ensures c.if-not-has_quads.true)
