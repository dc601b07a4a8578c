-- `Offset::with_held` meets its contract: an edge that the mask does not hold leaves the sum as it is, and one that it holds is added.
-- Assumes nothing.
use Rattle.place.proofs.Visit.{sum_asks, sum_skips, sum_adds}
use mathlib.Core.Path.{◌∙◌}
use Rattle.place.proofs.Offset.with_held.Goals as goal

pub returns-then-mask-e-eq0 : goal.returns-then-mask-e-eq0
returns-then-mask-e-eq0 c =
    let a = c.args in sum_skips a.cut a.corners a.mask a.e c.if-mask-e-eq0.true a.self

pub returns : goal.returns
returns c =
    let a = c.args in
    λ is. c.with_edge.ensures ∙ sum_adds a.cut a.corners a.mask a.e c.if-mask-e-eq0.false a.self is

pub with_edge-requires : goal.with_edge-requires
with_edge-requires c =
    let a = c.args in
    (sum_asks a.cut a.corners a.mask a.e c.requires.0 c.requires.2 c.if-mask-e-eq0.false, c.requires.1)
