-- `Offset::with_edge` meets its contract. The edge is crossed and no row refuses it, so the edge question answers its fraction:
-- the return of the other cases is never reached.
-- Assumes nothing.
use mathlib.Core.Path.{◌≡◌, ◌∙◌, ap}
use lib.Ieee.{Float}
use Rattle.place.specs.declared.Crossing.TheVariants.{At}
use Rattle.place.specs.Place.{fraction_at}
use Rattle.place.specs.Steps.{plus_edge, plus_crossing}
use Rattle.place.proofs.Asked.{edge_at}
use Rattle.place.proofs.Offset.with_edge.Goals as goal

-- so the other cases are never met
pub returns-in_default : goal.returns-in_default
returns-in_default c =
    let answer : let a = c.args in c.edge.result ≡ At (fraction_at a.cut a.corners a.e) = let a = c.args in edge_at a.cut a.corners a.e c.requires.0 _ _ c.lower_corner-l.ensures.value c.upper_corner-u.ensures.value c.edge.result c.edge.ensures in
    absurd (c.in_default.not-At _ answer)

pub returns : goal.returns
unfolding plus_edge
returns c =
    let answer : let a = c.args in c.edge.result ≡ At (fraction_at a.cut a.corners a.e) = let a = c.args in edge_at a.cut a.corners a.e c.requires.0 _ _ c.lower_corner-l.ensures.value c.upper_corner-u.ensures.value c.edge.result c.edge.ensures in
    let a = c.args in
    let is : c.in-At.f ≡ fraction_at a.cut a.corners a.e = cc (answer, c.in-At.is) in
    c.plus.ensures ∙ ap (λ (f : Float). plus_crossing a.e f a.self) is
