-- `cube::links_of` meets its contract, face by face.
-- Assumes nothing.
use Rattle.std.proofs.Common.{◌≡◌, refl, ap, ◌∙◌, arith}
use Rattle.cube.specs.declared.TheConstants.{FACES}
use Rattle.cube.proofs.Faces.{links_to, links_more}
use Rattle.cube.proofs.links_of.Goals as goal

pub loop-f-init : goal.loop-f-init
unfolding links_to
loop-f-init c = refl

pub loop-f-preserved : goal.loop-f-preserved
loop-f-preserved c = links_more _ _ _ c.requires FACES refl _ c.loop-f-test.true c.loop-f.invariant _ c.face_links-l.ensures

pub returns : goal.returns
unfolding links_to
returns c = let all : c.loop-f.f ≡ 6 = omega arith in c.loop-f.invariant ∙ ap (links_to c.args.cut c.args.corners) all
