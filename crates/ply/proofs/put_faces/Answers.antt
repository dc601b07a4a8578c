-- `put_faces` meets its contract: the faces before the one in hand are put.
-- Assumes nothing.
use Prim.Native.Nat.{◌-◌}
use mathlib.Core.Path.{refl, ◌∙◌}
use native.Mathlib.Omega.{arith}
use Rattle.laws.proofs.Puts.{puts_none}
use Rattle.ply.proofs.Files.{face_more}
use borrow.Author.Rules.{rules}
use Rattle.ply.proofs.put_faces.Goals as goal

pub loop-q-init : goal.loop-q-init
loop-q-init c = (search rules, search rules, puts_none _ _ _, refl)

pub loop-q-preserved : goal.loop-q-preserved
loop-q-preserved c =
    let a = c.args in
    let i = c.loop-q.invariant in
    let p = c.put_face-next.ensures in
    (search rules, omega (arith, i.1, p.value), face_more a.quads.now _ i.2 p.put, c.put_face-next.auto.out ∙ i.3)
