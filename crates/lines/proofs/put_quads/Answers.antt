-- `put_quads` meets its contract: the lines of the quads before the one in hand are put.
-- Assumes nothing.
use Prim.Native.Nat.{◌-◌}
use mathlib.Core.Path.{refl, ◌∙◌}
use native.Mathlib.Omega.{arith}
use borrow.Author.Rules.{rules}
use Rattle.laws.proofs.Puts.{puts_none}
use Rattle.lines.proofs.Texts.{quad_more}
use Rattle.lines.proofs.put_quads.Goals as goal

pub loop-q-init : goal.loop-q-init
loop-q-init c = (search rules, search rules, puts_none _ _ _, refl)

pub loop-q-preserved : goal.loop-q-preserved
loop-q-preserved c =
    let i = c.loop-q.invariant in
    let p = c.put_quad-next.ensures in (
      search rules,
      omega (arith, i.1, p.value),
      quad_more c.args.quads.now _ i.2 p.put,
      c.put_quad-next.auto.out ∙ i.3,
    )
