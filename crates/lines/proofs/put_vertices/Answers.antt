-- `put_vertices` meets its contract: the lines of the vertices before the one in hand are put.
-- Assumes nothing.
use Prim.Native.Nat.{◌-◌}
use mathlib.Core.Path.{refl, ◌∙◌}
use native.Mathlib.Omega.{arith}
use borrow.Author.Rules.{rules}
use Rattle.laws.proofs.Puts.{puts_none}
use Rattle.lines.proofs.Texts.{vertex_more}
use Rattle.lines.proofs.put_vertices.Goals as goal

pub loop-v-init : goal.loop-v-init
loop-v-init c = (search rules, search rules, puts_none _ _ _, refl)

pub loop-v-preserved : goal.loop-v-preserved
loop-v-preserved c =
    let i = c.loop-v.invariant in
    let p = c.put_vertex-next.ensures in (
      search rules,
      omega (arith, i.1, p.value),
      vertex_more c.args.words.now c.args.offsets.now _ i.2 p.put,
      c.put_vertex-next.auto.out ∙ i.3,
    )
