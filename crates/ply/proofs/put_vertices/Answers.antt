-- `put_vertices` meets its contract: the vertices before the one in hand are put.
-- Assumes nothing.
use borrow.Author.Rules.{rules}
use Prim.Native.Nat.{◌-◌}
use mathlib.Core.Path.{refl, ◌∙◌}
use native.Mathlib.Omega.{arith}
use Rattle.laws.proofs.Puts.{puts_none}
use Rattle.block.specs.Size.{size_of}
use Rattle.ply.proofs.Accepted.{three_numbers}
use Rattle.ply.proofs.Files.{vertex_more}
use Rattle.ply.proofs.put_vertices.Goals as goal

pub loop-v-init : goal.loop-v-init
loop-v-init c = (search rules, search rules, puts_none _ _ _, refl)

pub put_vertex-next-requires-clause-number : goal.put_vertex-next-requires-clause-number
put_vertex-next-requires-clause-number c =
    let a = c.args in
    three_numbers (size_of a.nx a.ny a.nz) a.words.now a.offsets.now a.s a.count c.requires.all_numbers c.loop-v.v c.loop-v-test.true

pub loop-v-preserved : goal.loop-v-preserved
loop-v-preserved c =
    let a = c.args in
    let i = c.loop-v.invariant in
    let p = c.put_vertex-next.ensures in (
      search rules,
      omega (arith, i.1, p.value),
      vertex_more (size_of a.nx a.ny a.nz) a.words.now a.offsets.now a.s _ _ _ refl refl i.2 p.put,
      c.put_vertex-next.auto.out ∙ i.3,
    )
