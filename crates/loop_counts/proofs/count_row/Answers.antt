-- `count_row` meets its contract. The loop's invariant: the loops of the cubes of the words before w are counted. The measure is what is left
-- of four words.
-- Assumes nothing.
use Prim.Native.Nat.{◌<◌}
use mathlib.Core.Path.{refl, ◌∙◌}
use Rattle.cube_rule.specs.Decider.{joined, loops_of}
use Rattle.cube_rule.proofs.Laws.{cube_laws}
use Rattle.laws.specs.Below.{below}
use Rattle.rows.proofs.WordSteps.{WordTold, told_ready, counted_word, count_end, row_count_le}
use native.Mathlib.Omega.{arith}
use Rattle.loop_counts.proofs.count_row.Goals as goal

pub loop-w-init : goal.loop-w-init
unfolding below
loop-w-init c = (omega arith, refl, omega arith)

pub count_word-m-requires : goal.count_word-m-requires
count_word-m-requires c =
    let four : c.loop-w.w < 4 = omega (arith, c.loop-w-test.true, c.requires.long) in
    let told : let a = c.args in WordTold a.a.now a.b.now a.row.nx a.row.j c.loop-w.w c.eight-e.result c.active.result c.limit.result = record { eight_is = c.eight-e.ensures; active_is = c.active.ensures; limit_is = c.limit.ensures } in
    told_ready (cube_laws joined) c.requires _ four told

pub loop-w-preserved : goal.loop-w-preserved
loop-w-preserved c =
    let four : c.loop-w.w < 4 = omega (arith, c.loop-w-test.true, c.requires.long) in
    let told : let a = c.args in WordTold a.a.now a.b.now a.row.nx a.row.j c.loop-w.w c.eight-e.result c.active.result c.limit.result = record { eight_is = c.eight-e.ensures; active_is = c.active.ensures; limit_is = c.limit.ensures } in
    let h = c.loop-w in (
      omega (arith, four),
      counted_word (cube_laws joined) c.requires _ four told _ _ h.invariant.1 c.count_word-m.ensures.value,
      omega (arith, h.invariant.2, c.count_word-m.ensures.upper_bound),
    )

pub returns-clause-value : goal.returns-clause-value
returns-clause-value c =
    let h = c.loop-w in
    let a = c.args in
    let is = h.invariant.1 ∙ count_end loops_of a.lo.now a.hi.now a.row.cut a.row.nx h.w (omega (arith, c.loop-w-test.false)) in is

pub returns-clause-upper_bound : goal.returns-clause-upper_bound
returns-clause-upper_bound c =
    let h = c.loop-w in
    let a = c.args in
    let is = h.invariant.1 ∙ count_end loops_of a.lo.now a.hi.now a.row.cut a.row.nx h.w (omega (arith, c.loop-w-test.false)) in omega (arith, is, row_count_le loops_of a.lo.now a.hi.now a.row.cut a.row.nx ((cube_laws joined).four a.row.cut), c.requires.long)
