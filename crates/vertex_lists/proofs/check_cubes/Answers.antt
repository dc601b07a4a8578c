-- `check_cubes` meets its promise: the vertices before the one in hand are in order.
-- Assumes nothing.
use borrow.Author.Rules.{rules}
use native.Mathlib.Omega.{arith}
use Rattle.vertex_lists.proofs.Rows.{cubes_pass, cubes_fail}
use Rattle.vertex_lists.proofs.check_cubes.Goals as goal

pub returns-then-words-v : goal.returns-then-words-v
returns-then-words-v c = cubes_fail _ _ c.args.words.now c.cubes-end.ensures c.loop-v.v c.short.result (search rules) c.loop-v.invariant.1 (omega (arith, c.if-words-v.true)) c.short.ensures

pub returns : goal.returns
returns c = cubes_pass _ _ c.args.words.now c.cubes-end.ensures c.loop-v.v c.loop-v-test.false c.loop-v.invariant.1
