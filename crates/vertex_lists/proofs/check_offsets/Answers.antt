-- `check_offsets` meets its promise: the vertices before the one in hand are in order.
-- Assumes nothing.
use borrow.Author.Rules.{rules}
use mathlib.Core.Path.{sym, ◌∙◌}
use native.Mathlib.Omega.{arith}
use Rattle.block.proofs.Searches.{search_passes, search_fails}
use Rattle.vertex_lists.proofs.check_offsets.Goals as goal

pub returns-then-not-all_in_unit : goal.returns-then-not-all_in_unit
returns-then-not-all_in_unit c = search_fails 24 _ _ c.loop-v.v c.short.result (search rules) c.loop-v.invariant.1 (sym c.all_in_unit.ensures ∙ c.if-not-all_in_unit.true) c.short.ensures

pub returns : goal.returns
returns c = sym (search_passes 24 _ _ (λ i h. c.loop-v.invariant.1 i (omega (arith, h, c.loop-v-test.false, c.loop-v.invariant.0))))
