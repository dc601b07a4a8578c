-- `check_numbers` meets its promise: the quads before the one in hand are in order.
-- Assumes nothing.
use mathlib.Core.Path.{sym, ◌∙◌}
use native.Mathlib.Omega.{arith}
use borrow.Author.Rules.{rules}
use Rattle.block.proofs.Searches.{search_passes, search_fails}
use Rattle.lists.proofs.check_numbers.Goals as goal

pub returns-then-not-all_below : goal.returns-then-not-all_below
returns-then-not-all_below c = search_fails 14 _ _ c.loop-q.q c.short.result (search rules) c.loop-q.invariant.1 (sym c.all_below.ensures ∙ c.if-not-all_below.true) c.short.ensures

pub returns : goal.returns
returns c = sym (search_passes 14 _ _ (λ i h. c.loop-q.invariant.1 i (omega (arith, h, c.loop-q-test.false, c.loop-q.invariant.0))))
