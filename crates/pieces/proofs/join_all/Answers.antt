-- `join_all` meets its contract: the first q quads are joined.
-- Assumes nothing.
use mathlib.Core.Path.{refl, sym, ◌∙◌}
use Prim.Native.Nat.{ℕ, ◌<◌}
use native.Mathlib.Omega.{arith}
use borrow.Author.Rules.{rules}
use lib.ListN.{length}
use Rattle.trees.specs.Forest.{at}
use Rattle.pieces.proofs.Quads.{after_none, after_more, ready_at}
use Rattle.pieces.proofs.join_all.Goals as goal

pub loop-q-init : goal.loop-q-init
loop-q-init c = (search rules, refl, refl, refl, c.requires.3 ∙ sym (after_none (length c.args.up.now) c.args.quads.now))

pub join_quad-longest-requires : goal.join_quad-longest-requires
join_quad-longest-requires c =
    let l = c.loop-q in
    let r = ready_at (length c.args.up.now) c.requires.0 c.args.quads.now c.requires.2 l.q (omega (arith, l.invariant.1)) l.up l.size l.longest l.invariant.4 in
    let below : (k : ℕ) → k < length c.args.quads.now → at c.args.quads.now k < length l.up = λ k h. rw r.0 (c.requires.2 k h) in
    (below _ (omega (arith, l.invariant.1)), below _ (omega (arith, l.invariant.1)), below _ (omega (arith, l.invariant.1)), below _ (omega (arith, l.invariant.1)), r.1)

pub loop-q-preserved : goal.loop-q-preserved
loop-q-preserved c =
    let l = c.loop-q in
    let j = c.join_quad-longest in (
      search rules,
      refl,
      search rules,
      search rules,
      after_more (length c.args.up.now) c.args.quads.now l.q _ _ _ l.invariant.2 l.invariant.4 j.ensures,
    )
