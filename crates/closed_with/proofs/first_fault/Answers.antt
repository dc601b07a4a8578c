-- `first_fault` meets its contract: each side before n is in order.
-- Assumes nothing.
use mathlib.Core.Path.{sym, ◌∙◌}
use native.Mathlib.Omega.{arith}
use lib.ListN.{length}
use Rattle.laws.proofs.Leading.{leading_at, leading_all}
use Rattle.closed.specs.Closed.{side_sound}
use Rattle.closed.proofs.Search.{side_judged}
use Rattle.closed.proofs.Chains.{top_above}
use Rattle.closed_with.proofs.first_fault.Goals as goal

pub walks_from-there-requires : goal.walks_from-there-requires
walks_from-there-requires c = (rw c.requires.0 (top_above c.args.quads.now c.loop-n.n (omega arith)), c.requires.1, c.requires.2)

pub walks_from-back-requires : goal.walks_from-back-requires
walks_from-back-requires c = (rw c.requires.0 (top_above c.args.quads.now c.next-e.result (omega arith)), c.requires.1, c.requires.2)

pub returns-then-not-sound : goal.returns-then-not-sound
returns-then-not-sound c =
    let n = c.loop-n.n in
    let quads = c.args.quads.now in
    let fails = side_judged quads n _ _ _ (length quads) _ c.next-e.ensures (omega arith) (omega arith) c.walks_from-there.ensures c.walks_from-back.ensures (sym c.if-not-sound.true ∙ c.sound.ensures) in
    sym (leading_at (side_sound quads) (length quads) n (omega arith) c.loop-n.invariant fails)

pub returns : goal.returns
returns c =
    let quads = c.args.quads.now in
    sym (leading_all (side_sound quads) (length quads) (λ i h. c.loop-n.invariant i (omega arith)))
