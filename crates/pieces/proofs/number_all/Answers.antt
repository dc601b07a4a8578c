-- `number_all` meets its contract: the vertices below v have their numbers.
-- Assumes nothing.
use mathlib.Core.Path.{◌≡◌, ap, sym, ◌∙◌, subst}
use Prim.Native.Nat.{ℕ}
use native.Mathlib.Omega.{arith}
use borrow.Author.Rules.{rules}
use Rattle.trees.specs.Forest.{at, top_of}
use Rattle.trees.specs.Steps.{Ends}
use Rattle.pieces.proofs.Midway.{Midway, midway_first, midway_ends, midway_top, midway_next, midway_last}
use Rattle.pieces.proofs.number_all.Goals as goal

pub loop-v-init : goal.loop-v-init
loop-v-init c = (search rules, search rules, midway_first _ _ _ c.requires)

pub number-count-requires : goal.number-count-requires
number-count-requires c =
    let l = c.loop-v in
    let m = l.invariant.2 in
    (rw m.up_length c.loop-v-test.true, m.size_length ∙ sym m.up_length, subst (λ (x : ℕ). Ends x l.up) (sym m.up_length) (midway_ends _ _ _ c.requires _ _ _ _ m))

pub loop-v-preserved : goal.loop-v-preserved
loop-v-preserved c =
    let l = c.loop-v in
    let m = l.invariant.2 in
    let less = c.loop-v-test.true in
    let top = ap (λ (k : ℕ). top_of (at l.up) k l.v) m.up_length ∙ midway_top _ _ _ c.requires _ _ _ _ m less in
    (search rules, search rules, midway_next _ _ _ c.requires _ _ _ _ m less _ top _ _ _ c.number-count.ensures.numbered_one)

pub returns : goal.returns
returns c =
    let l = c.loop-v in
    let end : l.v ≡ c.args.n = omega (arith, l.invariant.0) in
    midway_last _ _ _ c.requires _ _ _ (subst (λ (k : ℕ). Midway c.args.n k c.args.up.now c.args.size.now l.up l.size l.count) end l.invariant.2)
