-- `begin` meets its contract: the first v vertices are pieces of their own.
-- Assumes nothing.
use mathlib.Core.Path.{◌≡◌, refl, ap₂, ◌∙◌}
use mathlib.Core.List.{List}
use Prim.Native.Nat.{ℕ}
use native.Mathlib.Omega.{arith}
use borrow.Author.Rules.{rules}
use lib.ListN.{length-set}
use Rattle.laws.proofs.Over.{over_none, over_put, over_each}
use Rattle.trees.specs.Steps.{stored}
use Rattle.pieces.proofs.begin.Goals as goal

pub loop-v-init : goal.loop-v-init
loop-v-init c = (search rules, c.requires.0, c.requires.1, over_none _ _, over_none _ _)

pub loop-v-preserved : goal.loop-v-preserved
loop-v-preserved c =
    let l = c.loop-v in (
      search rules,
      length-set l.up l.v l.v ∙ l.invariant.1,
      length-set l.size l.v 1 ∙ l.invariant.2,
      over_put (λ (i : ℕ). i) c.args.up.now l.up l.v l.v l.invariant.3 refl (omega (arith, c.requires.0)),
      over_put (λ (i : ℕ). 1) c.args.size.now l.size l.v 1 l.invariant.4 refl (omega (arith, c.requires.1)),
    )

pub returns : goal.returns
returns c =
    let l = c.loop-v in
    let end : l.v ≡ c.args.n = omega arith in
    ap₂ (λ (u s : List ℕ). stored u s 0) (l.invariant.3 ∙ rw end (over_each _ _ _ c.requires.0)) (l.invariant.4 ∙ rw end (over_each _ _ _ c.requires.1))
