-- `put_each` meets its contract. The loop's invariant: what the thresholds before i are told stands at the front. The measure is what is left of the thresholds.
-- Assumes nothing.
use Prim.Native.Nat.{◌-◌}
use mathlib.Core.Path.{refl, ◌∙◌, subst}
use mathlib.Core.List.{[], ◌∷◌}
use native.Mathlib.Omega.{arith}
use lib.ListN.{length}
use Rattle.laws.proofs.Stores.{sets_length}
use Rattle.thresholds.proofs.Threes.{Told, told_none, told_more, told_all}
use Rattle.thresholds.proofs.put_each.Goals as goal

pub loop-i-init : goal.loop-i-init
loop-i-init c =
    let a = c.args in (omega arith, refl, told_none a.thresholds.now a.marks a.answers.now)

pub loop-i-preserved : goal.loop-i-preserved
loop-i-preserved c =
    let a = c.args in (
      omega (arith, c.loop-i-test.true),
      sets_length c.loop-i.answers _ _ (_ ∷ _ ∷ _ ∷ []) c.put_three.ensures ∙ c.loop-i.invariant.1,
      told_more a.thresholds.now a.marks a.answers.now c.loop-i.i c.loop-i.answers _ c.three-told.result c.loop-i.invariant.2 c.three-told.ensures c.put_three.ensures,
    )

pub returns : goal.returns
returns c =
    let a = c.args in
    told_all a.thresholds.now a.marks a.answers.now (length a.thresholds.now) c.loop-i.answers
    (subst (λ i. Told a.thresholds.now a.marks a.answers.now i c.loop-i.answers) (omega (arith, c.loop-i.invariant.0, c.loop-i-test.false)) c.loop-i.invariant.2) c.requires.1
