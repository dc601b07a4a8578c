-- `tell_judgement` meets its contract: each case in its numbers.
-- Assumes nothing.
use Prim.Native.Nat.{ℕ}
use mathlib.Core.List.{[], ◌∷◌}
use mathlib.Core.Path.{sym, ap, ◌∙◌}
use Rattle.laws.specs.Filled.{filled}
use Rattle.foundry.specs.declared.Judgement.{Judgement}
use Rattle.foundry.specs.Answer.{said_judgement}
use Rattle.told.specs.Numbers.{told_judgement}
use Rattle.told.proofs.tell_judgement.Goals as goal

pub returns-in-Same : goal.returns-in-Same
unfolding filled
returns-in-Same c = sym (ap (λ (x : Judgement). told_judgement (said_judgement x)) c.in-Same.is)

pub returns-in-BadVertex : goal.returns-in-BadVertex
unfolding filled
returns-in-BadVertex c = ap (λ (v : ℕ). 0 ∷ 0 ∷ 1 ∷ v ∷ []) c.short.ensures ∙ sym (ap (λ (x : Judgement). told_judgement (said_judgement x)) c.in-BadVertex.is)

pub returns-in-BadQuad : goal.returns-in-BadQuad
unfolding filled
returns-in-BadQuad c = ap (λ (q : ℕ). 0 ∷ 0 ∷ 2 ∷ q ∷ []) c.short-in-BadQuad.ensures ∙ sym (ap (λ (x : Judgement). told_judgement (said_judgement x)) c.in-BadQuad.is)

pub returns-in-Missing : goal.returns-in-Missing
unfolding filled
returns-in-Missing c = sym (ap (λ (x : Judgement). told_judgement (said_judgement x)) c.in-Missing.is)

pub returns-in-Refused : goal.returns-in-Refused
unfolding filled
returns-in-Refused c = sym (ap (λ (x : Judgement). told_judgement (said_judgement x)) c.in-Refused.is)
