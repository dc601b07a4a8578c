-- `tell_closed` meets its contract: each case in its numbers.
-- Assumes nothing.
use Prim.Native.Nat.{ℕ}
use mathlib.Core.List.{[], ◌∷◌}
use mathlib.Core.Path.{sym, ap, ap₂, ◌∙◌}
use Rattle.laws.specs.Filled.{filled}
use Rattle.closed.specs.declared.Closure.{Closure}
use Rattle.closed.specs.Closed.{said_closure}
use Rattle.told.specs.Numbers.{told_closed}
use Rattle.told.proofs.tell_closed.Goals as goal

pub returns-in-Closed : goal.returns-in-Closed
unfolding filled
returns-in-Closed c = sym (ap (λ (x : Closure). told_closed (said_closure x)) c.in-Closed.is)

pub returns-in-Open : goal.returns-in-Open
unfolding filled
returns-in-Open c =
    ap₂ (λ (a b : ℕ). 0 ∷ 0 ∷ a ∷ b ∷ []) c.short.ensures c.short-in-Open.ensures
    ∙ sym (ap (λ (x : Closure). told_closed (said_closure x)) c.in-Open.is)

pub returns-in-Refused : goal.returns-in-Refused
unfolding filled
returns-in-Refused c = sym (ap (λ (x : Closure). told_closed (said_closure x)) c.in-Refused.is)
