-- `count_along` meets its contract: four words for each crossed inner edge, if there are any.
-- Assumes nothing.
use Prim.Native.Nat.{ℕ, ◌*◌}
use mathlib.Core.Path.{sym, ap, ◌∙◌}
use Rattle.layers.proofs.Steps.{step_counted}
use Rattle.layers.proofs.count_along.Goals as goal

pub returns-clause-value : goal.returns-clause-value
returns-clause-value c =
    let a = c.args in
    let r = a.row in ap (λ (x : ℕ). 4 * x) c.count_row.ensures.value
    ∙ sym (step_counted a.along a.a.now a.b.now r.nx r.j r.lower c.has_quads.ensures c.if-not-has_quads.false)
