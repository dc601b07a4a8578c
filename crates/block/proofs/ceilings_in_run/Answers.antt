-- `ceilings_in_run` meets its contract. The loop's invariant: n counts the first i samples. The measure is what is left of the 256.
-- Assumes nothing.
use Prim.Native.Nat.{ℕ, ◌+◌}
use mathlib.Core.Path.{sym, ap₂, ◌∙◌}
use native.Mathlib.Omega.{arith}
use borrow.Author.Rules.{rules}
use Rattle.laws.proofs.Counting.{count_none, count_next}
use Rattle.block.proofs.ceilings_in_run.Goals as goal

pub loop-i-init : goal.loop-i-init
loop-i-init c = (omega arith, omega arith, sym (count_none _))

pub loop-i-preserved : goal.loop-i-preserved
loop-i-preserved c =
    let l = c.loop-i in
    (search rules, omega (arith, l.invariant.1, c.at_ceiling-n.ensures.upper_bound), ap₂ (λ (a b : ℕ). a + b) l.invariant.2 c.at_ceiling-n.ensures.value ∙ sym (count_next _ l.i))
