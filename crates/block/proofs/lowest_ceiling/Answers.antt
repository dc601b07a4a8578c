-- `lowest_ceiling` meets its contract. The loop's invariant: no sample before i is at the ceiling. The measure is what is left of the
-- samples. Assumes nothing.
use native.Mathlib.Omega.{arith}
use borrow.Author.Tests.{eq-eqb}
use Rattle.block.specs.Grey.{is_ceiling}
use Rattle.block.proofs.Lowest.{lowest_is}
use Rattle.block.proofs.lowest_ceiling.Goals as goal

pub returns-then-samples-i : goal.returns-then-samples-i
returns-then-samples-i c =
    let l = c.loop-i in
    lowest_is is_ceiling 0 _ l.i l.invariant.0 l.invariant.1 (λ h. eq-eqb _ _ c.if-samples-i.true)

pub returns : goal.returns
returns c =
    let l = c.loop-i in lowest_is is_ceiling 0 _ l.i l.invariant.0 l.invariant.1 (λ h. absurd (omega arith))
