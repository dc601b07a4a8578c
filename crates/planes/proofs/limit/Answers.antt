-- `limit` meets its contract: by how many of the word's places are below n.
-- Assumes nothing.
use mathlib.Core.Path.{◌∙◌}
use native.Mathlib.Omega.{arith}
use Rattle.laws.proofs.Pack.{ones_shr}
use Rattle.planes.proofs.Masks.{limit_part}
use Rattle.planes.proofs.limit.Goals as goal

pub returns-then-n-a : goal.returns-then-n-a
returns-then-n-a c = limit_part _ _ 0 (omega arith) (λ i a. absurd (omega arith)) (λ i a b. omega (arith, c.if-n-a.true))

pub returns-then-n-a-lt64 : goal.returns-then-n-a-lt64
returns-then-n-a-lt64 c = ones_shr _ (omega arith) ∙ limit_part _ _ _ (omega arith) (λ i a. omega arith) (λ i a b. omega arith)

pub returns : goal.returns
returns c = limit_part _ _ 64 (omega arith) (λ i a. omega arith) (λ i a b. absurd (omega arith))
