-- The promise of `first_fault` fixes its answer: any two that are allowed are equal.
-- Assumes nothing.
use Rattle.std.proofs.Common.{◌≡◌, ℕ, List}
use Rattle.laws.specs.Fixed.{Fixes}
use Rattle.laws.specs.Leading.{leading}
use Rattle.laws.proofs.Fixed.{equation_fixes}
use Rattle.block.specs.declared.Cut.{Cut}
use Rattle.block.specs.declared.Size.{Size}
use Rattle.foundry_rule.specs.Judged.{quad_total}
use Rattle.foundry_quads.specs.Steps.{quad_spot_sound}

pub quad_fault_fixed : (n : Size) (s : List ℕ) (cut : Cut) (words quads : List ℕ) → Fixes (λ (r : ℕ). r ≡ leading (quad_spot_sound n s cut words quads) (quad_total quads))
quad_fault_fixed n s cut words quads = equation_fixes (leading (quad_spot_sound n s cut words quads) (quad_total quads))
