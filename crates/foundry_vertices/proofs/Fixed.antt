-- The promise of `first_fault` fixes its answer.
-- Assumes nothing.
use Prim.Native.Nat.{ℕ}
use mathlib.Core.Path.{◌≡◌}
use mathlib.Core.List.{List}
use lib.Ieee.{Float}
use Rattle.laws.specs.Fixed.{Fixes}
use Rattle.laws.specs.Leading.{leading}
use Rattle.laws.proofs.Fixed.{equation_fixes}
use Rattle.block.specs.declared.Cut.{Cut}
use Rattle.block.specs.declared.Size.{Size}
use Rattle.foundry_rule.specs.Judged.{vertex_total}
use Rattle.foundry_vertices.specs.Steps.{spot_sound}

pub vertex_fault_fixed : (n : Size) (s : List ℕ) (cut : Cut) (words : List ℕ) (offsets : List Float)
    → Fixes (λ (r : ℕ). r ≡ leading (spot_sound n s cut words offsets) (vertex_total words))
vertex_fault_fixed n s cut words offsets = equation_fixes (leading (spot_sound n s cut words offsets) (vertex_total words))
