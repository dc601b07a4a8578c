-- The promises of reading fix their answers: any two answers that one allows are equal.
-- Assumes nothing.
use Prim.Native.Nat.{ℕ}
use mathlib.Core.Path.{◌≡◌}
use mathlib.Core.List.{List, [], ◌∷◌}
use Rattle.laws.specs.Below.{below, over}
use Rattle.laws.specs.Fixed.{Fixes}
use Rattle.laws.proofs.Fixed.{equation_fixes}
use Rattle.block.specs.declared.Cut.{Cut}
use Rattle.block.specs.declared.Size.{Size}
use Rattle.block.specs.declared.Checked.{Checked}
use Rattle.block.specs.Answer.{in_order}
use Rattle.reading.specs.Text.{number_at}
use Rattle.reading.specs.Input.{input_rows}
use Rattle.reading.specs.Steps.{sample_read}

module _ (bytes : List ℕ) where
  pub number_fixed : (p : ℕ) → Fixes (λ (r : ℕ). r ≡ number_at bytes p 4)
  number_fixed p = equation_fixes (number_at bytes p 4)

  pub check_fixed : (n : Size) (cut : Cut) → Fixes (λ (r : Checked). r ≡ in_order (input_rows bytes n cut))
  check_fixed n cut = equation_fixes (in_order (input_rows bytes n cut))

  pub fill_fixed : (nx count : ℕ) (samples : List ℕ) → Fixes (λ (exit : List ℕ). exit ≡ over (below (λ (i : ℕ). sample_read bytes nx i ∷ []) count) samples)
  fill_fixed nx count samples = equation_fixes (over (below (λ (i : ℕ). sample_read bytes nx i ∷ []) count) samples)
