-- The promises of `plane_signs`, `row_signs` and `put_signs` fix the buffer at exit: any two that one allows are equal.
-- Assumes nothing.
use mathlib.Core.Path.{◌≡◌}
use mathlib.Core.List.{List}
use Prim.Native.Nat.{ℕ, ◌*◌}
use lib.Seq.{sets}
use Rattle.laws.specs.Below.{over}
use Rattle.laws.specs.Fixed.{Fixes}
use Rattle.laws.proofs.Fixed.{equation_fixes}
use Rattle.block.specs.declared.Cut.{Cut}
use Rattle.block.specs.declared.Size.{Size}
use Rattle.signs.specs.Steps.{words_of, five_words}
use Rattle.signs.specs.Signs.{plane_words}

pub plane_signs_fixed : (n : Size) (s : List ℕ) (cut : Cut) (k : ℕ) (entry : List ℕ) → Fixes (λ (exit : List ℕ). exit ≡ over (plane_words n s cut k) entry)
plane_signs_fixed n s cut k entry = equation_fixes (over (plane_words n s cut k) entry)

pub row_signs_fixed : (row : List ℕ) (cut : Cut) (j : ℕ) (entry : List ℕ) → Fixes (λ (exit : List ℕ). exit ≡ sets entry (5 * j) (five_words row cut))
row_signs_fixed row cut j entry = equation_fixes (sets entry (5 * j) (five_words row cut))

pub put_signs_fixed : (bytes : List ℕ) (j : ℕ) (entry : List ℕ) → Fixes (λ (exit : List ℕ). exit ≡ sets entry (5 * j) (words_of bytes))
put_signs_fixed bytes j entry = equation_fixes (sets entry (5 * j) (words_of bytes))
