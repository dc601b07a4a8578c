-- The contracts of this crate fix their answers and the buffers: any two that are allowed are equal.
-- Assumes nothing.
use Prim.Native.Nat.{ℕ}
use mathlib.Core.Path.{◌≡◌, ap₂, sym, ◌∙◌}
use mathlib.Core.List.{List}
use lib.ListN.{length}
use Rattle.laws.specs.Fixed.{Fixes}
use Rattle.laws.specs.Put.{Put}
use Rattle.laws.proofs.Fixed.{equation_fixes}
use Rattle.file_bytes.specs.Bytes.{decimal}

-- what is put, and the place behind it
pub put_fixed : (out : List ℕ) (at : ℕ) (text : List ℕ) → Fixes (λ (x : List ℕ × ℕ). Put out at text x.0 x.1)
put_fixed out at text a b p q = ap₂ (λ (x : List ℕ) (y : ℕ). (x, y)) (p.stored ∙ sym q.stored) (p.behind ∙ sym q.behind)

pub digits_fixed : (n : ℕ) → Fixes (λ (r : ℕ). r ≡ length (decimal n))
digits_fixed n = equation_fixes (length (decimal n))
