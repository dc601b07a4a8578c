-- The promises of `mark`, `still` and `first_fault` fix their answers and the lent table.
-- Assumes nothing.
use Prim.Native.Nat.{ℕ}
use mathlib.Core.Path.{◌≡◌, ap₂, sym, ◌∙◌}
use mathlib.Core.Bool.{Bool, ◌&&◌}
use mathlib.Core.List.{List}
use lib.Dec.{leb}
use Rattle.laws.specs.Fixed.{Fixes}
use Rattle.laws.specs.Leading.{leading}
use Rattle.laws.proofs.Fixed.{equation_fixes}
use Rattle.repeats.specs.Fresh.{fresh, bit_at, Marked}

-- the answer and the table
pub table_mark_fixed : (k : ℕ) (table : List ℕ) → Fixes (λ (f : Bool × List ℕ). (f.0 ≡ bit_at table k) × Marked k table f.1)
table_mark_fixed k table a b p q = ap₂ (λ (x : Bool) (y : List ℕ). (x, y)) (p.0 ∙ sym q.0) (p.1.is ∙ sym q.1.is)

pub still_fixed : (rises : Bool) (last key : ℕ) → Fixes (λ (r : Bool). r ≡ (leb last key && rises))
still_fixed rises last key = equation_fixes (leb last key && rises)

pub entry_fault_fixed : (sound : ℕ → Bool) (key : ℕ → ℕ) (count : ℕ) → Fixes (λ (r : ℕ). r ≡ leading (λ (v : ℕ). sound v && fresh key v) count)
entry_fault_fixed sound key count = equation_fixes (leading (λ (v : ℕ). sound v && fresh key v) count)
