-- The promise of `counts_row` fixes its answer and the buffer at exit: any two that it allows are equal.
-- Assumes nothing.
use Prim.Native.Nat.{ℕ}
use mathlib.Core.Path.{◌≡◌, refl, ap₂, sym, ◌∙◌}
use mathlib.Core.List.{List}
use native.Mathlib.Omega.{arith}
use Rattle.laws.specs.Fixed.{Fixes}
use Rattle.laws.proofs.Fixed.{Injective}
use Rattle.thresholds.specs.declared.RowAnswer.{RowAnswer}
use Rattle.thresholds.specs.declared.RowAnswer.TheVariants as row
use Rattle.thresholds.specs.Answer.{said_row, RowAnswered}

said_row_injective : Injective said_row
said_row_injective row.Answered row.Answered e = refl
said_row_injective row.Answered (row.Refused r) e = let z : ◌≡◌ {A = ℕ} 0 1 = cc in absurd (omega arith)
said_row_injective (row.Refused r) row.Answered e = let z : ◌≡◌ {A = ℕ} 0 1 = cc in absurd (omega arith)
said_row_injective (row.Refused r) (row.Refused q) e = cc

pub row_fixed : (nx ny nz : ℕ) (s ts : List ℕ) (noise : ℕ) (b : List ℕ) → Fixes (λ (x : RowAnswer × List ℕ). RowAnswered nx ny nz s ts noise b x.0 x.1)
row_fixed nx ny nz s ts noise b x y p q =
    ap₂ (λ (r : RowAnswer) (l : List ℕ). (r, l)) (said_row_injective x.0 y.0 (p.answer ∙ sym q.answer)) (p.answers ∙ sym q.answers)
