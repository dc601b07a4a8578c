-- A row of thresholds, as a C caller is told of it: who is told 0 finds in the buffer, for each threshold, what asking for it alone tells.
-- Assumes nothing.
use Prim.Native.Nat.{ℕ, ◌+◌, ◌*◌, ◌≤◌, ◌<◌}
use mathlib.Core.Path.{◌≡◌, refl, ap, sym, ◌∙◌}
use mathlib.Core.Logic.{inl, inr}
use mathlib.Core.List.{List}
use native.Mathlib.Omega.{arith}
use lib.ListN.{length, get_or}
use Rattle.block.specs.declared.Refusal.{Refusal}
use Rattle.block.specs.Answer.{accepted, refused}
use Rattle.block.proofs.Order.{refused_exactly}
use Rattle.mesh.specs.Answer.{said_counts, told_counts}
use Rattle.thresholds.specs.declared.RowAnswer.{RowAnswer}
use Rattle.thresholds.specs.declared.RowAnswer.TheVariants as row
use Rattle.thresholds.specs.Answer.{said_row}
use Rattle.thresholds.proofs.Threes.{told_three}
use Rattle.parsniprow_c.specs.Told.{CountsTold, RowTold}
use Rattle.demands.proofs.Places.{tell_at, none_told}
use Rattle.demands.proofs.Thresholds.{RowNumber, row_numbers, row_is_one_by_one}

module _ (nx ny nz : ℕ) (s ts : List ℕ) (noise : ℕ) (b place b' place' : List ℕ) (m : RowTold nx ny nz s ts noise b place b' place') (z : get_or place' 0 1 ≡ 0) where
  pub row_told_answered : said_row m.answer ≡ accepted tt
  row_told_answered = go m.answer refl
    where
      go : (a : RowAnswer) → m.answer ≡ a → said_row a ≡ accepted tt
      go row.Answered e = refl
      go (row.Refused x) e = absurd (none_told 3 _ (said_row m.answer) place place' m.is_told z some x (ap said_row e))
        where
          least : (n : ℕ) → RowNumber n → 1 ≤ n
          least n (inl h) = h.0
          least n (inr h) = omega (arith, h.0)

          some : (y : Refusal) → said_row m.answer ≡ refused y → 1 ≤ y.number
          some y f = least y.number (row_numbers nx ny nz s ts (length b) y ((refused_exactly _ _ _ m.answered.answer y).0 f))

  pub row_told_one_by_one : (i : ℕ) → i < length ts → (q q' : List ℕ) → 3 ≤ length q → CountsTold nx ny nz s (get_or ts i 0) noise q q' → (p : ℕ) → p < 3 → get_or b' (3 * i + p) 0 ≡ get_or q' p 0
  row_told_one_by_one i h q q' room asked p few =
      row_is_one_by_one nx ny nz s ts noise b m.answer b' m.answered row_told_answered i h asked.answer asked.answered p few
      ∙ sym (ap (λ (l : List ℕ). get_or l p 0) asked.is_told
      ∙ tell_at (told_counts (said_counts asked.answer)) q p 0 (omega (arith, room, few)) (omega (arith, few, told_three (said_counts asked.answer))))
