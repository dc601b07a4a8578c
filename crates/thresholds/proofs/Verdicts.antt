-- From the rows of the code to the verdict of a whole call, and from the answers of a size that was made to those of asking one at a time.
-- Assumes nothing.
use Prim.Native.Nat.{ℕ}
use mathlib.Core.Path.{◌≡◌, refl, ap, sym, ◌∙◌, subst}
use mathlib.Core.List.{List, [], ◌∷◌}
use lib.ListN.{length}
use Rattle.laws.specs.Below.{over}
use Rattle.laws.proofs.Below.{below_same}
use Rattle.block.specs.declared.Checked.{Checked}
use Rattle.block.specs.declared.Checked.TheVariants.{Passes, Refuses}
use Rattle.block.specs.declared.Cut.{Cut}
use Rattle.block.specs.declared.Refusal.{Refusal}
use Rattle.block.specs.declared.Size.{Size}
use Rattle.block.specs.declared.Sized.TheVariants.{Made, BadAxis}
use Rattle.block.specs.Answer.{in_order, judged}
use Rattle.block.specs.Block.{block_verdict}
use Rattle.block.specs.Rows.{axis_row, count_row, threshold_row}
use Rattle.block.specs.Size.{size_of, SizeMade}
use Rattle.block.proofs.Order.{order_refuses, order_passes, order_last, orders_refuse, orders_pass, judged_refused, judged_passed, written_refused, written_passed}
use Rattle.block.proofs.Sizes.{axis_refused, axis_passed, size_made}
use Rattle.mesh.specs.Answer.{counts_of, told_counts}
use Rattle.thresholds.specs.declared.RowAnswer.{RowAnswer}
use Rattle.thresholds.specs.declared.RowAnswer.TheVariants as row
use Rattle.thresholds.specs.Answer.{many_row, answers_row, row_verdict, answers_of, RowBy, RowAnswered}
use Rattle.thresholds.specs.Steps.{cut_at, answers_in}

-- ---- a refusal keeps the buffer, and an answer stands over its front

pub refused_by : (k : Checked) (xs b : List ℕ) (r : Refusal) → k ≡ Refuses r → RowBy k xs b (row.Refused r) b
refused_by k xs b r e = record { answer = judged_refused k tt r e; answers = sym (written_refused k xs b r e) }

pub answered_by : (k : Checked) (xs b b' : List ℕ) → k ≡ Passes → b' ≡ over xs b → RowBy k xs b row.Answered b'
answered_by k xs b b' e f = record { answer = judged_passed k tt tt e refl; answers = f ∙ sym (written_passed k xs b e) }

-- ---- a threshold is asked by row 3 alone where rows 1 and 2 pass

module _ (nx ny nz : ℕ) (s : List ℕ) where
  pub row_three : (cut : Cut) → axis_row nx ny nz ≡ Passes → count_row (size_of nx ny nz) (length s) ≡ Passes → block_verdict nx ny nz s cut ≡ threshold_row cut
  row_three cut e f = order_passes (axis_row nx ny nz) _ e ∙ order_passes (count_row (size_of nx ny nz) (length s)) _ f ∙ order_last (threshold_row cut)

  module _ (ts : List ℕ) (noise : ℕ) (b : List ℕ) where
    one_by_one : axis_row nx ny nz ≡ Passes → count_row (size_of nx ny nz) (length s) ≡ Passes → answers_in (size_of nx ny nz) s ts noise ≡ answers_of nx ny nz s ts noise
    one_by_one e f =
        below_same _ _ (length ts)
        (λ i h. ap (λ (k : Checked). told_counts (judged k (counts_of (size_of nx ny nz) s (cut_at ts noise i)))) (sym (row_three (cut_at ts noise i) e f)))

    -- ---- rows 16 and 15 refuse the call

    abbrev first : Checked
    first = in_order (many_row (length ts) ∷ answers_row (length ts) (length b) ∷ [])

    pub early : (r : Refusal) → first ≡ Refuses r → RowAnswered nx ny nz s ts noise b (row.Refused r) b
    early r e = refused_by _ _ b r (orders_refuse (many_row (length ts) ∷ answers_row (length ts) (length b) ∷ []) _ r e)

    -- ---- or they leave it to row 1, and that to row 2

    module _ (passed : first ≡ Passes) where
      others : row_verdict nx ny nz s ts (length b) ≡ in_order (axis_row nx ny nz ∷ count_row (size_of nx ny nz) (length s) ∷ [])
      others = orders_pass (many_row (length ts) ∷ answers_row (length ts) (length b) ∷ []) _ passed

      pub bad_axis : (a : ℕ) → SizeMade nx ny nz (BadAxis a) → RowAnswered nx ny nz s ts noise b (row.Refused (record { number = 1; value = a })) b
      bad_axis a e = refused_by _ _ b _ (others ∙ order_refuses (axis_row nx ny nz) _ _ (axis_refused nx ny nz a e))

      module _ (r : RowAnswer) (b' : List ℕ) where
        same : (k : Checked) → axis_row nx ny nz ≡ Passes → count_row (size_of nx ny nz) (length s) ≡ k → RowBy k (answers_in (size_of nx ny nz) s ts noise) b r b' → RowBy k (answers_of nx ny nz s ts noise) b r b'
        same Passes e f h = subst (λ (xs : List ℕ). RowBy Passes xs b r b') (one_by_one e f) h
        same (Refuses x) e f h = record { answer = h.answer; answers = h.answers ∙ written_refused (Refuses x) _ b x refl ∙ sym (written_refused (Refuses x) _ b x refl) }

        pub made : (n : Size) → SizeMade nx ny nz (Made n) → RowBy (count_row n (length s)) (answers_in n s ts noise) b r b' → RowAnswered nx ny nz s ts noise b r b'
        made n e h =
            let axes = axis_passed nx ny nz n e in
            subst (λ (k : Checked). RowBy k (answers_of nx ny nz s ts noise) b r b')
            (sym (others ∙ order_passes (axis_row nx ny nz) _ axes ∙ order_last (count_row (size_of nx ny nz) (length s))))
            (same _ axes refl (subst (λ (m : Size). RowBy (count_row m (length s)) (answers_in m s ts noise) b r b') (size_made nx ny nz n e).0 h))
