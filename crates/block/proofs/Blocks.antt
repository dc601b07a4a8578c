-- Row 1 and the rows behind it: what they say together, by the axis that was refused or the size that was made; and what follows where rows 1 to 3 pass.
-- Assumes nothing.
use Prim.Native.Nat.{ℕ}
use mathlib.Core.Path.{◌≡◌, ap, sym, ◌∙◌, subst}
use mathlib.Core.List.{List, ◌∷◌}
use borrow.Author.Tests.{eqb-true}
use lib.ListN.{length}
use Rattle.block.specs.declared.Checked.{Checked}
use Rattle.block.specs.declared.Checked.TheVariants.{Passes}
use Rattle.block.specs.declared.Cut.{Cut}
use Rattle.block.specs.declared.Size.{Size}
use Rattle.block.specs.declared.Sized.TheVariants.{Made, BadAxis}
use Rattle.block.specs.Answer.{Answer, refused, in_order, judged}
use Rattle.block.specs.Block.{block_rows}
use Rattle.block.specs.Numbering.{sample_count}
use Rattle.block.specs.Rows.{axis_row, count_row}
use Rattle.block.specs.Size.{size_of, SizeMade, Limits}
use Rattle.block.specs.Steps.{Sampled}
use Rattle.block.proofs.Order.{order_refuses, order_passes, order_first, judged_refused}
use Rattle.block.proofs.Rows.{unless_none}
use Rattle.block.proofs.Sizes.{axis_refused, axis_passed, size_made}

-- row 1, and whatever rows are tried of a size that is made
module _ {A : Type 0} (nx ny nz : ℕ) (rows : Size → List Checked) where
  -- a refused axis refuses the call
  pub axis_judged : (x : A) (a : ℕ) → SizeMade nx ny nz (BadAxis a) → refused (record { number = 1; value = a }) ≡ judged (in_order (axis_row nx ny nz ∷ rows (size_of nx ny nz))) x
  axis_judged x a e = judged_refused _ _ _ (order_refuses (axis_row nx ny nz) _ _ (axis_refused nx ny nz a e))

  -- a size that was made leaves it to the other rows
  pub made_judged : (answer : Size → A) (n : Size) (said : Answer A) → SizeMade nx ny nz (Made n) → said ≡ judged (in_order (rows n)) (answer n)
      → said ≡ judged (in_order (axis_row nx ny nz ∷ rows (size_of nx ny nz))) (answer (size_of nx ny nz))
  made_judged answer n said e h =
      subst (λ (m : Size). said ≡ judged (in_order (rows m)) (answer m)) (size_made nx ny nz n e).0 h
      ∙ ap (λ (k : Checked). judged k (answer (size_of nx ny nz))) (sym (order_passes (axis_row nx ny nz) _ (axis_passed nx ny nz n e)))

-- where row 2 passes there are as many samples as the size says
pub count_passed : (n : Size) (count : ℕ) → count_row n count ≡ Passes → count ≡ sample_count n
count_passed n count e = eqb-true count (sample_count n) (unless_none _ 2 _ e)

pub sampled_of : (n : Size) (s : List ℕ) (cut : Cut) → Limits n → in_order (block_rows n s cut) ≡ Passes → Sampled n s
sampled_of n s cut l e = record { limits = l; samples = count_passed n (length s) (order_first (count_row n (length s)) _ e) }
