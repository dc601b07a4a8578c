-- Row 9: which axis is over 8, and that none is where the row passes. Rows 1 and 9 in order.
-- Assumes nothing.
use Prim.Native.Nat.{ℕ, ◌*◌, ◌≤◌, ◌<◌}
use mathlib.Core.Path.{◌≡◌, sym, ◌∙◌}
use mathlib.Core.List.{[], ◌∷◌}
use native.Mathlib.Nat.{mul-le-mul}
use native.Mathlib.Omega.{arith}
use lib.Dec.{ltb}
use borrow.Author.Tests.{lt-ltb, le-ltb, ltb-false}
use Rattle.block.specs.declared.Refusal.{Refusal}
use Rattle.block.specs.declared.Checked.{Checked}
use Rattle.block.specs.declared.Checked.TheVariants.{Passes, Refuses}
use Rattle.block.specs.Answer.{in_order}
use Rattle.block.specs.Rows.{axis_row}
use Rattle.block.proofs.Order.{order_refuses, order_passes, order_last, order_rest}
use Rattle.block.proofs.Lowest.{row_clear, first_of_three, second_of_three, third_of_three, none_of_three}
use Rattle.reading.specs.Input.{large_row}

module _ (nx ny nz : ℕ) where
  pub first_large : 8 < nx → Refuses (record { number = 9; value = 0 }) ≡ large_row nx ny nz
  first_large x = sym (first_of_three 9 (ltb 8) nx ny nz (lt-ltb 8 nx x))

  pub second_large : nx ≤ 8 → 8 < ny → Refuses (record { number = 9; value = 1 }) ≡ large_row nx ny nz
  second_large x y = sym (second_of_three 9 (ltb 8) nx ny nz (le-ltb 8 nx x) (lt-ltb 8 ny y))

  pub third_large : nx ≤ 8 → ny ≤ 8 → 8 < nz → Refuses (record { number = 9; value = 2 }) ≡ large_row nx ny nz
  third_large x y z = sym (third_of_three 9 (ltb 8) nx ny nz (le-ltb 8 nx x) (le-ltb 8 ny y) (lt-ltb 8 nz z))

  pub none_large : nx ≤ 8 → ny ≤ 8 → nz ≤ 8 → Passes ≡ large_row nx ny nz
  none_large x y z = sym (none_of_three 9 (ltb 8) nx ny nz (le-ltb 8 nx x) (le-ltb 8 ny y) (le-ltb 8 nz z))

-- a block that the program takes has at most 8 samples an axis, so at most 64 rows
pub record AtMostEight (nx ny nz : ℕ) : Type 0 where
  pub x : nx ≤ 8
  pub y : ny ≤ 8
  pub z : nz ≤ 8
  pub rows : ny * nz ≤ 64

pub at_most_eight : (nx ny nz : ℕ) → large_row nx ny nz ≡ Passes → AtMostEight nx ny nz
at_most_eight nx ny nz e =
    let clear = row_clear (ltb 8) 0 9 (nx ∷ ny ∷ nz ∷ []) e in
    let hy = ltb-false 8 ny (clear 1 (omega arith)) in
    let hz = ltb-false 8 nz (clear 2 (omega arith)) in
    record { x = ltb-false 8 nx (clear 0 (omega arith)); y = hy; z = hz; rows = mul-le-mul hy hz }

-- ---- rows 1 and 9 in order

module _ (nx ny nz : ℕ) where
  pub axis_first : (r : Refusal) → axis_row nx ny nz ≡ Refuses r → Refuses r ≡ in_order (axis_row nx ny nz ∷ large_row nx ny nz ∷ [])
  axis_first r e = sym (order_refuses (axis_row nx ny nz) _ r e)

  pub then_large : (k : Checked) → axis_row nx ny nz ≡ Passes → k ≡ large_row nx ny nz → k ≡ in_order (axis_row nx ny nz ∷ large_row nx ny nz ∷ [])
  then_large k a e = e ∙ sym (order_passes (axis_row nx ny nz) _ a ∙ order_last (large_row nx ny nz))

  pub both_pass : in_order (axis_row nx ny nz ∷ large_row nx ny nz ∷ []) ≡ Passes → AtMostEight nx ny nz
  both_pass e = at_most_eight nx ny nz (sym (order_last (large_row nx ny nz)) ∙ order_rest (axis_row nx ny nz) _ e)
