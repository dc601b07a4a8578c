-- Windows of readings: what is filled and lent is the readings' grey values, and what holds of those holds of it. Assumes nothing.
use Prim.Native.Nat.{ℕ, ◌*◌, ◌-◌, ◌≤◌, ◌<◌}
use mathlib.Core.Path.{◌≡◌, sym, ap, ◌∙◌, subst}
use mathlib.Core.List.{List}
use native.Mathlib.Nat.{sub-zero}
use native.Mathlib.Omega.{arith}
use lib.Dec.{leb}
use lib.IntN.{pos}
use lib.Ieee.{Float, nan, binary32, le, of_int}
use lib.ListN.{length, get_or, take, drop}
use lib.Seq.{take_at}
use Rattle.laws.specs.Below.{over}
use Rattle.block.specs.declared.Cut.{Cut}
use Rattle.cube_rule.specs.Decider.{joined, loops_of}
use Rattle.cube_rule.proofs.Laws.{cube_laws}
use Rattle.readings.specs.Reading.{greys_of, Sound}
use Rattle.readings.proofs.Readings.{reading_sign, greys_length, greys_at}
use Rattle.rows.specs.Rows.{row_masks, RowReady}
use Rattle.rows.proofs.WordSteps.{row_count_le}
use Rattle.loop_counts.specs.declared.RowLoops.TheVariants.{Plain}
use Rattle.loop_counts.specs.PlainRow.{plain_row}
use Rattle.loop_counts.proofs.PlainRows.{plain_says}
use Rattle.reading_rows.specs.Windows.{Window}

-- the sign of a reading is that of its grey value
pub sign_is : (xs : List Float) → Sound xs → (i t : ℕ) → i < length (greys_of xs) → t ≤ 65535 → leb t (get_or (greys_of xs) i 0) ≡ le (of_int binary32 (pos t)) (get_or xs i nan)
sign_is xs sound i t h l =
    let inside : i < length xs = omega (arith, greys_length xs) in
    ap (leb t) (greys_at xs i inside) ∙ reading_sign (get_or xs i nan) t l (sound i inside)

-- a window that was filled
pub window_filled : (xs : List Float) (b w : List ℕ) → w ≡ over (greys_of xs) b → length w ≡ 512 → Window xs w
unfolding over
window_filled xs b w e l = record {
  long = l;
  front = ap (take (length xs)) e ∙ take_at (greys_of xs) (drop (length (greys_of xs)) b) (length xs) (greys_length xs);
}

-- what is lent of it
pub window_lent : {xs : List Float} {w : List ℕ} (n : ℕ) → Window xs w → n ≡ length xs → take (n - 0) (drop 0 w) ≡ greys_of xs
window_lent {xs} {w} n f e = ap (λ (m : ℕ). take m w) (sub-zero n ∙ e) ∙ f.front

-- what is so of both windows as they are lent
pub windows_as : (P : List ℕ → List ℕ → Type 0) {lo lo' hi hi' : List ℕ} → lo ≡ lo' → hi ≡ hi' → P lo' hi' → P lo hi
windows_as P {lo} {lo'} {hi} {hi'} e f h = subst (λ (l : List ℕ). P l hi) (sym e) (subst (λ (l : List ℕ). P lo' l) (sym f) h)

-- the readings of a window
module _ (low high : List Float) {cut : Cut} {a b : List ℕ} {nx j : ℕ} (ready : RowReady (greys_of low) (greys_of high) cut a b nx j) where
  pub low_long : length low ≡ 2 * nx
  low_long = sym (greys_length low) ∙ ready.low_long

  pub high_long : length high ≡ 2 * nx
  high_long = sym (greys_length high) ∙ ready.high_long

  -- a row that is plain has as many loops as it was said to have
  pub plain_few : (v : ℕ) → plain_row a b nx j ≡ Plain v → (v ≡ length (row_masks loops_of (greys_of low) (greys_of high) cut nx)) × (v ≤ 1020)
  plain_few v e =
      let is = plain_says ready v e in
      (is, omega (arith, is, row_count_le loops_of (greys_of low) (greys_of high) cut nx ((cube_laws joined).four cut), ready.long))
