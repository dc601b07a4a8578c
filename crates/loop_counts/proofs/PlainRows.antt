-- A row whose active cubes are all plain has as many loops as active cubes. Assumes nothing.
use Prim.Native.Nat.{ℕ, zero, suc, ◌+◌, ◌*◌, ◌-◌, ◌^◌, ◌≤◌, ◌<◌}
use mathlib.Core.Path.{◌≡◌, refl, ap, sym, ◌∙◌}
use mathlib.Core.Bool.{Bool, true, false, cond}
use mathlib.Core.List.{List}
use native.Mathlib.Nat.{add_comm}
use native.Mathlib.Numerals.{add-one}
use native.Mathlib.Omega.{arith}
use borrow.Author.Tests.{eqb-true, eq-eqb}
use lib.Bits.{bit_and, and_le_r, and_zero_l}
use lib.Count.{ones}
use lib.Dec.{ltb}
use lib.ListN.{length}
use Rattle.laws.specs.Below.{below}
use Rattle.laws.specs.Bits.{bit}
use Rattle.laws.specs.Counting.{total}
use Rattle.laws.proofs.Bits.{bit_le}
use Rattle.laws.proofs.Pack.{pack_lt}
use Rattle.block.specs.declared.Cut.{Cut}
use Rattle.cube_rule.specs.Decider.{joined, loops_of}
use Rattle.cube_rule.proofs.Laws.{cube_laws}
use Rattle.planes.specs.Planes.{eight_of, active_of, limit_of}
use Rattle.faces.specs.Faces.{plain_of}
use Rattle.rows.specs.Quiet.{active_in, words_in_row}
use Rattle.rows.specs.Rows.{row_masks, RowReady}
use Rattle.rows.proofs.Quiets.{every_at}
use Rattle.rows.proofs.Words.{word_ready}
use Rattle.rows.proofs.WordSteps.{masks_to, counted_word, count_end}
use Rattle.loop_counts.specs.declared.RowLoops.TheVariants.{Plain, Doubtful}
use Rattle.loop_counts.specs.PlainRow.{plain_word, all_plain, active_to, plain_row}
use Rattle.loop_counts.proofs.CountedWords.{plain_counted}

-- a word without a cube is plain
pub none_plain : (e : List ℕ) (act : ℕ) → act ≡ 0 → true ≡ plain_word e act
none_plain e act z = sym (eq-eqb (bit_and act (plain_of e)) act (rw (z, and_zero_l (plain_of e))))

module _ (a b : List ℕ) (nx j : ℕ) where
  pub active_start : 0 ≡ active_to a b nx j 0
  unfolding total
  active_start = refl

  -- the active cubes of one word more
  pub active_more : (w m r act : ℕ) → m ≡ active_to a b nx j w → act ≡ active_in a b nx j w → r ≡ ones act → m + r ≡ active_to a b nx j (w + 1)
  unfolding total
  active_more w m r act q at is = rw add-one (omega (arith, q, is, ap ones at))

  -- what `plain_row` answers
  pub plain_all : (m w : ℕ) → true ≡ all_plain a b nx j → m ≡ active_to a b nx j w → w ≡ words_in_row nx → Plain m ≡ plain_row a b nx j
  plain_all m w p q e = rw (← p) (ap Plain (q ∙ ap (active_to a b nx j) e))

  pub plain_doubt : false ≡ all_plain a b nx j → Doubtful ≡ plain_row a b nx j
  plain_doubt p = rw (← p)

-- ---- how many loops it has

module _ {lo hi : List ℕ} {cut : Cut} {a b : List ℕ} {nx j : ℕ} (ready : RowReady lo hi cut a b nx j) (p : all_plain a b nx j ≡ true) where
  act_small : (w : ℕ) → active_in a b nx j w < 2 ^ 64
  act_small w = less (and_le_r (active_of (eight_of a b (5 * j + w))) (limit_of (nx - 1) w)) (pack_lt (λ (i : ℕ). bit (ltb (64 * w + i) (nx - 1))) (λ i. bit_le (ltb (64 * w + i) (nx - 1))) 64)
    where
      less : {x y z : ℕ} → x ≤ y → y < z → x < z
      less h k = omega arith

  -- one word: a loop for each of its active cubes
  word_counted : (w : ℕ) → w < words_in_row nx → w < 4 → (m : ℕ) → m ≡ length (masks_to loops_of lo hi cut nx (64 * w)) → m + ones (active_in a b nx j w) ≡ length (masks_to loops_of lo hi cut nx (64 * (w + 1)))
  word_counted w h k m e =
      counted_word (cube_laws joined) ready w k (record { eight_is = refl; active_is = refl; limit_is = refl }) m (ones (active_in a b nx j w)) e
      (plain_counted (word_ready ready w k) refl (act_small w)
      (eqb-true _ _ (every_at (λ (w : ℕ). plain_word (eight_of a b (5 * j + w)) (active_in a b nx j w)) (words_in_row nx) w p h)))

  counted_to : (w : ℕ) → w ≤ words_in_row nx → active_to a b nx j w ≡ length (masks_to loops_of lo hi cut nx (64 * w))
  unfolding total below
  counted_to zero h = refl
  counted_to (suc w) h =
      add_comm (ones (active_in a b nx j w)) (active_to a b nx j w) ∙ word_counted w (omega arith) (omega (arith, ready.long)) (active_to a b nx j w) (counted_to w (omega arith))
      ∙ ap (λ (m : ℕ). length (masks_to loops_of lo hi cut nx (64 * m))) (add-one w)

  pub plain_counts : active_to a b nx j (words_in_row nx) ≡ length (row_masks loops_of lo hi cut nx)
  plain_counts = counted_to (words_in_row nx) (omega arith) ∙ count_end loops_of lo hi cut nx (words_in_row nx) (omega arith)

-- what `plain_row` says of a row is so
pub plain_says : {lo hi : List ℕ} {cut : Cut} {a b : List ℕ} {nx j : ℕ} → RowReady lo hi cut a b nx j → (v : ℕ) → plain_row a b nx j ≡ Plain v → v ≡ length (row_masks loops_of lo hi cut nx)
plain_says {lo} {hi} {cut} {a} {b} {nx} {j} ready v e = go (all_plain a b nx j) refl e
  where
    go : (t : Bool) → all_plain a b nx j ≡ t → cond t (Plain (active_to a b nx j (words_in_row nx))) Doubtful ≡ Plain v → v ≡ length (row_masks loops_of lo hi cut nx)
    go true p q = let same : v ≡ active_to a b nx j (words_in_row nx) = cc in same ∙ plain_counts ready p
    go false p q = let z : ◌≡◌ {A = ℕ} 0 1 = cc in absurd (omega arith)
