-- A row of cubes, word by word: the loops of one word more.
-- Assumes nothing.
use Prim.Native.Nat.{ℕ, ◌+◌, ◌*◌, ◌-◌, ◌≤◌, ◌<◌}
use mathlib.Core.Path.{◌≡◌, ap, ◌∙◌}
use mathlib.Core.List.{List, ◌++◌}
use native.Mathlib.Omega.{arith}
use lib.Bits.{bit_and}
use lib.ListN.{length, length-append}
use Rattle.laws.specs.Below.{below}
use Rattle.laws.proofs.Below.{below_add, at_most}
use Rattle.block.specs.declared.Cut.{Cut}
use Rattle.cube_rule.specs.Laws.{CubeLaws}
use Rattle.cube_rule.specs.Links.{Decider}
use Rattle.planes.specs.Planes.{eight_of, active_of, limit_of}
use Rattle.signs.specs.Windows.{window_corners}
use Rattle.rows.specs.Rows.{loops_at, word_loops, WordReady, row_masks, RowReady}
use Rattle.rows.proofs.Words.{up_to, up_to_all, up_to_word, word_ready, loops_word}

-- the names that the code has for a row's word: the eight words, the active bits, and the limit
pub record WordTold (a b : List ℕ) (nx j w : ℕ) (eight : List ℕ) (active limit : ℕ) : Type 0 where
  pub eight_is : eight ≡ eight_of a b (5 * j + w)
  pub active_is : active ≡ active_of eight
  pub limit_is : limit ≡ limit_of (nx - 1) w

module _ (loops_of : Cut → List ℕ → List ℕ) (lo hi : List ℕ) (cut : Cut) (nx : ℕ) where
  -- the masks of the row's cubes before x
  abbrev pub masks_to : ℕ → List ℕ
  masks_to x = below (up_to (nx - 1) (loops_at loops_of lo hi cut nx)) x

  -- no more than all
  pub masks_le : (x : ℕ) → length (masks_to x) ≤ length (row_masks loops_of lo hi cut nx)
  masks_le x =
      omega (
        arith,
        ap length (below_add f x (nx - 1)),
        length-append (below f x) (below (λ (y : ℕ). f (x + y)) (nx - 1)),
        ap length (up_to_all (nx - 1) (loops_at loops_of lo hi cut nx) (x + (nx - 1)) (omega arith)),
      )
    where
      f : ℕ → List ℕ
      f = up_to (nx - 1) (loops_at loops_of lo hi cut nx)

  -- all of them
  pub count_end : (w : ℕ) → nx - 1 ≤ 64 * w → length (masks_to (64 * w)) ≡ length (row_masks loops_of lo hi cut nx)
  count_end w h = ap length (up_to_all (nx - 1) (loops_at loops_of lo hi cut nx) (64 * w) h)

  pub row_count_le : ((cs : List ℕ) → length (loops_of cut cs) ≤ 4) → length (row_masks loops_of lo hi cut nx) ≤ 4 * (nx - 1)
  row_count_le four = at_most (loops_at loops_of lo hi cut nx) 4 (nx - 1) (λ m l. four (window_corners nx lo hi m))

module _ {D : Decider} {loops_of : Cut → List ℕ → List ℕ} (laws : CubeLaws D loops_of) {lo hi : List ℕ} {cut : Cut} {a b : List ℕ} {nx j : ℕ} (ready : RowReady lo hi cut a b nx j) (w : ℕ) (hw : w < 4)
    {eight : List ℕ} {active limit : ℕ} (t : WordTold a b nx j w eight active limit) where
  pub told_ready : WordReady lo hi cut nx (64 * w) eight (bit_and active limit)
  told_ready = rw (t.limit_is, t.active_is, t.eight_is) (word_ready ready w hw)

  pub act_is : bit_and active limit ≡ bit_and (active_of (eight_of a b (5 * j + w))) (limit_of (nx - 1) w)
  act_is = rw (t.limit_is, t.active_is, t.eight_is)

  told_loops : word_loops loops_of lo hi cut nx (bit_and active limit) (64 * w) ≡ below (λ (x : ℕ). up_to (nx - 1) (loops_at loops_of lo hi cut nx) (64 * w + x)) 64
  told_loops = rw act_is (loops_word laws ready w hw)

  -- one word more: its loops
  pub word_more : masks_to loops_of lo hi cut nx (64 * (w + 1)) ≡ masks_to loops_of lo hi cut nx (64 * w) ++ word_loops loops_of lo hi cut nx (bit_and active limit) (64 * w)
  word_more = up_to_word (nx - 1) (loops_at loops_of lo hi cut nx) w ∙ rw told_loops

  pub counted_word : (m r : ℕ) → m ≡ length (masks_to loops_of lo hi cut nx (64 * w)) → r ≡ length (word_loops loops_of lo hi cut nx (bit_and active limit) (64 * w))
      → m + r ≡ length (masks_to loops_of lo hi cut nx (64 * (w + 1)))
  counted_word m r p q = rw (word_more, length-append) (omega arith)
