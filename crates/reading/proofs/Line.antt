-- A line of n digits: what is right in a column, and where a loop finds the first wrong byte.
-- Assumes nothing.
use Prim.Native.Nat.{ℕ, ◌+◌, ◌≤◌, ◌<◌}
use mathlib.Core.Path.{◌≡◌, sym, ap, ◌∙◌}
use mathlib.Core.Bool.{Bool, false}
use mathlib.Core.List.{List}
use native.Mathlib.Omega.{arith}
use lib.Dec.{eqb}
use borrow.Author.Tests.{lt-ltb, le-ltb}
use Rattle.laws.proofs.Leading.{HoldsTo, leading_le, leading_at, leading_all}
use Rattle.reading.specs.Text.{LF, read_at, is_digit, right_byte, right_bytes}

module _ (n c b : ℕ) where
  pub right_digit : c < n → right_byte n c b ≡ is_digit b
  right_digit h = rw (lt-ltb c n h)

  pub right_end : n ≤ c → right_byte n c b ≡ eqb b LF
  right_end h = rw (le-ltb c n h)

module _ (bytes : List ℕ) (p n : ℕ) where
  abbrev pub right_at : ℕ → Bool
  right_at c = right_byte n c (read_at bytes (p + c))

  -- what the code found in a column
  pub found_in : (c b : ℕ) (r t : Bool) → b ≡ read_at bytes (p + c) → r ≡ right_byte n c b → r ≡ t → right_at c ≡ t
  found_in c b r t e h k = ap (right_byte n c) (sym e) ∙ sym h ∙ k

  pub wrong_at : (c : ℕ) → c ≤ n → HoldsTo right_at c → right_at c ≡ false → c ≡ right_bytes bytes p n
  unfolding right_bytes
  wrong_at c h a e = sym (leading_at right_at (n + 1) c (omega arith) a e)

  pub all_right : (c : ℕ) → c ≡ n + 1 → HoldsTo right_at c → c ≡ right_bytes bytes p n
  unfolding right_bytes
  all_right c h a = h ∙ sym (leading_all right_at (n + 1) (rw h at a))

  pub right_most : right_bytes bytes p n ≤ n + 1
  unfolding right_bytes
  right_most = leading_le right_at (n + 1)
