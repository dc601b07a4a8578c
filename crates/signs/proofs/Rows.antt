-- The words of a row: from the bytes of its signs, and inside and past its end.
-- Assumes nothing.
use mathlib.Core.Path.{◌≡◌, refl, sym, ◌∙◌}
use mathlib.Core.Bool.{◌&&◌}
use mathlib.Core.List.{List}
use Prim.Native.Nat.{ℕ, ◌+◌, ◌*◌, ◌≤◌, ◌<◌}
use native.Mathlib.Nat.{mul-add, mul-one, mul-le-mul_left}
use native.Mathlib.Omega.{arith}
use borrow.Author.Tests.{lt-ltb, le-ltb}
use Rattle.std.proofs.lemmas.Grind.{common_steps}
use lib.Dec.{ltb}
use lib.ListN.{get_or, replicate}
use Rattle.laws.specs.Bits.{bit}
use Rattle.laws.specs.Pack.{pack}
use Rattle.laws.proofs.Bits.{bit_le}
use Rattle.laws.proofs.Index.{pair_lt}
use Rattle.laws.proofs.Pack.{pack_none, pack_more, pack_cong}
use Rattle.block.specs.declared.Cut.{Cut}
use Rattle.block.specs.declared.Size.{Size}
use Rattle.mesh_rule.specs.Grid.{metal}
use Rattle.signs.specs.Signs.{row_sign}
use Rattle.signs.specs.Steps.{sign_byte, SignBytes, words_of, row_from, words_from}

module _ (n : Size) (s : List ℕ) (cut : Cut) (j k : ℕ) where
  pub row_bit : (x : ℕ) → row_sign n s cut j k x ≤ 1
  unfolding row_sign
  row_bit x = bit_le (ltb x n.nx && metal n s cut x j k)

  pub row_in : (x : ℕ) → x < n.nx → row_sign n s cut j k x ≡ bit (metal n s cut x j k)
  unfolding row_sign
  row_in x h = simp (lt-ltb x n.nx h)

-- a row of samples, the first with the index base
module _ (s : List ℕ) (t base : ℕ) where
  -- no byte yet
  pub bytes_none : (n : ℕ) → SignBytes s t base 0 (replicate n 0)
  bytes_none n x = grind (arith, common_steps)

  -- the bits of word w, from the bytes of the whole row
  row_gathered : (nx : ℕ) (bytes : List ℕ) (w : ℕ) → SignBytes s t base nx bytes → pack (λ (i : ℕ). get_or bytes (64 * w + i) 0) 64 ≡ row_from s t base nx w
  unfolding row_from
  row_gathered nx bytes w is = pack_cong _ _ 64 (λ i h. is (64 * w + i))

  -- a word past the row's end is 0
  row_past : (nx w : ℕ) → nx ≤ 64 * w → 0 ≡ row_from s t base nx w
  unfolding row_from
  row_past nx w h = sym (pack_more r 0 64 (λ i a b. past i) ∙ pack_none r)
    where
      r : ℕ → ℕ
      r = λ i. sign_byte s t base nx (64 * w + i)

      past : (i : ℕ) → r i ≡ 0
      past i = simp (le-ltb (64 * w + i) nx (omega arith))

  -- the five words of a row of at most 256 samples
  pub words_from_lem : (nx : ℕ) (bytes : List ℕ) → nx ≤ 256 → SignBytes s t base nx bytes → words_of bytes ≡ words_from s t base nx
  words_from_lem nx bytes h is = rw (row_gathered nx bytes 0 is, row_gathered nx bytes 1 is, row_gathered nx bytes 2 is, row_gathered nx bytes 3 is) (rw (← row_past nx 4 (omega arith)) refl)

-- a row of plane k is inside the samples
pub row_room : (nx ny nz j k : ℕ) → j < ny → k < nz → nx * (j + ny * k) + nx ≤ nx * (ny * nz)
row_room nx ny nz j k hj hk = omega (arith, rw (mul-add, mul-one) at (mul-le-mul_left nx (next (pair_lt ny nz j k hj hk))))
  where
    next : {a b : ℕ} → a < b → a + 1 ≤ b
    next h = omega arith
