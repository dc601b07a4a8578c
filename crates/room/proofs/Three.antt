-- The ones of three words together, by a word of sums and a word of carries.
-- Assumes nothing.
use Prim.Native.Nat.{ℕ, ◌+◌, ◌*◌, ◌^◌, ◌<◌}
use mathlib.Core.Path.{◌≡◌, refl}
use mathlib.Core.Bool.{Bool, true, false}
use native.Mathlib.Omega.{arith}
use lib.Bits.{bit_and, bit_xor}
use lib.Count.{ones}
use Rattle.laws.specs.Bits.{bit, holds}
use Rattle.laws.specs.Counting.{total}
use Rattle.laws.proofs.Bits.{bit_le}
use Rattle.laws.proofs.Sums.{total_same, total_plus, total_times}
use Rattle.laws.proofs.Words.{Word, word_and, word_xor, word_same, word_of, word_ones, digit_holds}

-- three bits are their sum and twice their carry
three_bits : (p q r : Bool)
    → bit_xor (bit_xor (bit p) (bit q)) (bit r) + 2 * bit_xor (bit_and (bit p) (bit q)) (bit_and (bit_xor (bit p) (bit q)) (bit r)) ≡ bit p + bit q + bit r
three_bits true true true = refl
three_bits true true false = refl
three_bits true false true = refl
three_bits true false false = refl
three_bits false true true = refl
three_bits false true false = refl
three_bits false false true = refl
three_bits false false false = refl

-- a word by the bits that it holds
held : (x : ℕ) → x < 2 ^ 64 → Word x (λ i. bit (holds x i)) 64
held x h = word_same (λ (i : ℕ). bit (holds x i)) (word_of x 64 h) (λ i. bit_le (holds x i)) (λ i _. digit_holds x i)

module _ (x y z : ℕ) (hx : x < 2 ^ 64) (hy : y < 2 ^ 64) (hz : z < 2 ^ 64) where
  abbrev sum : ℕ → ℕ
  sum i = bit_xor (bit_xor (bit (holds x i)) (bit (holds y i))) (bit (holds z i))

  abbrev carry : ℕ → ℕ
  carry i = bit_xor (bit_and (bit (holds x i)) (bit (holds y i))) (bit_and (bit_xor (bit (holds x i)) (bit (holds y i))) (bit (holds z i)))

  pub three_words : ones (bit_xor (bit_xor x y) z) + 2 * ones (bit_xor (bit_and x y) (bit_and (bit_xor x y) z)) ≡ ones x + ones y + ones z
  three_words =
      omega (
        arith,
        word_ones (word_xor (word_xor (held x hx) (held y hy)) (held z hz)),
        word_ones (word_xor (word_and (held x hx) (held y hy)) (word_and (word_xor (held x hx) (held y hy)) (held z hz))),
        word_ones (held x hx),
        word_ones (held y hy),
        word_ones (held z hz),
        total_plus sum (λ (i : ℕ). 2 * carry i) 64,
        total_times 2 carry 64,
        total_same (λ (i : ℕ). sum i + 2 * carry i) (λ (i : ℕ). bit (holds x i) + bit (holds y i) + bit (holds z i)) 64 (λ i _. three_bits (holds x i) (holds y i) (holds z i)),
        total_plus (λ (i : ℕ). bit (holds x i) + bit (holds y i)) (λ (i : ℕ). bit (holds z i)) 64,
        total_plus (λ (i : ℕ). bit (holds x i)) (λ (i : ℕ). bit (holds y i)) 64,
      )
