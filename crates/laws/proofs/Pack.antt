-- The laws of words of bits: every operation on words is an operation on their bits.
-- Assumes nothing.
use mathlib.Core.Path.{◌≡◌, refl, ap, ap₂, ◌∙◌, subst}
use mathlib.Core.Bool.{Bool}
use Prim.Native.Nat.{ℕ, zero, suc, ◌+◌, ◌-◌, ◌*◌, ◌/◌, ◌%◌, ◌^◌, ◌≤◌, ◌<◌}
use native.Mathlib.Nat.{add-zero, add-suc, add-mul, mul_assoc, mul_comm, mul-one, one-mul, zero-mul, pow-suc, mul-le-mul_left, mul-le-mul_right}
use native.Mathlib.Numerals.{add-one}
use native.Mathlib.Omega.{arith}
use native.Mathlib.Decide.{dec_lt}
use lib.Bits.{bit_and, bit_or, bit_xor, and_block, xor_block, and_lt, xor_lt, or_add_and, xor_add_and, and_le_l, and_le_r, or_shifted_r}
use lib.Count.{ones, ones_cat, ones_step}
use lib.Pow.{ones_split, ones_lt, pow_pos, pow-add, high, low, shl_exact}
use Rattle.laws.specs.Bits.{bit, mask_of}
use Rattle.laws.specs.Counting.{total}
use Rattle.laws.specs.Pack.{pack}

-- ---- the word of the bits of f

pub pack_none : (f : ℕ → ℕ) → pack f 0 ≡ 0
unfolding pack
pack_none f = refl

-- one bit more
pub pack_one : (f : ℕ → ℕ) (n : ℕ) → pack f (n + 1) ≡ f n * 2 ^ n + pack f n
unfolding pack
pack_one f n = rw (add-one n)

pub pack_lt : (f : ℕ → ℕ) → ((i : ℕ) → f i ≤ 1) → (n : ℕ) → pack f n < 2 ^ n
unfolding pack
pack_lt f b zero = omega arith
pack_lt f b (suc n) = omega (arith, pow-suc 2 n, mul-le-mul_right (2 ^ n) (b n), pack_lt f b n)

-- equal bits, equal words
pub pack_cong : (f g : ℕ → ℕ) (n : ℕ) → ((i : ℕ) → i < n → f i ≡ g i) → pack f n ≡ pack g n
unfolding pack
pack_cong f g zero e = refl
pack_cong f g (suc n) e = rw (e n (omega arith), pack_cong f g n (λ i h. e i (omega arith)))

-- a word's high bits and its low bits
pub pack_split : (f : ℕ → ℕ) (m k : ℕ) → pack f (m + k) ≡ pack (λ j. f (m + j)) k * 2 ^ m + pack f m
unfolding pack
pack_split f m zero = rw (add-zero m) (omega arith)
pack_split f m (suc k) =
    rw (add-suc m k, pack_split f m k, pow-add 2 m k, add-mul (f (m + k) * 2 ^ k) (pack (λ j. f (m + j)) k) (2 ^ m))
    (omega (arith, mul_assoc (f (m + k)) (2 ^ k) (2 ^ m), ap (λ (x : ℕ). f (m + k) * x) (mul_comm (2 ^ k) (2 ^ m))))

pub pack_high : (f : ℕ → ℕ) → ((i : ℕ) → f i ≤ 1) → (m k : ℕ) → pack f (m + k) / 2 ^ m ≡ pack (λ j. f (m + j)) k
pack_high f b m k = rw (pack_split f m k) (high (pack (λ j. f (m + j)) k) m (pack_lt f b m))

pub pack_low : (f : ℕ → ℕ) → ((i : ℕ) → f i ≤ 1) → (m k : ℕ) → pack f (m + k) % 2 ^ m ≡ pack f m
pack_low f b m k = rw (pack_split f m k) (low (pack (λ j. f (m + j)) k) m (pack_lt f b m))

-- zeros on top change nothing
pub pack_more : (f : ℕ → ℕ) (m k : ℕ) → ((i : ℕ) → m ≤ i → i < m + k → f i ≡ 0) → pack f (m + k) ≡ pack f m
unfolding pack
pack_more f m zero e = rw (add-zero m)
pack_more f m (suc k) e =
    rw (add-suc m k, e (m + k) (omega arith) (omega arith), zero-mul (2 ^ (m + k)))
    (omega (arith, pack_more f m k (λ i a b. e i a (omega arith))))

-- a word that is 0 has no bit set
pub pack_zero : (f : ℕ → ℕ) (n : ℕ) → pack f n ≡ 0 → (i : ℕ) → i < n → f i ≡ 0
unfolding pack
pack_zero f zero e i h = absurd (omega arith)
pack_zero f (suc n) e i h = elim (dec_lt i n) [ yes p ↦ pack_zero f n (omega arith) i p | no q ↦ subst (λ (k : ℕ). f k ≡ 0) (here q) last ]
  where
    here : (i < n → ⊥) → n ≡ i
    here q = omega arith

    last : f n ≡ 0
    last = omega (arith, mul-le-mul_left (f n) (pow_pos n), mul-one (f n))

-- ones in the n lowest places, and nowhere else
pub pack_full : (f : ℕ → ℕ) (n : ℕ) → ((i : ℕ) → i < n → f i ≡ 1) → pack f n ≡ 2 ^ n - 1
unfolding pack
pack_full f zero e = refl
pack_full f (suc n) e =
    rw (e n (omega arith), one-mul (2 ^ n), pack_full f n (λ i h. e i (omega arith)))
    (omega (arith, pow-suc 2 n, pow_pos n))

-- a mask made by a test is the word of its answers
pub pack_mask : (p : ℕ → Bool) (n : ℕ) → pack (λ i. bit (p i)) n ≡ mask_of p n
unfolding pack mask_of
pack_mask p zero = refl
pack_mask p (suc n) = rw (pack_mask p n) (omega arith)

-- ---- operations on two words

module _ (op : ℕ → ℕ → ℕ) (op0 : op 0 0 ≡ 0)
    (block : (k a b r s : ℕ) → r < 2 ^ k → s < 2 ^ k → op (a * 2 ^ k + r) (b * 2 ^ k + s) ≡ op a b * 2 ^ k + op r s) where
  pack_op : (f g : ℕ → ℕ) → ((i : ℕ) → f i ≤ 1) → ((i : ℕ) → g i ≤ 1) → (n : ℕ) → op (pack f n) (pack g n) ≡ pack (λ i. op (f i) (g i)) n
  unfolding pack
  pack_op f g bf bg zero = op0
  pack_op f g bf bg (suc n) =
      block n (f n) (g n) (pack f n) (pack g n) (pack_lt f bf n) (pack_lt g bg n)
      ∙ ap (λ (x : ℕ). op (f n) (g n) * 2 ^ n + x) (pack_op f g bf bg n)

pub pack_and : (f g : ℕ → ℕ) → ((i : ℕ) → f i ≤ 1) → ((i : ℕ) → g i ≤ 1) → (n : ℕ)
    → bit_and (pack f n) (pack g n) ≡ pack (λ i. bit_and (f i) (g i)) n
pack_and = pack_op bit_and refl and_block

pub pack_xor : (f g : ℕ → ℕ) → ((i : ℕ) → f i ≤ 1) → ((i : ℕ) → g i ≤ 1) → (n : ℕ)
    → bit_xor (pack f n) (pack g n) ≡ pack (λ i. bit_xor (f i) (g i)) n
pack_xor = pack_op bit_xor refl xor_block

pub and_bit : (a b : ℕ) → a ≤ 1 → b ≤ 1 → bit_and a b ≤ 1
and_bit a b ha hb = omega (arith, and_lt 1 a b (omega arith) (omega arith))

pub xor_bit : (a b : ℕ) → a ≤ 1 → b ≤ 1 → bit_xor a b ≤ 1
xor_bit a b ha hb = omega (arith, xor_lt 1 a b (omega arith) (omega arith))

-- `or` is 0 only of zeros, `xor` only of equals: whole words too
pub or_none : (a b : ℕ) → bit_or a b ≡ 0 → (a ≡ 0) × (b ≡ 0)
or_none a b e = (omega (arith, or_add_and a b, and_le_l a b, and_le_r a b), omega (arith, or_add_and a b, and_le_l a b, and_le_r a b))

pub xor_none : (a b : ℕ) → bit_xor a b ≡ 0 → a ≡ b
xor_none a b e = omega (arith, xor_add_and a b, and_le_l a b, and_le_r a b)

-- ---- shifts, masks and counts

-- the next bit is put into a number of w bits by a shift and an `or`
pub pack_put : (f : ℕ → ℕ) → ((i : ℕ) → f i ≤ 1) → (n w : ℕ) → n < w → bit_or (pack f n) (f n * 2 ^ n % 2 ^ w) ≡ pack f (n + 1)
pack_put f b n w h =
    rw (shl_exact 1 n w (bound (b n)) (omega arith), pack_one f n) (or_shifted_r (f n) n (pack f n) (pack_lt f b n))
  where
    bound : {a : ℕ} → a ≤ 1 → a < 2
    bound q = omega arith

-- a word of 64 ones, shifted until n are left
pub ones_shr : (n : ℕ) → n ≤ 64 → 18446744073709551615 / 2 ^ (64 - n) ≡ 2 ^ n - 1
ones_shr n h =
    ap (λ (x : ℕ). x / 2 ^ (64 - n)) (ap (λ (x : ℕ). 2 ^ x - 1) all ∙ ones_split n (64 - n))
    ∙ high (2 ^ n - 1) (64 - n) (ones_lt (64 - n))
  where
    all : 64 ≡ n + (64 - n)
    all = omega arith

-- a count of ones is the sum of the bits
bit_ones : (a : ℕ) → a ≤ 1 → ones a ≡ a
unfolding ones
bit_ones zero h = refl
bit_ones (suc zero) h = ones_step 1
bit_ones (suc (suc a)) h = absurd (omega arith)

pub pack_ones : (f : ℕ → ℕ) → ((i : ℕ) → f i ≤ 1) → (n : ℕ) → ones (pack f n) ≡ total f n
unfolding pack total ones
pack_ones f b zero = ones_step 0
pack_ones f b (suc n) =
    ones_cat n (f n) (pack f n) (pack_lt f b n) ∙ ap₂ (λ (x y : ℕ). x + y) (bit_ones (f n) (b n)) (pack_ones f b n)
