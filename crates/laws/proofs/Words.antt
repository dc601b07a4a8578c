-- A number as a word of bits: each operation's word, from its operands' words, and the single bits of a word.
-- Assumes nothing.
use mathlib.Core.Path.{◌≡◌, refl, sym, ap, ap₂, ◌∙◌}
use mathlib.Core.Bool.{Bool, true, false, ◌&&◌, ◌||◌}
use Prim.Native.Nat.{ℕ, zero, suc, ◌+◌, ◌-◌, ◌*◌, ◌/◌, ◌%◌, ◌^◌, ◌≤◌, ◌<◌}
use native.Mathlib.Nat.{add-zero, mod-one, mod-eq_of_lt}
use native.Mathlib.Omega.{arith}
use lib.Bits.{bit_and, bit_or, bit_xor, or_shifted_r, and_zero_r, and_mask, and_shr, or_shr, xor_shr, and_mod, or_mod, xor_mod}
use lib.Count.{ones}
use lib.Dec.{eqb}
use lib.Pow.{mod-pow-add}
use Rattle.laws.specs.Bits.{bit, differ, holds}
use Rattle.laws.specs.Counting.{total}
use Rattle.laws.specs.Pack.{pack}
use Rattle.laws.proofs.Bits.{bit_le}
use Rattle.laws.proofs.Pack.{pack_lt, pack_cong, pack_high, pack_low, pack_and, pack_xor, pack_ones, and_bit, xor_bit, or_none, xor_none}

-- the n bits of a are those of f
pub record Word (a : ℕ) (f : ℕ → ℕ) (n : ℕ) : Type 0 where
  pub is : a ≡ pack f n
  pub bit : (i : ℕ) → f i ≤ 1

-- ---- the word of an operation

pub word_and : {a b n : ℕ} {f g : ℕ → ℕ} → Word a f n → Word b g n → Word (bit_and a b) (λ i. bit_and (f i) (g i)) n
word_and {a} {b} {n} {f} {g} x y = record {
  is = ap₂ bit_and x.is y.is ∙ pack_and f g x.bit y.bit n;
  bit = λ i. and_bit (f i) (g i) (x.bit i) (y.bit i);
}

pub word_xor : {a b n : ℕ} {f g : ℕ → ℕ} → Word a f n → Word b g n → Word (bit_xor a b) (λ i. bit_xor (f i) (g i)) n
word_xor {a} {b} {n} {f} {g} x y = record {
  is = ap₂ bit_xor x.is y.is ∙ pack_xor f g x.bit y.bit n;
  bit = λ i. xor_bit (f i) (g i) (x.bit i) (y.bit i);
}

pub word_low : {a n : ℕ} {f : ℕ → ℕ} (m : ℕ) → Word a f n → m ≤ n → Word (a % 2 ^ m) f m
word_low {a} {n} {f} m x h = record {
  is = ap (λ (y : ℕ). y % 2 ^ m) (x.is ∙ ap (pack f) all) ∙ pack_low f x.bit m (n - m);
  bit = x.bit;
}
  where
    all : n ≡ m + (n - m)
    all = omega arith

pub word_high : {a n : ℕ} {f : ℕ → ℕ} (m : ℕ) → Word a f n → m ≤ n → Word (a / 2 ^ m) (λ i. f (m + i)) (n - m)
word_high {a} {n} {f} m x h = record {
  is = ap (λ (y : ℕ). y / 2 ^ m) (x.is ∙ ap (pack f) all) ∙ pack_high f x.bit m (n - m);
  bit = λ i. x.bit (m + i);
}
  where
    all : n ≡ m + (n - m)
    all = omega arith

-- the same bits, told in another way
pub word_same : {a n : ℕ} {f : ℕ → ℕ} (g : ℕ → ℕ) → Word a f n → ((i : ℕ) → g i ≤ 1) → ((i : ℕ) → i < n → f i ≡ g i) → Word a g n
word_same {a} {n} {f} g x b e = record { is = x.is ∙ pack_cong f g n e; bit = b }

-- one place further on, the next word's lowest bit on top
pub word_further : {lo hi : ℕ} {f g : ℕ → ℕ} → Word lo f 64 → Word hi g 64 → f 64 ≡ g 0 → Word (bit_or (lo / 2) (hi % 2 * 2 ^ 63)) (λ i. f (1 + i)) 64
unfolding pack
word_further {lo} {hi} {f} {g} x y e = record {
  is =
      ap₂ (λ (p q : ℕ). bit_or p (q * 2 ^ 63)) (word_high 1 x (omega arith)).is ((word_low 1 y (omega arith)).is ∙ one)
      ∙ or_shifted_r (g 0) 63 (pack (λ i. f (1 + i)) 63) (pack_lt (λ i. f (1 + i)) (λ i. x.bit (1 + i)) 63)
      ∙ ap (λ (z : ℕ). z * 2 ^ 63 + pack (λ i. f (1 + i)) 63) (sym e);
  bit = λ i. x.bit (1 + i);
}
  where
    one : g 0 * 2 ^ 0 + 0 ≡ g 0
    one = omega arith

-- the count of its ones
pub word_ones : {a n : ℕ} {f : ℕ → ℕ} → Word a f n → ones a ≡ total f n
word_ones {a} {n} {f} x = ap ones x.is ∙ pack_ones f x.bit n

-- ---- single bits

-- each bit of a word
pub word_bit : {a n : ℕ} {f : ℕ → ℕ} → Word a f n → (i : ℕ) → i < n → a / 2 ^ i % 2 ≡ f i
unfolding pack
word_bit {a} {n} {f} x i h = (word_low 1 (word_high i x (omega arith)) (omega arith)).is ∙ omega (arith, ap f (add-zero i))

-- every number is the word of its own bits
pub low_bits : (a n : ℕ) → pack (λ i. a / 2 ^ i % 2) n ≡ a % 2 ^ n
unfolding pack
low_bits a zero = sym (mod-one a)
low_bits a (suc n) = ap (λ (x : ℕ). a / 2 ^ n % 2 * 2 ^ n + x) (low_bits a n) ∙ sym (mod-pow-add a 1 n) ∙ ap (λ (x : ℕ). a % 2 ^ x) one
  where
    one : 1 + n ≡ suc n
    one = omega arith

pub word_of : (a n : ℕ) → a < 2 ^ n → Word a (λ i. a / 2 ^ i % 2) n
word_of a n h = record { is = sym (low_bits a n ∙ mod-eq_of_lt h); bit = λ i. omega arith }

-- the bit of an operation
pub or_digit : (a b i : ℕ) → bit_or a b / 2 ^ i % 2 ≡ bit_or (a / 2 ^ i % 2) (b / 2 ^ i % 2)
or_digit a b i = ap (λ (x : ℕ). x % 2) (or_shr a b i) ∙ or_mod (a / 2 ^ i) (b / 2 ^ i) 1

pub and_digit : (a b i : ℕ) → bit_and a b / 2 ^ i % 2 ≡ bit_and (a / 2 ^ i % 2) (b / 2 ^ i % 2)
and_digit a b i = ap (λ (x : ℕ). x % 2) (and_shr a b i) ∙ and_mod (a / 2 ^ i) (b / 2 ^ i) 1

pub xor_digit : (a b i : ℕ) → bit_xor a b / 2 ^ i % 2 ≡ bit_xor (a / 2 ^ i % 2) (b / 2 ^ i % 2)
xor_digit a b i = ap (λ (x : ℕ). x % 2) (xor_shr a b i) ∙ xor_mod (a / 2 ^ i) (b / 2 ^ i) 1

-- where the bit of an `or` is 0 both are, and where that of a `xor` is 0 they are equal
pub or_quiet : (a b i : ℕ) → bit_or a b / 2 ^ i % 2 ≡ 0 → (a / 2 ^ i % 2 ≡ 0) × (b / 2 ^ i % 2 ≡ 0)
or_quiet a b i e = or_none (a / 2 ^ i % 2) (b / 2 ^ i % 2) (sym (or_digit a b i) ∙ e)

pub xor_quiet : (a b i : ℕ) → bit_xor a b / 2 ^ i % 2 ≡ 0 → a / 2 ^ i % 2 ≡ b / 2 ^ i % 2
xor_quiet a b i e = xor_none (a / 2 ^ i % 2) (b / 2 ^ i % 2) (sym (xor_digit a b i) ∙ e)

-- ---- bits that stand for tests

pub bit_same : (a b : Bool) → bit a ≡ bit b → a ≡ b
bit_same true true e = refl
bit_same false false e = refl
bit_same true false e = absurd (omega arith)
bit_same false true e = absurd (omega arith)

pub xor_tests : (a b : Bool) → bit_xor (bit a) (bit b) ≡ bit (differ a b)
xor_tests true true = refl
xor_tests true false = refl
xor_tests false true = refl
xor_tests false false = refl

pub and_tests : (a b : Bool) → bit_and (bit a) (bit b) ≡ bit (a && b)
and_tests true true = refl
and_tests true false = refl
and_tests false true = refl
and_tests false false = refl

-- a bit is 1 where the number holds its place
digit_one : (d : ℕ) → d < 2 → d ≡ bit (eqb d 1)
digit_one zero h = refl
digit_one (suc zero) h = refl
digit_one (suc (suc d)) h = absurd (omega arith)

pub digit_holds : (a i : ℕ) → a / 2 ^ i % 2 ≡ bit (holds a i)
digit_holds a i = digit_one (a / 2 ^ i % 2) (small (a / 2 ^ i))
  where
    small : (x : ℕ) → x % 2 < 2
    small x = omega arith

-- a test of the bits of two numbers, told by their bits
by_tests : (op : ℕ → ℕ → ℕ) (test : Bool → Bool → Bool) → ((x y : Bool) → op (bit x) (bit y) ≡ bit (test x y)) → (a b i c : ℕ)
    → c / 2 ^ i % 2 ≡ op (a / 2 ^ i % 2) (b / 2 ^ i % 2) → holds c i ≡ test (holds a i) (holds b i)
by_tests op test e a b i c d =
    bit_same (holds c i) (test (holds a i) (holds b i)) (sym (digit_holds c i) ∙ d ∙ ap₂ op (digit_holds a i) (digit_holds b i) ∙ e (holds a i) (holds b i))

or_tests : (a b : Bool) → bit_or (bit a) (bit b) ≡ bit (a || b)
or_tests true true = refl
or_tests true false = refl
or_tests false true = refl
or_tests false false = refl

pub or_holds : (a b i : ℕ) → holds (bit_or a b) i ≡ (holds a i || holds b i)
or_holds a b i = by_tests bit_or ◌||◌ or_tests a b i (bit_or a b) (or_digit a b i)

pub xor_holds : (a b i : ℕ) → holds (bit_xor a b) i ≡ differ (holds a i) (holds b i)
xor_holds a b i = by_tests bit_xor differ xor_tests a b i (bit_xor a b) (xor_digit a b i)

pub and_holds : (a b i : ℕ) → holds (bit_and a b) i ≡ (holds a i && holds b i)
and_holds a b i = by_tests bit_and ◌&&◌ and_tests a b i (bit_and a b) (and_digit a b i)

-- the word of a test
pub word_tests : (p : ℕ → Bool) (n : ℕ) → Word (pack (λ i. bit (p i)) n) (λ i. bit (p i)) n
word_tests p n = record { is = refl; bit = λ i. bit_le (p i) }

-- ---- a word under a mask

-- the bits that pass both tests
pub word_under : {a n : ℕ} (p q : ℕ → Bool) → Word a (λ i. bit (p i)) n → Word (bit_and a (pack (λ i. bit (q i)) n)) (λ i. bit (p i && q i)) n
word_under {a} {n} p q x =
    word_same (λ i. bit (p i && q i)) (word_and x (word_tests q n)) (λ i. bit_le (p i && q i)) (λ i h. and_tests (p i) (q i))

-- the bits under the mask are all that has to be known
pub word_masked : {a n : ℕ} {f : ℕ → ℕ} (q p : ℕ → Bool) → Word a f n → ((i : ℕ) → i < n → q i ≡ true → f i ≡ bit (p i))
    → Word (bit_and a (pack (λ i. bit (q i)) n)) (λ i. bit (q i && p i)) n
word_masked {a} {n} {f} q p x e =
    word_same (λ i. bit (q i && p i)) (word_and x (word_tests q n)) (λ i. bit_le (q i && p i)) (λ i h. go i (q i) (e i h))
  where
    go : (i : ℕ) (b : Bool) → (b ≡ true → f i ≡ bit (p i)) → bit_and (f i) (bit b) ≡ bit (b && p i)
    go i true e = ap (λ (d : ℕ). bit_and d 1) (e refl) ∙ one (p i)
      where
        one : (b : Bool) → bit_and (bit b) 1 ≡ bit b
        one true = refl
        one false = refl
    go i false e = and_zero_r (f i)

-- a single bit under a mask
pub mask_keeps : (q : ℕ → Bool) (n a i : ℕ) → i < n → q i ≡ true → bit_and a (pack (λ i. bit (q i)) n) / 2 ^ i % 2 ≡ a / 2 ^ i % 2
mask_keeps q n a i h e =
    and_digit a (pack (λ i. bit (q i)) n) i
    ∙ ap (bit_and (a / 2 ^ i % 2)) (word_bit (word_tests q n) i h ∙ ap bit e)
    ∙ and_mask (a / 2 ^ i % 2) 1
    ∙ omega arith

pub mask_clears : (q : ℕ → Bool) (n a i : ℕ) → i < n → q i ≡ false → bit_and a (pack (λ i. bit (q i)) n) / 2 ^ i % 2 ≡ 0
mask_clears q n a i h e =
    and_digit a (pack (λ i. bit (q i)) n) i
    ∙ ap (bit_and (a / 2 ^ i % 2)) (word_bit (word_tests q n) i h ∙ ap bit e)
    ∙ and_zero_r (a / 2 ^ i % 2)
