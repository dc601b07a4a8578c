-- The bits of a word after a swap: each bit under the mask b and its partner, s places above it, change places.
-- Three swaps exchange the rows and columns of a word of eight rows of eight bits: the place that each bit comes from is computed.
-- Assumes nothing.
use mathlib.Core.Path.{◌≡◌, refl, sym, ap, ap₂, ◌∙◌}
use mathlib.Core.Bool.{Bool, true, false, not, ◌&&◌, and_comm, cond, true≢false}
use mathlib.Core.Logic.{◌⊎◌, inl, inr}
use Prim.Native.Nat.{ℕ, ◌+◌, ◌-◌, ◌*◌, ◌/◌, ◌%◌, ◌^◌, ◌≤◌, ◌<◌}
use native.Mathlib.Nat.{mul_assoc, mod-lt}
use native.Mathlib.Omega.{arith}
use borrow.Author.Tests.{leb-true, ltb-true, le-leb, lt-leb, eqb-true}
use lib.Bits.{bit_and, bit_xor, and_le_l, xor_lt}
use lib.Dec.{T, leb, ltb, eqb}
use lib.Pow.{pow-add, pow_pos, shl-shr, shr-shr, shr_le, field, mod-mod-pow}
use Rattle.laws.specs.Bits.{bit, differ, holds}
use Rattle.laws.specs.Pack.{pack}
use Rattle.laws.proofs.Pack.{pack_cong}
use Rattle.laws.proofs.Tests.{is_true, and_both, below, below_at, lt_or_ge}
use Rattle.laws.proofs.Words.{word_of, digit_holds, and_holds, xor_holds}

-- ---- the bits of a shifted word

-- a bit of the lowest 64
low_digit : (n i : ℕ) → i < 64 → n % 2 ^ 64 / 2 ^ i % 2 ≡ n / 2 ^ i % 2
low_digit n i h =
    ap (λ (x : ℕ). n % 2 ^ x / 2 ^ i % 2) all
    ∙ ap (λ (x : ℕ). x % 2) (field n (63 - i + 1) i)
    ∙ mod-mod-pow (n / 2 ^ i) (63 - i) 1
  where
    all : 64 ≡ (63 - i + 1) + i
    all = omega arith

-- a shift to the left puts zeros into the lowest places
pub left_digit : (a s i : ℕ) → i < 64 → a * 2 ^ s % 2 ^ 64 / 2 ^ i % 2 ≡ cond (leb s i) (a / 2 ^ (i - s) % 2) 0
left_digit a s i h = low_digit (a * 2 ^ s) i h ∙ go (lt_or_ge i s)
  where
    here : s ≤ i → i ≡ s + (i - s)
    here l = omega arith

    double : i < s → s ≡ (s - i - 1) + 1 + i
    double l = omega arith

    even : (x : ℕ) → x * 2 % 2 ≡ 0
    even x = omega arith

    go : (i < s) ⊎ (s ≤ i) → a * 2 ^ s / 2 ^ i % 2 ≡ cond (leb s i) (a / 2 ^ (i - s) % 2) 0
    go (inr l) =
        rw (le-leb s i l)
        (ap (λ (x : ℕ). a * 2 ^ s / 2 ^ x % 2) (here l)
        ∙ ap (λ (x : ℕ). x % 2) (sym (shr-shr (a * 2 ^ s) s (i - s)))
        ∙ ap (λ (x : ℕ). x / 2 ^ (i - s) % 2) (shl-shr a s))
    go (inl l) =
        rw (lt-leb s i l)
        (ap (λ (x : ℕ). a * 2 ^ x / 2 ^ i % 2) (double l)
        ∙ ap (λ (x : ℕ). a * x / 2 ^ i % 2) (pow-add 2 (s - i - 1 + 1) i)
        ∙ ap (λ (x : ℕ). x / 2 ^ i % 2) (sym (mul_assoc a (2 ^ (s - i - 1 + 1)) (2 ^ i)))
        ∙ ap (λ (x : ℕ). x % 2) (shl-shr (a * 2 ^ (s - i - 1 + 1)) i)
        ∙ ap (λ (x : ℕ). a * x % 2) (pow-add 2 (s - i - 1) 1)
        ∙ ap (λ (x : ℕ). x % 2) (sym (mul_assoc a (2 ^ (s - i - 1)) 2))
        ∙ even (a * 2 ^ (s - i - 1)))

left_holds : (a s i : ℕ) → i < 64 → holds (a * 2 ^ s % 2 ^ 64) i ≡ (leb s i && holds a (i - s))
left_holds a s i h = ap (λ (x : ℕ). eqb x 1) (left_digit a s i h) ∙ go (leb s i)
  where
    go : (b : Bool) → eqb (cond b (a / 2 ^ (i - s) % 2) 0) 1 ≡ (b && holds a (i - s))
    go true = refl
    go false = refl

right_holds : (a s i : ℕ) → holds (a / 2 ^ s) i ≡ holds a (s + i)
right_holds a s i = ap (λ (x : ℕ). eqb (x % 2) 1) (shr-shr a s i)

-- ---- one swap

-- the bits under the mask that differ from their partners
abbrev moved : ℕ → ℕ → ℕ → ℕ
moved s b y = bit_and (bit_xor y (y / 2 ^ s)) b

-- each of them, and its partner, is turned over
abbrev swap : ℕ → ℕ → ℕ → ℕ
swap s b y = bit_xor (bit_xor y (moved s b y)) (moved s b y * 2 ^ s % 2 ^ 64)

-- the place i is the partner of a place under the mask
abbrev partner : ℕ → ℕ → ℕ → Bool
partner s b i = leb s i && holds b (i - s)

-- the place that bit i comes from
abbrev from : ℕ → ℕ → ℕ → ℕ
from s b i = cond (holds b i) (s + i) (cond (partner s b i) (i - s) i)

-- the place i is not both under the mask and a partner, and its bit comes from within the word
abbrev swappable : ℕ → ℕ → ℕ → Bool
swappable s b i = not (holds b i && partner s b i) && ltb (from s b i) 64

-- a bit, turned over where it differs from its partner: y the bit, p the one above it, m the one below it
turned : (y p m u v : Bool) → not (u && v) ≡ true → differ (differ y (u && differ y p)) (v && differ m y) ≡ cond u p (cond v m y)
turned y p m true true e = absurd (true≢false (sym e))
turned y p m true false e = go y p
  where
    go : (y p : Bool) → differ (differ y (differ y p)) false ≡ p
    go true true = refl
    go true false = refl
    go false true = refl
    go false false = refl
turned y p m false true e = go y m
  where
    go : (y m : Bool) → differ (differ y false) (differ m y) ≡ m
    go true true = refl
    go true false = refl
    go false true = refl
    go false false = refl
turned y p m false false e = go y
  where
    go : (y : Bool) → differ (differ y false) false ≡ y
    go true = refl
    go false = refl

module _ (s b y : ℕ) where
  -- the bits that are turned over, at their own places
  moved_holds : (i : ℕ) → holds (moved s b y) i ≡ (holds b i && differ (holds y i) (holds y (s + i)))
  moved_holds i =
      and_holds (bit_xor y (y / 2 ^ s)) b i
      ∙ and_comm (holds (bit_xor y (y / 2 ^ s)) i) (holds b i)
      ∙ ap (λ (x : Bool). holds b i && x) (xor_holds y (y / 2 ^ s) i ∙ ap (differ (holds y i)) (right_holds y s i))

  -- and at the places of their partners
  above_holds : (i : ℕ) → i < 64 → holds (moved s b y * 2 ^ s % 2 ^ 64) i ≡ (partner s b i && differ (holds y (i - s)) (holds y i))
  above_holds i h = left_holds (moved s b y) s i h ∙ ap (λ (x : Bool). leb s i && x) (moved_holds (i - s)) ∙ go (leb s i) refl
    where
      back : s ≤ i → s + (i - s) ≡ i
      back l = omega arith

      go : (l : Bool) → leb s i ≡ l
          → (l && (holds b (i - s) && differ (holds y (i - s)) (holds y (s + (i - s))))) ≡ ((l && holds b (i - s)) && differ (holds y (i - s)) (holds y i))
      go true e = ap (λ (x : ℕ). holds b (i - s) && differ (holds y (i - s)) (holds y x)) (back (leb-true s i e))
      go false e = refl

  -- a bit after the swap is the bit at the place that it comes from
  swap_holds : (i : ℕ) → i < 64 → not (holds b i && partner s b i) ≡ true → holds (swap s b y) i ≡ holds y (from s b i)
  swap_holds i h e =
      xor_holds (bit_xor y (moved s b y)) (moved s b y * 2 ^ s % 2 ^ 64) i
      ∙ ap₂ differ (xor_holds y (moved s b y) i ∙ ap (differ (holds y i)) (moved_holds i)) (above_holds i h)
      ∙ turned (holds y i) (holds y (s + i)) (holds y (i - s)) (holds b i) (partner s b i) e
      ∙ at (holds b i) (partner s b i)
    where
      at : (u v : Bool) → cond u (holds y (s + i)) (cond v (holds y (i - s)) (holds y i)) ≡ holds y (cond u (s + i) (cond v (i - s) i))
      at true v = refl
      at false true = refl
      at false false = refl

  swap_lt : y < 2 ^ 64 → swap s b y < 2 ^ 64
  swap_lt h = xor_lt 64 (bit_xor y (moved s b y)) (moved s b y * 2 ^ s % 2 ^ 64) (xor_lt 64 y (moved s b y) h small) (mod-lt (moved s b y * 2 ^ s) (pow_pos 64))
    where
      under : {a b c : ℕ} → a ≤ b → b < c → a < c
      under p q = omega arith

      small : moved s b y < 2 ^ 64
      small = under (and_le_l (bit_xor y (y / 2 ^ s)) b) (xor_lt 64 y (y / 2 ^ s) h (under (shr_le y s) h))

-- ---- three swaps

-- the masks for squares of one bit, of four and of sixteen
abbrev singles : ℕ
singles = 0x00AA00AA00AA00AA

abbrev fours : ℕ
fours = 0x0000CCCC0000CCCC

abbrev sixteens : ℕ
sixteens = 0x00000000F0F0F0F0

-- rows and columns exchanged
abbrev exchanged : ℕ → ℕ
exchanged y = swap 28 sixteens (swap 14 fours (swap 7 singles y))

-- the place that bit i comes from, through the last swap, the last two and all three
abbrev one_back : ℕ → ℕ
one_back i = from 28 sixteens i

abbrev two_back : ℕ → ℕ
two_back i = from 14 fours (one_back i)

abbrev three_back : ℕ → ℕ
three_back i = from 7 singles (two_back i)

-- no place on the way is both under a mask and a partner, and the bit comes from the place with row and column exchanged
abbrev right : ℕ → Bool
right i =
    swappable 28 sixteens i && (swappable 14 fours (one_back i) && (swappable 7 singles (two_back i) && eqb (three_back i) (8 * (i % 8) + i / 8)))

-- that is so of all 64 places: computed
all_right : T (below 64 right)
unfolding below
all_right = tt

exchanged_holds : (y i : ℕ) → i < 64 → holds (exchanged y) i ≡ holds y (8 * (i % 8) + i / 8)
exchanged_holds y i h =
    let p = and_both _ _ (is_true (right i) (below_at 64 right all_right i h)) in
    let q = and_both _ _ p.1 in
    let r = and_both _ _ q.1 in
    let u = and_both _ _ p.0 in
    let v = and_both _ _ q.0 in
    let w = and_both _ _ r.0 in
    swap_holds 28 sixteens (swap 14 fours (swap 7 singles y)) i h u.0
    ∙ swap_holds 14 fours (swap 7 singles y) (one_back i) (ltb-true (one_back i) 64 u.1) v.0
    ∙ swap_holds 7 singles y (two_back i) (ltb-true (two_back i) 64 v.1) w.0
    ∙ ap (holds y) (eqb-true (three_back i) (8 * (i % 8) + i / 8) r.1)

-- the word whose bits are those of y with rows and columns exchanged
pub exchanged_word : (y : ℕ) → y < 2 ^ 64 → exchanged y ≡ pack (λ (i : ℕ). y / 2 ^ (8 * (i % 8) + i / 8) % 2) 64
exchanged_word y h = (word_of (exchanged y) 64 small).is ∙ pack_cong _ _ 64 digit
  where
    small : exchanged y < 2 ^ 64
    small = swap_lt 28 sixteens _ (swap_lt 14 fours _ (swap_lt 7 singles y h))

    digit : (i : ℕ) → i < 64 → exchanged y / 2 ^ i % 2 ≡ y / 2 ^ (8 * (i % 8) + i / 8) % 2
    digit i l = digit_holds (exchanged y) i ∙ ap bit (exchanged_holds y i l) ∙ sym (digit_holds y (8 * (i % 8) + i / 8))
