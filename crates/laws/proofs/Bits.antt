-- Masks: the bits of a mask made by a test, masks with equal bits, the bits of a meet, and how many bits there are.
-- Assumes nothing.
use mathlib.Core.Path.{◌≡◌, refl, ap, sym, ◌∙◌, subst}
use mathlib.Core.Logic.{◌⊎◌, inl, inr, ⊎_elim}
use mathlib.Core.Bool.{Bool, true, false, false≢true}
use Prim.Native.Nat.{ℕ, zero, suc, ◌+◌, ◌*◌, ◌-◌, ◌/◌, ◌%◌, ◌^◌, ◌≤◌, ◌<◌}
use native.Mathlib.Nat.{not-suc-le-zero, eq-or-lt_of_le, le_of_suc-le-suc, pow-suc, add-zero, zero-div, div-one, one-mul, zero-mul, add-div_right, div-eq_of_lt, add-mul-div_left, add-mul-mod_self_left, eq-zero-or-pos, div-div-eq-div-mul, pow-succ', mod-eq_of_lt, lt_of_lt_of_le}
use native.Mathlib.Omega.{arith}
use borrow.Author.Tests.{eqb-true, eqb-false}
use lib.Dec.{eqb}
use lib.Bits.{bit_and, and_shr, and_mod}
use lib.Count.{ones, ones_in, ones_step}
use lib.Pow.{pow_pos, pow-add, pow-lt, pow_mono}
use Rattle.laws.specs.Bits.{bit, holds, mask_of}
use Rattle.laws.proofs.Pack.{pack_lt, pack_mask}

pub bit_le : (b : Bool) → bit b ≤ 1
bit_le true = omega arith
bit_le false = omega arith

-- 1 shifted by less than the width
pub shift_one : (e w : ℕ) → e < w → (1 * 2 ^ e) % 2 ^ w ≡ 2 ^ e
shift_one e w h = ap (λ (x : ℕ). x % 2 ^ w) (one-mul (2 ^ e)) ∙ mod-eq_of_lt (pow-lt h)

-- ---- a mask made by a test

pub mask_lt : (f : ℕ → Bool) (n : ℕ) → mask_of f n < 2 ^ n
mask_lt f n = subst (λ (m : ℕ). m < 2 ^ n) (pack_mask f n) (pack_lt (λ (i : ℕ). bit (f i)) (λ i. bit_le (f i)) n)

-- a bit above e does not touch bit e
above : (m n e : ℕ) → e < n → (m + 2 ^ n) / 2 ^ e % 2 ≡ m / 2 ^ e % 2
above m n e h =
    ap (λ (x : ℕ). (m + x) / 2 ^ e % 2) power
    ∙ ap (λ (x : ℕ). x % 2) (add-mul-div_left m (2 * 2 ^ (n - e - 1)) (pow_pos e))
    ∙ add-mul-mod_self_left (m / 2 ^ e) 2 (2 ^ (n - e - 1))
  where
    parts : n ≡ e + (1 + (n - e - 1))
    parts = omega arith

    power : 2 ^ n ≡ 2 ^ e * (2 * 2 ^ (n - e - 1))
    power = ap (λ (x : ℕ). 2 ^ x) parts ∙ pow-add 2 e (1 + (n - e - 1)) ∙ ap (λ (x : ℕ). 2 ^ e * x) (pow-add 2 1 (n - e - 1))

-- a bit n put on a mask below 2 ^ n is read back
pub holds_top : (m n : ℕ) (b : Bool) → m < 2 ^ n → holds (m + bit b * 2 ^ n) n ≡ b
holds_top m n true h = rw (one-mul, add-div_right m (pow_pos n), div-eq_of_lt h)
holds_top m n false h = rw (zero-mul, add-zero, div-eq_of_lt h)

-- and changes none of the lower bits
pub holds_under : (m n e : ℕ) (b : Bool) → e < n → holds (m + bit b * 2 ^ n) e ≡ holds m e
holds_under m n e true h = rw (one-mul, above m n e h)
holds_under m n e false h = rw (zero-mul, add-zero)

-- it has the bits that the test says
pub holds_mask : (f : ℕ → Bool) (n e : ℕ) → e < n → holds (mask_of f n) e ≡ f e
unfolding mask_of
holds_mask f zero e h = absurd (not-suc-le-zero h)
holds_mask f (suc n) e h = go (eq-or-lt_of_le (le_of_suc-le-suc h)) (holds_mask f n e)
  where
    go : (e ≡ n) ⊎ (e < n) → (e < n → holds (mask_of f n) e ≡ f e) → holds (mask_of f n + bit (f n) * 2 ^ n) e ≡ f e
    go (inl q) ih = rw q (holds_top (mask_of f n) n (f n) (mask_lt f n))
    go (inr l) ih = holds_under (mask_of f n) n e (f n) l ∙ ih l

-- a test that nothing passes makes the empty mask
pub mask_none : (f : ℕ → Bool) (n : ℕ) → ((e : ℕ) → e < n → f e ≡ false) → mask_of f n ≡ 0
unfolding mask_of
mask_none f zero h = refl
mask_none f (suc n) h = rw (mask_none f n (λ e l. h e (omega arith)), h n (omega arith), zero-mul)

-- ---- masks by their bits

-- the empty mask holds nothing
pub holds_none : (e : ℕ) → holds 0 e ≡ false
holds_none e = ap (λ (x : ℕ). eqb (x % 2) 1) (zero-div (2 ^ e))

-- a mask holds nothing past its size
pub holds_past : (m n e : ℕ) → m < 2 ^ n → n ≤ e → holds m e ≡ false
holds_past m n e h l = ap (λ (x : ℕ). eqb (x % 2) 1) (div-eq_of_lt (lt_of_lt_of_le h (pow_mono l)))

-- a bit above the lowest is one of the half
pub holds_half : (m e : ℕ) → holds m (suc e) ≡ holds (m / 2) e
holds_half m e =
    ap (λ (x : ℕ). eqb (x % 2) 1) (ap (λ (x : ℕ). m / x) (pow-succ' 2 e) ∙ sym (div-div-eq-div-mul m 2 (2 ^ e)))

pub holds_zero : (m : ℕ) → holds m 0 ≡ eqb (m % 2) 1
holds_zero m = ap (λ (x : ℕ). eqb (x % 2) 1) (div-one m)

digit_eq : (a b : ℕ) → eqb (a % 2) 1 ≡ eqb (b % 2) 1 → a % 2 ≡ b % 2
digit_eq a b h = go (eqb (a % 2) 1) (eqb (b % 2) 1) refl refl h
  where
    go : (x y : Bool) → eqb (a % 2) 1 ≡ x → eqb (b % 2) 1 ≡ y → x ≡ y → a % 2 ≡ b % 2
    go true true p q e = omega (arith, eqb-true (a % 2) 1 p, eqb-true (b % 2) 1 q)
    go true false p q e = absurd (false≢true (sym e))
    go false true p q e = absurd (false≢true e)
    go false false p q e = let u = eqb-false (a % 2) 1 p in let v = eqb-false (b % 2) 1 q in omega (arith, u, v)

half_lt : (m n k : ℕ) → m < n → n ≡ k * 2 → m / 2 < k
half_lt m n k h e = omega arith

join_halves : (a b : ℕ) → a % 2 ≡ b % 2 → a / 2 ≡ b / 2 → a ≡ b
join_halves a b p q = omega arith

-- masks with the same bits are the same
pub mask_ext : (n a b : ℕ) → a < 2 ^ n → b < 2 ^ n → ((e : ℕ) → e < n → holds a e ≡ holds b e) → a ≡ b
mask_ext zero a b p q h = omega arith
mask_ext (suc n) a b p q h =
    join_halves a b
    (digit_eq a b (sym (holds_zero a) ∙ h 0 (omega arith) ∙ holds_zero b))
    (mask_ext n (a / 2) (b / 2) (half_lt a (2 ^ suc n) (2 ^ n) p (pow-suc 2 n)) (half_lt b (2 ^ suc n) (2 ^ n) q (pow-suc 2 n))
    (λ e l. sym (holds_half a e) ∙ h (suc e) (omega arith) ∙ holds_half b e))

-- the bit of a meet, where the second has it
pub holds_and : (l p e : ℕ) → holds p e ≡ true → holds (bit_and l p) e ≡ holds l e
holds_and l p e h =
    ap (λ (x : ℕ). eqb (x % 2) 1) (and_shr l p e)
    ∙ ap (λ (x : ℕ). eqb x 1) (and_mod (l / 2 ^ e) (p / 2 ^ e) 1)
    ∙ ap (λ (x : ℕ). eqb (bit_and (l / 2 ^ e % 2) x) 1) (eqb-true (p / 2 ^ e % 2) 1 h)
    ∙ digit (l / 2 ^ e % 2) (small (l / 2 ^ e))
  where
    digit : (d : ℕ) → d < 2 → eqb (bit_and d 1) 1 ≡ eqb d 1
    digit zero h = refl
    digit (suc zero) h = refl
    digit (suc (suc d)) h = absurd (omega arith)

    small : (x : ℕ) → x % 2 < 2
    small x = omega arith

-- a mask that has all of p or none of it has any two of p or neither
pub both_or_none : (l p e d : ℕ) → (bit_and l p ≡ p) ⊎ (bit_and l p ≡ 0) → holds p e ≡ true → holds p d ≡ true → holds l e ≡ holds l d
both_or_none l p e d (inl h) x y =
    sym (holds_and l p e x) ∙ ap (λ (m : ℕ). holds m e) h ∙ x ∙ sym y ∙ sym (ap (λ (m : ℕ). holds m d) h) ∙ holds_and l p d y
both_or_none l p e d (inr h) x y =
    sym (holds_and l p e x) ∙ ap (λ (m : ℕ). holds m e) h ∙ holds_none e ∙ sym (holds_none d) ∙ sym (ap (λ (m : ℕ). holds m d) h) ∙ holds_and l p d y

-- ---- how many

-- the count of set bits, by as many digits as hold the number
pub ones_in_lem : (d n : ℕ) → n < 2 ^ d → ones n ≡ ones_in d n
unfolding ones_in ones
ones_in_lem zero n h = ap ones (zero_of n h)
  where
    zero_of : (n : ℕ) → n < 1 → n ≡ 0
    zero_of n h = omega arith
ones_in_lem (suc d) n h = ones_step n ∙ ap (λ (x : ℕ). n % 2 + x) (ones_in_lem d (n / 2) (half_lt n (2 ^ suc d) (2 ^ d) h (pow-suc 2 d)))

-- a mask that is not empty has a bit
pub ones_pos : (k m : ℕ) → m < 2 ^ k → 0 < m → 0 < ones m
ones_pos zero m h p = absurd (omega arith)
ones_pos (suc k) m h p = go (eq-zero-or-pos (m % 2)) (ones_pos k (m / 2) (half_lt m (2 ^ suc k) (2 ^ k) h (pow-suc 2 k)))
  where
    go : (m % 2 ≡ 0) ⊎ (0 < m % 2) → (0 < m / 2 → 0 < ones (m / 2)) → 0 < ones m
    go (inl e) ih = let r = ih (omega arith) in omega (arith, ones_step m)
    go (inr l) ih = omega (arith, ones_step m)

pub ones_none : ones 0 ≡ 0
unfolding ones ones_in
ones_none = refl

-- and one that has a bit is not empty
pub some_ones : (m : ℕ) → 0 < ones m → 0 < m
some_ones m h = ⊎_elim (λ (z : m ≡ 0). absurd (none (ap ones z ∙ ones_none) h)) (λ (q : 0 < m). q) (eq-zero-or-pos m)
  where
    none : {n : ℕ} → n ≡ 0 → 0 < n → ⊥
    none e q = omega arith
