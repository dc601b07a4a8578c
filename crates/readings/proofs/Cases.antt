-- What each test of a reading tells, by cases on the float.
-- Assumes nothing.
use mathlib.Core.Path.{◌≡◌, refl, sym, ap, ◌∙◌, subst}
use mathlib.Core.Bool.{Bool, true, false, not, ◌&&◌, ◌||◌, cond, true≢false, beq}
use Prim.Native.Nat.{ℕ, zero, suc, ◌+◌, ◌-◌, ◌*◌, ◌/◌, ◌^◌, ◌≤◌, ◌<◌, ◌%◌, zero-le}
use native.Mathlib.Nat.{zero-lt-suc, zero-mul, mul-one, mul_assoc, mul-pos, mul-le-mul, mul-le-mul_right, le_trans, le_of_eq, le_of_lt, lt_of_not-le, not-le_of_lt, div-lt_iff_lt-mul, le-div_iff_mul-le}
use native.Mathlib.Omega.{arith}
use lib.Dec.{T, leb, ltb, eqb, ltb→lt}
use lib.IntN.{pos, negsuc, ℤ}
use lib.Pow.{pow_pos, pow-add, pow_mono}
use borrow.Author.Tests.{ne_eqb, eq-eqb, eqb-false, le-leb, lt-leb, ltb-true, ltb-false, lt-ltb, le-ltb, eqb-true, leb-true, leb-false}
use lib.Ieee.{Float, nan, inf, fin, Format, binary32, prec, emax, low, up, down, odd, units, round, add, sub, sum, neg, lt, le, eq, ne, fits}
use lib.Ieee.Compare.{differs_from_itself, nan_differs}
use lib.Ieee.Fits.{up_pos, down_pos, round_is, and_l, and_r}
use lib.Ieee.Positive.{num, den}
use Rattle.laws.specs.Bits.{bit}
use Rattle.laws.proofs.Tests.{lt_or_ge}
use mathlib.Core.Logic.{◌⊎◌, inl, inr}
use Rattle.readings.specs.declared.Reading.TheVariants.{Grey, Ceiling, NoNumber, Infinite, BelowZero}
use Rattle.readings.specs.Reading.{reading_of, grey_of, faulty}
use Rattle.readings.specs.Steps.{InRange, Capped}

abbrev pub zero32 : Float
zero32 = fin false 0 (pos 0)

abbrev pub top32 : Float
top32 = fin false 65535 (pos 0)

-- the largest finite float of 32 bits
abbrev pub last32 : Float
last32 = fin false 16777215 (pos 104)

is_T : {b : Bool} → b ≡ true → T b
is_T e = subst T (sym e) tt

-- ---- no number, and infinite

pub no_number : (x : Float) → ne x x ≡ true → NoNumber ≡ reading_of x
unfolding reading_of
no_number x h = ap reading_of (sym (differs_from_itself x (is_T h)))

-- a rounded number is a number
is_number : Float → Bool
is_number nan = false
is_number (inf s) = true
is_number (fin s m e) = true

odd_number : (d : ℕ) (s : Bool) (q k l : ℕ) → T (is_number (odd d s q k l))
unfolding odd is_number
odd_number d s zero k l = tt
odd_number d s (suc q) k l = tt

units_number : (f : Format) (s : Bool) (q k : ℕ) → T (is_number (units f s q k))
unfolding units is_number
units_number f s q k = pick (ltb (q * 2 ^ k) (2 ^ (low f + suc (emax f))))
  where
    pick : (b : Bool) → T (is_number (cond b (odd (suc (prec f)) s q k (low f)) (inf s)))
    pick true = odd_number (suc (prec f)) s q k (low f)
    pick false = tt

round_number : (f : Format) (s : Bool) (a b : ℕ) → T (is_number (round f s a b))
round_number f s a b = subst (λ (x : Float). T (is_number x)) (sym (round_is f s a b)) (units_number f s _ _)

number_same : (x : Float) → T (is_number x) → ne x x ≡ true → ⊥
unfolding is_number
number_same x n h = subst (λ (y : Float). T (is_number y)) (differs_from_itself x (is_T h)) n

-- the difference of a finite number and itself is a number
sum_number : (f : Format) (s : Bool) (a : ℕ) (t : Bool) (b c : ℕ) → T (is_number (sum f s a t b c))
unfolding sum
sum_number f s a t b c = go (beq s t) (ltb a b)
  where
    go : (p q : Bool) → T (is_number (cond p (round f s (a + b) c) (cond q (round f t (b - a) c) (round f (s && ltb b a) (a - b) c))))
    go true q = round_number f s (a + b) c
    go false true = round_number f t (b - a) c
    go false false = round_number f (s && ltb b a) (a - b) c

finite_number : (f : Format) (s : Bool) (m : ℕ) (e : ℤ) → T (is_number (sub f (fin s m e) (fin s m e)))
unfolding sub add neg
finite_number f s m e = sum_number f s _ (not s) _ _

-- not no number, and x - x none: infinite
pub infinite : (f : Format) (x : Float) → ne x x ≡ false → ne (sub f x x) (sub f x x) ≡ true → Infinite ≡ reading_of x
unfolding reading_of
infinite f nan h k = absurd (true≢false (sym nan_differs ∙ h))
infinite f (inf s) h k = refl
infinite f (fin s m e) h k = absurd (number_same (sub f (fin s m e) (fin s m e)) (finite_number f s m e) k)

-- finite: neither
pub record Finite (x : Float) : Type 0 where
  pub sign : Bool
  pub top : ℕ
  pub power : ℤ
  pub is : x ≡ fin sign top power

pub finite : (f : Format) (x : Float) → ne x x ≡ false → ne (sub f x x) (sub f x x) ≡ false → Finite x
unfolding sub add neg
finite f nan h k = absurd (true≢false (sym nan_differs ∙ h))
finite f (inf true) h k = absurd (true≢false (sym nan_differs ∙ k))
finite f (inf false) h k = absurd (true≢false (sym nan_differs ∙ k))
finite f (fin s m e) h k = record { sign = s; top = m; power = e; is = refl }

-- ---- below zero

below_fin : (s : Bool) (m : ℕ) (e : ℤ) → lt (fin s m e) zero32 ≡ true → BelowZero ≡ reading_of (fin s m e)
unfolding reading_of lt
below_fin true zero e h = absurd (true≢false (sym h ∙ none))
  where
    none : ltb 0 (0 * up e * 1 + 0 * 1 * down e) ≡ false
    none = le-ltb 0 (0 * up e * 1 + 0 * 1 * down e) (omega arith)
below_fin true (suc m) e h = refl
below_fin false m e h = absurd (true≢false (sym h ∙ le-ltb (m * up e * 1) (0 * 1 * down e) (omega arith)))

pub below_zero : (x : Float) → Finite x → lt x zero32 ≡ true → BelowZero ≡ reading_of x
below_zero x w h =
    subst (λ (y : Float). BelowZero ≡ reading_of y) (sym w.is) (below_fin w.sign w.top w.power (subst (λ (y : Float). lt y zero32 ≡ true) w.is h))

-- ---- a comparison of two that are not negative, as one of numbers

pub not_above : (a b : ℕ) → (ltb a b || (eqb a b && true)) ≡ leb a b
not_above a b = go (ltb a b) (eqb a b) refl refl
  where
    go : (p q : Bool) → ltb a b ≡ p → eqb a b ≡ q → (p || (q && true)) ≡ leb a b
    go true q u v = sym (le-leb a b (le_of_lt (ltb-true a b u)))
    go false true u v = sym (le-leb a b (le_of_eq (eqb-true a b v)))
    go false false u v = sym (lt-leb a b (strict (ltb-false a b u) (eqb-false a b v)))
      where
        strict : b ≤ a → (a ≡ b → ⊥) → b < a
        strict l n = omega arith

-- ---- the ceiling, and the whole numbers below it

pub at_ceiling : (w : ℕ) → 65535 ≤ w → cond (leb 65535 w) Ceiling (Grey w) ≡ Ceiling
at_ceiling w h = rw (le-leb 65535 w h)

pub under_ceiling : (w : ℕ) → w < 65535 → cond (leb 65535 w) Ceiling (Grey w) ≡ Grey w
under_ceiling w h = rw (lt-leb 65535 w h)

pub top_whole : (m : ℕ) (e : ℤ) → 65535 * 1 * down e ≤ m * up e * 1 → 65535 ≤ m * up e / down e
top_whole m e h = (le-div_iff_mul-le (down_pos e)).1 (omega arith)

pub small_whole : (m : ℕ) (e : ℤ) → m * up e * 1 < 65535 * 1 * down e → m * up e / down e < 65535
small_whole m e h = (div-lt_iff_lt-mul (down_pos e)).1 (omega arith)

ceiling_fin : (s : Bool) (m : ℕ) (e : ℤ) → le top32 (fin s m e) ≡ true → Ceiling ≡ reading_of (fin s m e)
unfolding reading_of le lt eq
ceiling_fin true m e h = absurd (never (eqb (65535 * 1 * down e) (m * up e * 1)) (eqb (65535 * 1 * down e) 0) (ne_eqb (65535 * 1 * down e) 0 some) h)
  where
    some : 65535 * 1 * down e ≡ 0 → ⊥
    some z = let p = down_pos e in omega arith

    never : (p q : Bool) → q ≡ false → (p && q) ≡ true → ⊥
    never true q u h = true≢false (sym h ∙ u)
    never false q u h = true≢false (sym h)
ceiling_fin false m e h =
    sym (at_ceiling (m * up e / down e) (top_whole m e (leb-true (65535 * 1 * down e) (m * up e * 1) (sym (not_above (65535 * 1 * down e) (m * up e * 1)) ∙ h))))

pub ceiling : (x : Float) → Finite x → le top32 x ≡ true → Ceiling ≡ reading_of x
ceiling x w h =
    subst (λ (y : Float). Ceiling ≡ reading_of y) (sym w.is)
    (ceiling_fin w.sign w.top w.power (subst (λ (y : Float). le top32 y ≡ true) w.is h))

-- what is left: from zero up and below 65,535
pub record Small (x : Float) : Type 0 where
  pub ranged : InRange x
  pub whole : num x / den x < 65535
  pub is : Grey (num x / den x) ≡ reading_of x

positive_value : (m : ℕ) (e : ℤ) → 0 < suc m * up e
positive_value m e = mul-pos (zero-lt-suc m) (up_pos e)

none_of : (e : ℤ) → 0 * up e / down e ≡ 0
none_of e = least (0 * up e / down e) ((div-lt_iff_lt-mul (down_pos e)).1 (let p = down_pos e in omega arith))
  where
    least : (n : ℕ) → n < 1 → n ≡ 0
    least n h = omega arith

small_fin : (s : Bool) (m : ℕ) (e : ℤ) → lt (fin s m e) zero32 ≡ false → le top32 (fin s m e) ≡ false → Small (fin s m e)
unfolding reading_of le lt eq
small_fin true zero e h k = record { ranged = refl; whole = omega (arith, none_of e); is = ap Grey (none_of e) }
small_fin true (suc m) e h k = absurd (true≢false (sym (lt-ltb 0 (suc m * up e * 1 + 0 * 1 * down e) (let q = positive_value m e in omega arith)) ∙ h))
small_fin false m e h k =
    let l = leb-false (65535 * 1 * down e) (m * up e * 1) (sym (not_above (65535 * 1 * down e) (m * up e * 1)) ∙ k) in
    let w = small_whole m e l in
    record { ranged = omega arith; whole = w; is = sym (under_ceiling (m * up e / down e) w) }

pub small : (x : Float) → Finite x → lt x zero32 ≡ false → le top32 x ≡ false → Small x
small x w h k =
    subst Small (sym w.is)
    (small_fin w.sign w.top w.power (subst (λ (y : Float). lt y zero32 ≡ false) w.is h) (subst (λ (y : Float). le top32 y ≡ false) w.is k))

-- ---- a reading without a fault, brought down to 65,535

top_grey : (w : ℕ) → 65535 ≤ w → 65535 ≡ grey_of (cond (leb 65535 w) Ceiling (Grey w))
top_grey w h = sym (ap grey_of (at_ceiling w h))

pub capped_under : (x : Float) → faulty (reading_of x) ≡ false → lt x top32 ≡ true → Capped x x
unfolding reading_of lt
capped_under nan f h = absurd (true≢false f)
capped_under (inf s) f h = absurd (true≢false f)
capped_under (fin true zero e) f h = record { ranged = refl; grey = none_of e }
capped_under (fin true (suc m) e) f h = absurd (true≢false f)
capped_under (fin false m e) f h =
    let l : m * up e * 1 < 65535 * 1 * down e = ltb-true (m * up e * 1) (65535 * 1 * down e) h in
    record { ranged = omega arith; grey = sym (ap grey_of (under_ceiling (m * up e / down e) (small_whole m e l))) }

pub capped_top : (x : Float) → faulty (reading_of x) ≡ false → lt x top32 ≡ false → Capped x top32
unfolding reading_of lt
capped_top nan f h = absurd (true≢false f)
capped_top (inf s) f h = absurd (true≢false f)
capped_top (fin true zero e) f h = absurd (true≢false (sym (lt-ltb 0 (0 * up e * 1 + 65535 * 1 * down e) (let p = down_pos e in omega arith)) ∙ h))
capped_top (fin true (suc m) e) f h = absurd (true≢false f)
capped_top (fin false m e) f h =
    record { ranged = omega arith; grey = top_grey (m * up e / down e) (top_whole m e (ltb-false (m * up e * 1) (65535 * 1 * down e) h)) }

-- ---- the fault of a reading, as 0 or 1

no_fault : (w : ℕ) → faulty (cond (leb 65535 w) Ceiling (Grey w)) ≡ false
no_fault w = go (leb 65535 w)
  where
    go : (b : Bool) → faulty (cond b Ceiling (Grey w)) ≡ false
    go true = refl
    go false = refl

-- below zero is not at least zero
not_least : (m : ℕ) (e : ℤ) → le zero32 (fin true (suc m) e) ≡ true → ⊥
unfolding le lt eq
not_least m e h = never (eqb (0 * 1 * down e) (suc m * up e * 1)) (eqb (0 * 1 * down e) 0) (ne_eqb (0 * 1 * down e) (suc m * up e * 1) some) h
  where
    some : 0 * 1 * down e ≡ suc m * up e * 1 → ⊥
    some z = let p = positive_value m e in omega arith

    never : (p q : Bool) → p ≡ false → (p && q) ≡ true → ⊥
    never true q u h = true≢false u
    never false q u h = true≢false (sym h)

-- minus zero, and what has no sign, is
minus_zero_least : (e : ℤ) → le zero32 (fin true zero e) ≡ true
unfolding le lt eq
minus_zero_least e = go (eqb (0 * 1 * down e) (0 * up e * 1)) (eqb (0 * 1 * down e) 0) (eq-eqb (0 * 1 * down e) (0 * up e * 1) (omega arith)) (eq-eqb (0 * 1 * down e) 0 (omega arith))
  where
    go : (p q : Bool) → p ≡ true → q ≡ true → (p && q) ≡ true
    go p q u v = rw (u, v)

plain_least : (m : ℕ) (e : ℤ) → le zero32 (fin false m e) ≡ true
unfolding le lt eq
plain_least m e = not_above (0 * 1 * down e) (m * up e * 1) ∙ le-leb (0 * 1 * down e) (m * up e * 1) (omega arith)

-- a finite float of 32 bits is at most the last one
less : (n : ℕ) → n < 16777216 → n ≤ 16777215
less n h = omega arith

by_last : (m q p : ℕ) → 0 < p → m * (q * p) < 16777216 * p → m * (q * p) ≤ 16777215 * p
by_last m q p P h =
    let a : m * q * p < 16777216 * p = subst (λ (z : ℕ). z < 16777216 * p) (sym (mul_assoc m q p)) h in
    let b : m * q < 16777216 = lt_of_not-le (λ (g : 16777216 ≤ m * q). not-le_of_lt a (mul-le-mul_right p g)) in
    le_trans (le_of_eq (sym (mul_assoc m q p))) (mul-le-mul_right p (less (m * q) b))

power_most : (m j : ℕ) → m < 16777216 → m * 2 ^ j < 2 ^ 128 → m * 2 ^ j ≤ 16777215 * 2 ^ 104
power_most m j s h = go (lt_or_ge 104 j)
  where
    back : 104 < j → j - 104 + 104 ≡ j
    back l = omega arith

    go : (104 < j) ⊎ (j ≤ 104) → m * 2 ^ j ≤ 16777215 * 2 ^ 104
    go (inl l) =
        let e : 2 ^ j ≡ 2 ^ (j - 104) * 2 ^ 104 = ap (λ (z : ℕ). 2 ^ z) (sym (back l)) ∙ pow-add 2 (j - 104) 104 in
        subst (λ (z : ℕ). m * z ≤ 16777215 * 2 ^ 104) (sym e) (by_last m (2 ^ (j - 104)) (2 ^ 104) (pow_pos 104) (subst (λ (z : ℕ). m * z < 2 ^ 128) e h))
    go (inr g) = mul-le-mul (less m s) (pow_mono g)

last_most : (m : ℕ) (e : ℤ) → m < 16777216 → m * up e < 2 ^ 128 * down e → m * up e * 1 ≤ 16777215 * 2 ^ 104 * down e
last_most m (pos j) s h = le_trans (le_of_eq (mul-one (m * 2 ^ j))) (le_trans (power_most m j s (subst (λ (z : ℕ). m * 2 ^ j < z) (mul-one (2 ^ 128)) h)) (le_of_eq (sym (mul-one (16777215 * 2 ^ 104)))))
last_most m (negsuc k) s h = most m (2 ^ suc k) s (pow_pos (suc k))
  where
    most : (m d : ℕ) → m < 16777216 → 0 < d → m * 1 * 1 ≤ 16777215 * 2 ^ 104 * d
    most m d s p =
        le_trans (le_of_eq (mul-one (m * 1) ∙ mul-one m))
        (le_trans (le_trans (less m s) (le_of_eq (sym (mul-one 16777215))))
        (le_trans (mul-le-mul (le_of_eq refl) (mul-pos (pow_pos 104) p)) (le_of_eq (sym (mul_assoc 16777215 (2 ^ 104) d)))))

fits_last : (m : ℕ) (e : ℤ) → T (fits binary32 (fin false m e)) → le (fin false m e) last32 ≡ true
unfolding le lt eq fits
fits_last zero e t = not_above (0 * up e * 1) (16777215 * 2 ^ 104 * down e) ∙ le-leb (0 * up e * 1) (16777215 * 2 ^ 104 * down e) (le_trans (le_of_eq (mul-one (0 * up e) ∙ zero-mul (up e))) zero-le)
fits_last (suc m) e t =
    not_above (suc m * up e * 1) (16777215 * 2 ^ 104 * down e)
    ∙ le-leb (suc m * up e * 1) (16777215 * 2 ^ 104 * down e)
    (last_most (suc m) e
    (ltb→lt (suc m) (2 ^ 24) (and_r (eqb (suc m % 2) 1) (ltb (suc m) (2 ^ 24)) (and_l (eqb (suc m % 2) 1 && ltb (suc m) (2 ^ 24)) (leb (down e) (2 ^ 149)) (and_l (eqb (suc m % 2) 1 && ltb (suc m) (2 ^ 24) && leb (down e) (2 ^ 149)) (ltb (suc m * up e) (2 ^ 128 * down e)) t))))
    (ltb→lt (suc m * up e) (2 ^ 128 * down e) (and_r (eqb (suc m % 2) 1 && ltb (suc m) (2 ^ 24) && leb (down e) (2 ^ 149)) (ltb (suc m * up e) (2 ^ 128 * down e)) t)))

minus_zero_last : (e : ℤ) → le (fin true zero e) last32 ≡ true
unfolding le lt eq
minus_zero_last e = rw (lt-ltb 0 (0 * up e * 1 + 16777215 * 2 ^ 104 * down e) (more (0 * up e * 1) (16777215 * 2 ^ 104 * down e) (mul-pos (mul-pos (zero-lt-suc 16777214) (pow_pos 104)) (down_pos e))))
  where
    more : (a b : ℕ) → 0 < b → 0 < a + b
    more a b h = omega arith

pub fault_none_said : (x : Float) → le zero32 x ≡ true → le x last32 ≡ true → 0 ≡ bit (faulty (reading_of x))
unfolding reading_of le lt eq
fault_none_said nan h k = absurd (true≢false (sym h))
fault_none_said (inf true) h k = absurd (true≢false (sym h))
fault_none_said (inf false) h k = absurd (true≢false (sym k))
fault_none_said (fin true zero e) h k = refl
fault_none_said (fin true (suc m) e) h k = absurd (not_least m e h)
fault_none_said (fin false m e) h k = sym (ap bit (no_fault (m * up e / down e)))

pub fault_past : (x : Float) → T (fits binary32 x) → le zero32 x ≡ true → le x last32 ≡ false → 1 ≡ bit (faulty (reading_of x))
unfolding reading_of le lt eq
fault_past nan t h k = refl
fault_past (inf s) t h k = refl
fault_past (fin true zero e) t h k = absurd (true≢false (sym (minus_zero_last e) ∙ k))
fault_past (fin true (suc m) e) t h k = refl
fault_past (fin false m e) t h k = absurd (true≢false (sym (fits_last m e t) ∙ k))

pub fault_before : (x : Float) → le zero32 x ≡ false → 1 ≡ bit (faulty (reading_of x))
unfolding reading_of le lt eq
fault_before nan h = refl
fault_before (inf s) h = refl
fault_before (fin true zero e) h = absurd (true≢false (sym (minus_zero_least e) ∙ h))
fault_before (fin true (suc m) e) h = refl
fault_before (fin false m e) h = absurd (true≢false (sym (plain_least m e) ∙ h))
