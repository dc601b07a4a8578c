-- Floats from plus zero to a whole number n, in either format: sums, products and quotients of such stay such, and a rounding changes nothing of that.
-- `Within n x` says that x is finite, has the sign plus (so it is not minus zero), and is at most n.
-- Assumes nothing.
use mathlib.Core.Path.{◌≡◌, refl, sym, ap, ◌∙◌, subst}
use mathlib.Core.Bool.{Bool, true, false, not, ◌&&◌, ◌||◌, cond, true≢false}
use Prim.Native.Nat.{ℕ, zero, suc, ◌+◌, ◌*◌, ◌^◌, ◌≤◌, ◌<◌, zero-le}
use borrow.Author.Tests.{le-ltb}
use native.Mathlib.Nat.{zero-mul, sub-zero, mul-le-mul, mul-mul-mul_comm, le_trans, le_of_eq, le_of_lt, lt_irrefl, mul-one, one-mul, mul_comm, mul_assoc, mul_right_comm, add-mul, mul-le-mul_right, mul-pos, add-le-add}
use lib.IntN.{ℤ, pos}
use lib.Dec.{T, ltb, eqb, eqb→eq, ltb→lt, lit<, lit≤, eqb-suc-zero}
use lib.Ieee.{Float, nan, inf, fin, Format, binary32, binary64, prec, emax, low, up, down, odd, units, round, sum, add, mul, div, le, of_int, is_nan}
use lib.Ieee.Fits.{round_is, and_l}
use lib.Ieee.Exact.{HasValue}
use lib.Ieee.Back.{round_whole}
use lib.Ieee.Order.{round_mono, le_of_values, drop, kept}
use lib.Ieee.Positive.{num, den, den_pos, through, value→cross, first_pos}

-- finite, with the sign plus
abbrev pub plain : Float → Bool
plain nan = false
plain (inf s) = false
plain (fin s m e) = not s

abbrev pub Within : ℕ → Float → Type 0
Within n x = T (plain x) × (num x ≤ n * den x)

pub wider : (x : Float) {m n : ℕ} → m ≤ n → Within m x → Within n x
wider x h w = (w.0, le_trans w.1 (mul-le-mul_right (den x) h))

pub either : (b : Bool) (n : ℕ) (x y : Float) → Within n x → Within n y → Within n (cond b x y)
either true n x y v w = v
either false n x y v w = w

-- ---- what `round` gives has the sign plus
abbrev pub plus : Float → Bool
plus nan = false
plus (inf s) = not s
plus (fin s m e) = not s

odd_plus : (d q k l : ℕ) → T (plus (odd d false q k l))
unfolding odd
odd_plus d zero k l = tt
odd_plus d (suc q) k l = tt

units_plus : (f : Format) (q k : ℕ) → T (plus (units f false q k))
unfolding units
units_plus f q k = go (ltb (q * 2 ^ k) (2 ^ (low f + suc (emax f))))
  where
    go : (b : Bool) → T (plus (cond b (odd (suc (prec f)) false q k (low f)) (inf false)))
    go true = odd_plus (suc (prec f)) q k (low f)
    go false = tt

round_plus : (f : Format) (a b : ℕ) → T (plus (round f false a b))
round_plus f a b = subst (λ (x : Float). T (plus x)) (sym (round_is f false a b)) (units_plus f (kept (prec f) (a * 2 ^ low f) b) (drop (prec f) (a * 2 ^ low f) b))

-- ---- what is at most a whole number's float
lt_or_eq : (a b : ℕ) → T (ltb a b || (eqb a b && true)) → a ≤ b
lt_or_eq a b t = go (ltb a b) (ltb→lt a b) t
  where
    go : (s : Bool) → (T s → a < b) → T (s || (eqb a b && true)) → a ≤ b
    go true h u = le_of_lt (h tt)
    go false h u = le_of_eq (eqb→eq a b (and_l (eqb a b) true u))

pub at_most : (x y : Float) (n : ℕ) → T (plus x) → HasValue y false n 1 → T (le x y) → Within n x
unfolding le
at_most nan y n p h l = absurd p
at_most (inf s) nan n p h l = absurd h
at_most (inf s) (inf t) n p h l = absurd h
at_most (inf true) (fin t k d) n p h l = absurd p
at_most (inf false) (fin t k d) n p h l = absurd l
at_most (fin true m e) y n p h l = absurd p
at_most (fin false m e) nan n p h l = absurd h
at_most (fin false m e) (inf t) n p h l = absurd h
at_most (fin false m e) (fin true k d) n p h l = absurd (true≢false h.0)
at_most (fin false m e) (fin false k d) n p h l =
    (tt, le_trans (le_of_eq (sym (mul-one (m * up e)))) (through (m * up e) (k * up d) n (down e) (down d) 1 (den_pos (fin false k d)) (lt_or_eq (m * up e * down d) (k * up d * down e) l) (le_of_eq h.1)))

-- a fraction that is at most n rounds to a float that is at most n
pub round_within : (f : Format) (a b n : ℕ) → 0 < b → n ≤ 2 ^ prec f → a ≤ n * b → Within n (round f false a b)
round_within f a b n B N h =
    at_most (round f false a b) (round f false n 1) n (round_plus f a b) (round_whole f false n N) (round_mono f a b n 1 B (lit< tt) (le_trans (le_of_eq (mul-one a)) h))

-- ---- sums and quotients, as fractions that are rounded
pub add_is : (f : Format) (x y : Float) → T (plain x) → T (plain y) → add f x y ≡ round f false (num x * den y + num y * den x) (den x * den y)
unfolding add
add_is f nan y p q = absurd p
add_is f (inf s) y p q = absurd p
add_is f (fin true m e) y p q = absurd p
add_is f (fin false m e) nan p q = absurd q
add_is f (fin false m e) (inf t) p q = absurd q
add_is f (fin false m e) (fin true n d) p q = absurd q
add_is f (fin false m e) (fin false n d) p q = refl

pub div_is : (f : Format) (x y : Float) → T (plain x) → T (plain y) → 0 < num y → div f x y ≡ round f false (num x * den y) (num y * den x)
unfolding div
div_is f nan y p q h = absurd p
div_is f (inf s) y p q h = absurd p
div_is f (fin true m e) y p q h = absurd p
div_is f (fin false m e) nan p q h = absurd q
div_is f (fin false m e) (inf t) p q h = absurd q
div_is f (fin false m e) (fin true n d) p q h = absurd q
div_is f (fin false m e) (fin false zero d) p q h = absurd (lt_irrefl 0 (first_pos 0 (up d) h))
div_is f (fin false m e) (fin false (suc n) d) p q h = simp (eqb-suc-zero n)

pub add_within : (f : Format) (x y : Float) (m n : ℕ) → m + n ≤ 2 ^ prec f → Within m x → Within n y → Within (m + n) (add f x y)
add_within f x y m n N v w =
    subst (Within (m + n)) (sym (add_is f x y v.0 w.0))
    (round_within f (num x * den y + num y * den x) (den x * den y) (m + n) (mul-pos (den_pos x) (den_pos y)) N
    (let a : num x * den y ≤ m * (den x * den y) = le_trans (mul-le-mul_right (den y) v.1) (le_of_eq (mul_assoc m (den x) (den y))) in
    let b : num y * den x ≤ n * (den x * den y) = le_trans (mul-le-mul_right (den x) w.1) (le_of_eq (simp (mul_assoc, mul_comm))) in
    le_trans (add-le-add a b) (le_of_eq (sym (add-mul m n (den x * den y))))))

-- ---- whole numbers as floats
pub whole_value : (f : Format) (n : ℕ) → n ≤ 2 ^ prec f → HasValue (of_int f (pos n)) false n 1
unfolding of_int
whole_value f n N = round_whole f false n N

pub whole_within : (f : Format) (a n : ℕ) → n ≤ 2 ^ prec f → a ≤ n → Within n (of_int f (pos a))
unfolding of_int
whole_within f a n N h = round_within f a 1 n (lit< tt) N (le_trans h (le_of_eq (sym (mul-one n))))

-- what is at most n, divided by n
pub div_within : (f : Format) (x : Float) (n : ℕ) → 0 < n → n ≤ 2 ^ prec f → Within n x → Within 1 (div f x (of_int f (pos n)))
div_within f x n P N w =
    let y = of_int f (pos n) in
    let v : num y ≡ n * den y = sym (mul-one (num y)) ∙ value→cross y n 1 (whole_value f n N) in
    let Y : 0 < num y = subst (λ (k : ℕ). 0 < k) (sym v) (mul-pos P (den_pos y)) in
    subst (Within 1) (sym (div_is f x y w.0 (whole_within f n n N (le_of_eq refl)).0 Y))
    (round_within f (num x * den y) (num y * den x) 1 (mul-pos Y (den_pos x)) (one_fits f)
    (le_trans (mul-le-mul_right (den y) w.1) (le_of_eq (mul_right_comm n (den x) (den y) ∙ ap (λ (k : ℕ). k * den x) (sym v) ∙ sym (one-mul (num y * den x))))))
  where
    one_fits : (f : Format) → 1 ≤ 2 ^ prec f
    one_fits binary32 = lit≤ tt
    one_fits binary64 = lit≤ tt

-- ---- products

mul_is : (f : Format) (x y : Float) → T (plain x) → T (plain y) → mul f x y ≡ round f false (num x * num y) (den x * den y)
unfolding mul
mul_is f nan y p q = absurd p
mul_is f (inf s) y p q = absurd p
mul_is f (fin true m e) y p q = absurd p
mul_is f (fin false m e) nan p q = absurd q
mul_is f (fin false m e) (inf t) p q = absurd q
mul_is f (fin false m e) (fin true n d) p q = absurd q
mul_is f (fin false m e) (fin false n d) p q = refl

pub mul_within : (f : Format) (x y : Float) (m n : ℕ) → m * n ≤ 2 ^ prec f → Within m x → Within n y → Within (m * n) (mul f x y)
mul_within f x y m n N v w =
    subst (Within (m * n)) (sym (mul_is f x y v.0 w.0))
    (round_within f (num x * num y) (den x * den y) (m * n) (mul-pos (den_pos x) (den_pos y)) N
    (le_trans (mul-le-mul v.1 w.1) (le_of_eq (mul-mul-mul_comm m (den x) n (den y)))))

-- a factor that is at most n gives at most what n gives
pub mul_most : (f : Format) (x y : Float) (n : ℕ) → n ≤ 2 ^ prec f → Within n x → T (plain y) → T (le (mul f x y) (mul f (of_int f (pos n)) y))
mul_most f x y n N v q =
    let w = of_int f (pos n) in
    let is : num w ≡ n * den w = sym (mul-one (num w)) ∙ value→cross w n 1 (whole_value f n N) in
    let cross : num x * den w ≤ num w * den x = le_trans (mul-le-mul_right (den w) v.1) (le_of_eq (mul_right_comm n (den x) (den w) ∙ ap (λ (k : ℕ). k * den x) (sym is))) in
    subst (λ (z : Float). T (le z (mul f w y))) (sym (mul_is f x y v.0 q))
    (subst (λ (z : Float). T (le (round f false (num x * num y) (den x * den y)) z)) (sym (mul_is f w y (whole_within f n n N (le_of_eq refl)).0 q))
    (round_mono f (num x * num y) (den x * den y) (num w * num y) (den w * den y) (mul-pos (den_pos x) (den_pos y)) (mul-pos (den_pos w) (den_pos y))
    (le_trans (le_of_eq (mul-mul-mul_comm (num x) (num y) (den w) (den y)))
    (le_trans (mul-le-mul_right (num y * den y) cross) (le_of_eq (mul-mul-mul_comm (num w) (den x) (num y) (den y)))))))

-- a sum with minus zero
pub add_minus_zero : (f : Format) (x : Float) (m : ℕ) (e : ℤ) (n : ℕ) → n ≤ 2 ^ prec f → m * up e ≡ 0 → Within n x → Within n (add f x (fin true m e))
unfolding add sum
add_minus_zero f nan m e n N z v = absurd v.0
add_minus_zero f (inf s) m e n N z v = absurd v.0
add_minus_zero f (fin true k d) m e n N z v = absurd v.0
add_minus_zero f (fin false k d) m e n N z v =
    let none : m * up e * down d ≡ 0 = ap (λ (y : ℕ). y * down d) z ∙ zero-mul (down d) in
    rw (none, le-ltb (k * up d * down e) 0 zero-le, sub-zero)
    (round_within f (k * up d * down e) (down d * down e) n (mul-pos (den_pos (fin false k d)) (den_pos (fin true m e))) N
    (le_trans (mul-le-mul_right (down e) v.1) (le_of_eq (mul_assoc n (down d) (down e)))))

-- such a float is a number, and at least 0
pub plain_number : (x : Float) → T (plain x) → T (not (is_nan x))
unfolding is_nan
plain_number nan p = absurd p
plain_number (inf s) p = absurd p
plain_number (fin s m e) p = tt

pub plain_least : (x : Float) → T (plain x) → T (le (fin false 0 (pos 0)) x)
plain_least nan p = absurd p
plain_least (inf s) p = absurd p
plain_least (fin true m e) p = absurd p
plain_least (fin false m e) p =
    le_of_values (fin false 0 (pos 0)) (fin false m e) 0 1 (m * up e) (down e) (lit< tt) (den_pos (fin false m e)) (refl, refl) (refl, refl) (le_trans (le_of_eq (zero-mul (down e))) zero-le)
