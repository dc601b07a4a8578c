-- Floats of 32 bits that are whole numbers: a fraction from 2 to the power of 23 to below twice that is rounded to one of the two whole numbers next to it, the
-- difference of two whole numbers is exact, and one below 65,536 is cast to itself.
-- Assumes nothing.
use mathlib.Core.Path.{◌≡◌, refl, sym, ap, ap₂, ◌∙◌, subst}
use mathlib.Core.Bool.{Bool, true, false, ◌&&◌, cond, true≢false}
use Prim.Native.Nat.{ℕ, suc, ◌+◌, ◌-◌, ◌*◌, ◌/◌, ◌%◌, ◌^◌, ◌≤◌, ◌<◌, compare}
use native.Mathlib.Nat.{le_trans, le_of_eq, le_antisymm, lt_of_lt_of_le, lt_of_le_of_lt, lt_of_not-le, not-le_of_lt, mul-one, mul_comm, mul_assoc, mul_right_comm, mul-pos, mul-sub, mul-le-mul_right, mul-lt-mul_of_pos_right, mul-div_cancel, mul-mod_left, eq_of_mul-eq-mul_right, suc-add, le-div_iff_mul-le, div-lt_iff_lt-mul}
use native.Mathlib.Omega.{arith}
use lib.Dec.{T, ltb, leb, eqb, ltb→lt, lt→ltb, le→leb, lit<}
use lib.Pow.{pow-add, pow_pos, pow_mono, pow-lt}
use lib.Ieee.{Float, nan, inf, fin, Format, binary32, up, down, size, round, sum, add, sub, neg, whole, in_unsigned, to_unsigned}
use lib.Ieee.Digits.{size-lt, size-le}
use lib.Ieee.Fits.{nearest-le, down_pos, and_i}
use lib.Ieee.Casts.{to_unsigned_cut}
use lib.Ieee.Exact.{HasValue}
use lib.Ieee.Nearest.{closest, closest_same, nearest-ge}
use lib.Ieee.Order.{drop, kept}
use lib.Ieee.Scale.{grid, overflow, round_val, round_same}
use lib.Ieee.Back.{round_whole}

-- ---- the nearest whole number

pub closest_low : (a c : ℕ) → a / c ≤ closest a c
closest_low a c = nearest-ge (a / c) (compare (a % c * 2) c)

pub closest_high : (a c : ℕ) → closest a c ≤ suc (a / c)
closest_high a c = nearest-le (a / c) (compare (a % c * 2) c)

-- ---- a fraction whose whole part has just the digits that are kept: the digits behind the point are dropped

size_is : (n j : ℕ) → 2 ^ j ≤ n → n < 2 ^ suc j → size n ≡ suc j
size_is n j lo hi = le_antisymm (size-le n (suc j) hi) (lt_of_not-le (λ (g : size n ≤ j). not-le_of_lt (lt_of_lt_of_le (size-lt n) (pow_mono g)) lo))

module _ (p l a c : ℕ) (C : 0 < c) (lo : 2 ^ p * c ≤ a) (hi : a < 2 ^ suc p * c) where
  drop_is : drop (suc p) (a * 2 ^ l) c ≡ l
  drop_is =
      let below : 2 ^ (p + l) ≤ a * 2 ^ l / c =
      (le-div_iff_mul-le C).1 (le_trans (le_of_eq (ap (λ (x : ℕ). x * c) (pow-add 2 p l) ∙ mul_right_comm (2 ^ p) (2 ^ l) c)) (mul-le-mul_right (2 ^ l) lo)) in
      let above : a * 2 ^ l / c < 2 ^ (suc p + l) =
      (div-lt_iff_lt-mul C).1 (lt_of_lt_of_le (mul-lt-mul_of_pos_right hi (pow_pos l)) (le_of_eq (mul_right_comm (2 ^ suc p) c (2 ^ l) ∙ ap (λ (x : ℕ). x * c) (sym (pow-add 2 (suc p) l))))) in
      left (size (a * 2 ^ l / c)) (size_is (a * 2 ^ l / c) (p + l) below (subst (λ (z : ℕ). a * 2 ^ l / c < 2 ^ z) (suc-add p l) above))
    where
      left : (z : ℕ) → z ≡ suc (p + l) → z - suc p ≡ l
      left z e = omega arith

  grid_is : kept (suc p) (a * 2 ^ l) c * 2 ^ drop (suc p) (a * 2 ^ l) c ≡ closest a c * 2 ^ l
  grid_is =
      ap (λ (z : ℕ). closest (a * 2 ^ l) (c * 2 ^ z) * 2 ^ z) drop_is
      ∙ ap (λ (z : ℕ). z * 2 ^ l) (closest_same (a * 2 ^ l) (c * 2 ^ l) a c (mul-pos C (pow_pos l)) C (mul_right_comm a (2 ^ l) c ∙ mul_assoc a c (2 ^ l)))

-- a value in units, as a whole number
scaled : (x : Float) (q l : ℕ) → 0 < l → HasValue x false (q * l) l → HasValue x false q 1
scaled nan q l p v = v
scaled (inf s) q l p v = v
scaled (fin s m e) q l p v =
    (v.0, eq_of_mul-eq-mul_right l p (m * up e * 1) (q * down e) (ap (λ (z : ℕ). z * l) (mul-one (m * up e)) ∙ v.1 ∙ mul_right_comm q l (down e)))

fits_under : (q l : ℕ) → q ≤ 2 ^ 24 → q * 2 ^ l < 2 ^ (l + 128)
fits_under q l h =
    lt_of_le_of_lt (mul-le-mul_right (2 ^ l) h) (lt_of_le_of_lt (le_of_eq (sym (pow-add 2 24 l))) (pow-lt (room l)))
  where
    room : (l : ℕ) → 24 + l < l + 128
    room l = omega arith

pub round_closest : (a c : ℕ) → 0 < c → 2 ^ 23 * c ≤ a → a < 2 ^ 24 * c → HasValue (round binary32 false a c) false (closest a c) 1
round_closest a c C lo hi =
    let is : grid binary32 a c ≡ closest a c * 2 ^ 149 = grid_is 23 149 a c C lo hi in
    let small : closest a c ≤ 2 ^ 24 = le_trans (closest_high a c) ((div-lt_iff_lt-mul C).1 hi) in
    scaled (round binary32 false a c) (closest a c) (2 ^ 149) (pow_pos 149)
    (subst (λ (z : ℕ). HasValue (round binary32 false a c) false z (2 ^ 149)) is
    (round_val binary32 a c (subst (λ (z : ℕ). z < overflow binary32) (sym is) (fits_under (closest a c) 149 small))))

-- ---- the difference of two whole numbers

pick : (f : Format) (a b c : ℕ) → b ≤ a → sum f false a true b c ≡ round f false (a - b) c
unfolding sum
pick f a b c h = go (ltb a b) (ltb→lt a b)
  where
    go : (t : Bool) → (T t → a < b) → cond t (round f true (b - a) c) (round f false (a - b) c) ≡ round f false (a - b) c
    go true k = absurd (not-le_of_lt (k tt) h)
    go false k = refl

exact : (n m c : ℕ) → 0 < c → m ≤ n → n ≤ 2 ^ 24 → HasValue (sum binary32 false (n * c) true (m * c) c) false (n - m) 1
exact n m c C h N =
    subst (λ (z : Float). HasValue z false (n - m) 1)
    (sym (pick binary32 (n * c) (m * c) c (mul-le-mul_right c h)
    ∙ round_same binary32 false (n * c - m * c) c (n - m) 1 C (lit< tt) (mul-one (n * c - m * c) ∙ sym (mul_comm (n - m) c ∙ mul-sub c n m ∙ ap₂ (λ (x y : ℕ). x - y) (mul_comm c n) (mul_comm c m)))))
    (round_whole binary32 false (n - m) (le_trans (less n m) N))
  where
    less : (n m : ℕ) → n - m ≤ n
    less n m = omega arith

pub sub_whole : (y z : Float) (n m : ℕ) → HasValue y false n 1 → HasValue z false m 1 → m ≤ n → n ≤ 2 ^ 24 → HasValue (sub binary32 y z) false (n - m) 1
unfolding sub add neg
sub_whole nan z n m v w h N = absurd v
sub_whole (inf s) z n m v w h N = absurd v
sub_whole (fin true k e) z n m v w h N = absurd (true≢false v.0)
sub_whole (fin false k e) nan n m v w h N = absurd w
sub_whole (fin false k e) (inf t) n m v w h N = absurd w
sub_whole (fin false k e) (fin true j d) n m v w h N = absurd (true≢false w.0)
sub_whole (fin false k e) (fin false j d) n m v w h N =
    let a : k * up e * down d ≡ n * (down e * down d) = ap (λ (x : ℕ). x * down d) (sym (mul-one (k * up e)) ∙ v.1) ∙ mul_assoc n (down e) (down d) in
    let b : j * up d * down e ≡ m * (down e * down d) = ap (λ (x : ℕ). x * down e) (sym (mul-one (j * up d)) ∙ w.1) ∙ mul_assoc m (down d) (down e) ∙ ap (λ (x : ℕ). m * x) (mul_comm (down d) (down e)) in
    subst (λ (x : ℕ). HasValue (sum binary32 false x true (j * up d * down e) (down e * down d)) false (n - m) 1) (sym a)
    (subst (λ (x : ℕ). HasValue (sum binary32 false (n * (down e * down d)) true x (down e * down d)) false (n - m) 1) (sym b)
    (exact n m (down e * down d) (mul-pos (down_pos e) (down_pos d)) h N))

-- ---- as an integer of 16 bits

pub cast_whole : (x : Float) (g : ℕ) → HasValue x false g 1 → g < 65536 → T (in_unsigned binary32 16 x) × (to_unsigned 16 x ≡ g)
unfolding in_unsigned whole
cast_whole nan g v h = absurd v
cast_whole (inf s) g v h = absurd v
cast_whole (fin true m e) g v h = absurd (true≢false v.0)
cast_whole (fin false m e) g v h =
    let q : m * up e ≡ g * down e = sym (mul-one (m * up e)) ∙ v.1 in
    let cut : m * up e / down e ≡ g = ap (λ (x : ℕ). x / down e) q ∙ mul-div_cancel g (down_pos e) in
    let none : m * up e % down e ≡ 0 = ap (λ (x : ℕ). x % down e) q ∙ mul-mod_left g (down e) in
    let t : T (in_unsigned binary32 16 (fin false m e)) =
    subst (λ (c : ℕ). T ((eqb (m * up e % down e) 0 && leb c (2 ^ 24) && true) && (true && ltb c (2 ^ 16)))) (sym cut)
    (subst (λ (r : ℕ). T ((eqb r 0 && leb g (2 ^ 24) && true) && (true && ltb g (2 ^ 16)))) (sym none)
    (and_i (eqb 0 0 && leb g (2 ^ 24) && true) (ltb g (2 ^ 16)) (and_i (eqb 0 0 && leb g (2 ^ 24)) true (le→leb g (2 ^ 24) (small g h)) tt) (lt→ltb g (2 ^ 16) h))) in
    (t, to_unsigned_cut binary32 16 false m e t ∙ cut)
  where
    small : (g : ℕ) → g < 65536 → g ≤ 16777216
    small g h = omega arith
