-- The lowest set bit of a number, by its trailing zeros.
-- Assumes nothing.
use mathlib.Core.Path.{◌≡◌, refl, sym, ap, ◌∙◌, subst}
use mathlib.Core.Logic.{◌⊎◌, inl, inr, ⊎_elim}
use Prim.Native.Nat.{ℕ, zero, suc, ◌*◌, ◌/◌, ◌%◌, ◌^◌, ◌<◌, zero-le, suc-le-suc}
use native.Mathlib.Nat.{not-suc-le-zero, le_of_suc-le-suc, div-div-eq-div-mul, pow-succ', div-one, eq-zero-or-pos, pow-suc}
use native.Mathlib.Omega.{arith}
use lib.Count.{count_trailing_zeros, under}

under_lt : (d t k : ℕ) → (d ≡ 0 → t < k) → under d t < suc k
under_lt zero t k f = suc-le-suc (f refl)
under_lt (suc d) t k f = suc-le-suc zero-le

-- a number that is not 0 and has k digits has fewer than k trailing zeros
pub trailing_lt : (k n : ℕ) → 0 < n → n < 2 ^ k → count_trailing_zeros k n < k
unfolding count_trailing_zeros
trailing_lt zero n p h = absurd (none n p h)
  where
    none : (n : ℕ) → 0 < n → n < 1 → ⊥
    none n p h = omega arith
trailing_lt (suc k) n p h =
    under_lt (n % 2) (count_trailing_zeros k (n / 2)) k
    (λ (e : n % 2 ≡ 0). trailing_lt k (n / 2) (half_pos n p e) (half_lt n (2 ^ k) (subst (λ (x : ℕ). n < x) (pow-suc 2 k) h)))
  where
    half_pos : (n : ℕ) → 0 < n → n % 2 ≡ 0 → 0 < n / 2
    half_pos n p e = omega arith

    half_lt : (n m : ℕ) → n < m * 2 → n / 2 < m
    half_lt n m h = omega arith

-- a digit of n above the lowest is one of n / 2
shift_down : (n j : ℕ) → n / 2 ^ suc j % 2 ≡ n / 2 / 2 ^ j % 2
shift_down n j = ap (λ (x : ℕ). x % 2) (ap (λ (x : ℕ). n / x) (pow-succ' 2 j) ∙ sym (div-div-eq-div-mul n 2 (2 ^ j)))

-- even or odd
pub even_or_odd : (n : ℕ) → (n % 2 ≡ 0) ⊎ (n % 2 ≡ 1)
even_or_odd n = ⊎_elim (λ (h : n % 2 ≡ 0). inl h) (λ (h : 0 < n % 2). inr (one n h)) (eq-zero-or-pos (n % 2))
  where
    one : (n : ℕ) → 0 < n % 2 → n % 2 ≡ 1
    one n h = omega arith

under_zero : (d t : ℕ) → d ≡ 0 → under d t ≡ suc t
under_zero d t e = rw e

under_one : (d t : ℕ) → d ≡ 1 → under d t ≡ 0
under_one d t e = rw e

-- the lowest set digit is set
pub trailing_set : (k n : ℕ) → count_trailing_zeros k n < k → n / 2 ^ count_trailing_zeros k n % 2 ≡ 1
unfolding count_trailing_zeros
trailing_set zero n h = absurd (not-suc-le-zero h)
trailing_set (suc k) n h =
    let t = count_trailing_zeros k (n / 2) in
    ⊎_elim
    (λ (e : n % 2 ≡ 0). subst (λ (x : ℕ). n / 2 ^ x % 2 ≡ 1) (sym (under_zero (n % 2) t e))
    (shift_down n t ∙ trailing_set k (n / 2) (le_of_suc-le-suc (subst (λ (x : ℕ). x < suc k) (under_zero (n % 2) t e) h))))
    (λ (e : n % 2 ≡ 1). subst (λ (x : ℕ). n / 2 ^ x % 2 ≡ 1) (sym (under_one (n % 2) t e)) (ap (λ (x : ℕ). x % 2) (div-one n) ∙ e))
    (even_or_odd n)
