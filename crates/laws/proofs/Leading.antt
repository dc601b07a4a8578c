-- Laws of `leading`, the first place at which a test fails: it is the only place before which all hold and at which the test does not.
-- Assumes nothing.
use Prim.Native.Nat.{ℕ, zero, suc, ◌+◌, ◌≤◌, ◌<◌}
use mathlib.Core.Path.{◌≡◌, refl, sym, ap, subst}
use mathlib.Core.Bool.{Bool, true, false, cond}
use mathlib.Core.Logic.{◌⊎◌, inl, inr}
use native.Mathlib.Nat.{not-suc-le-zero, eq-or-lt_of_le, le_of_suc-le-suc}
use native.Mathlib.Numerals.{add-one}
use native.Mathlib.Omega.{arith}
use Rattle.laws.specs.Leading.{leading}

-- the test holds at each place before m
abbrev pub HoldsTo : (ℕ → Bool) → ℕ → Type 0
HoldsTo f m = (i : ℕ) → i < m → f i ≡ true

pub holds_to_none : (f : ℕ → Bool) → HoldsTo f 0
holds_to_none f i h = absurd (not-suc-le-zero h)

-- what is so at each place before m, and at m
pub before_more : (P : ℕ → Type 0) (m : ℕ) → ((i : ℕ) → i < m → P i) → P m → (i : ℕ) → i < m + 1 → P i
before_more P m a e i h = go (eq-or-lt_of_le (le_of_suc-le-suc (rw (add-one m) at h)))
  where
    go : (i ≡ m) ⊎ (i < m) → P i
    go (inl q) = subst P (sym q) e
    go (inr l) = a i l

pub holds_more : (f : ℕ → Bool) (m : ℕ) → HoldsTo f m → f m ≡ true → HoldsTo f (m + 1)
holds_more f = before_more (λ (i : ℕ). f i ≡ true)

-- ---- what the first place is

pub leading_le : (f : ℕ → Bool) (n : ℕ) → leading f n ≤ n
unfolding leading
leading_le f zero = omega arith
leading_le f (suc n) = go (f 0) (leading_le (λ (i : ℕ). f (suc i)) n)
  where
    go : (b : Bool) → leading (λ (i : ℕ). f (suc i)) n ≤ n → cond b (suc (leading (λ (i : ℕ). f (suc i)) n)) 0 ≤ suc n
    go true h = omega arith
    go false h = omega arith

pub leading_holds : (f : ℕ → Bool) (n : ℕ) → HoldsTo f (leading f n)
unfolding leading
leading_holds f zero i h = absurd (not-suc-le-zero h)
leading_holds f (suc n) i h = go (f 0) refl i h (leading_holds (λ (i : ℕ). f (suc i)) n)
  where
    go : (b : Bool) → f 0 ≡ b → (i : ℕ) → i < cond b (suc (leading (λ (i : ℕ). f (suc i)) n)) 0 → HoldsTo (λ (i : ℕ). f (suc i)) (leading (λ (i : ℕ). f (suc i)) n) → f i ≡ true
    go false e i h ih = absurd (not-suc-le-zero h)
    go true e zero h ih = e
    go true e (suc i) h ih = ih i (le_of_suc-le-suc h)

pub leading_stops : (f : ℕ → Bool) (n : ℕ) → leading f n < n → f (leading f n) ≡ false
unfolding leading
leading_stops f zero h = absurd (not-suc-le-zero h)
leading_stops f (suc n) h = go (f 0) refl h (leading_stops (λ (i : ℕ). f (suc i)) n)
  where
    go : (b : Bool) → f 0 ≡ b → cond b (suc (leading (λ (i : ℕ). f (suc i)) n)) 0 < suc n
        → (leading (λ (i : ℕ). f (suc i)) n < n → f (suc (leading (λ (i : ℕ). f (suc i)) n)) ≡ false)
        → f (cond b (suc (leading (λ (i : ℕ). f (suc i)) n)) 0) ≡ false
    go true e h ih = ih (le_of_suc-le-suc h)
    go false e h ih = e

-- ---- and that it is the only one

pub leading_at : (f : ℕ → Bool) (n m : ℕ) → m < n → HoldsTo f m → f m ≡ false → leading f n ≡ m
unfolding leading
leading_at f zero m h a e = absurd (not-suc-le-zero h)
leading_at f (suc n) zero h a e = rw e
leading_at f (suc n) (suc m) h a e =
    rw (a 0 (omega arith)) (ap suc (leading_at (λ (i : ℕ). f (suc i)) n m (le_of_suc-le-suc h) (λ i l. a (suc i) (omega arith)) e))

pub leading_all : (f : ℕ → Bool) (n : ℕ) → HoldsTo f n → leading f n ≡ n
unfolding leading
leading_all f zero a = refl
leading_all f (suc n) a = rw (a 0 (omega arith)) (ap suc (leading_all (λ (i : ℕ). f (suc i)) n (λ i l. a (suc i) (omega arith))))

-- tests that agree before n
pub leading_same : (f g : ℕ → Bool) (n : ℕ) → ((i : ℕ) → i < n → f i ≡ g i) → leading f n ≡ leading g n
unfolding leading
leading_same f g zero e = refl
leading_same f g (suc n) e =
    rw (e 0 (omega arith), leading_same (λ (i : ℕ). f (suc i)) (λ (i : ℕ). g (suc i)) n (λ i l. e (suc i) (omega arith)))
