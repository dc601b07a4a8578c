-- Tests that compute, and what follows where they pass.
-- Assumes nothing.
use mathlib.Core.Path.{◌≡◌, refl, sym, subst}
use mathlib.Core.Bool.{Bool, true, false, not, ◌&&◌, beq, true≢false}
use mathlib.Core.Logic.{◌⊎◌, inl, inr, ⊎_elim}
use Prim.Native.Nat.{ℕ, zero, suc, ◌≤◌, ◌<◌}
use native.Mathlib.Nat.{le_of_suc-le-suc, not-suc-le-zero, le_refl, le_trans, le-suc, eq-or-lt_of_le}
use native.Mathlib.Decide.{dec_lt}
use native.Mathlib.Omega.{arith}
use lib.Dec.{T}

abbrev pub both : Bool → Bool → Bool
both true b = b
both false b = false

abbrev pub one_of : Bool → Bool → Bool
one_of true b = true
one_of false b = b

pub left : (a b : Bool) → T (both a b) → T a
left true b t = tt
left false b t = t

pub right : (a b : Bool) → T (both a b) → T b
right true b t = t
right false b t = absurd t

pub cases : (a b : Bool) → T (one_of a b) → T a ⊎ T b
cases true b t = inl tt
cases false b t = inr t

-- if a passes then b does
pub imply : (a b : Bool) → T (one_of (not a) b) → a ≡ true → T b
imply true b t e = t
imply false b t e = absurd (subst T (sym e) tt)

pub is_true : (b : Bool) → T b → b ≡ true
is_true true t = refl
is_true false t = absurd t

pub same_eq : (a b : Bool) → T (beq a b) → a ≡ b
same_eq true true t = refl
same_eq true false t = absurd t
same_eq false true t = absurd t
same_eq false false t = refl

-- "and", by its parts
pub and_both : (a b : Bool) → (a && b) ≡ true → (a ≡ true) × (b ≡ true)
and_both true true e = (refl, refl)
and_both true false e = absurd (true≢false (sym e))
and_both false b e = absurd (true≢false (sym e))

-- where the first implies the second, both are what the first is
pub and_implied : (a b : Bool) → (a ≡ true → b ≡ true) → (a && b) ≡ a
and_implied true b f = f refl
and_implied false b f = refl

-- and as one test behind the other finds it: the first that fails decides, and else the last
pub and_fails : {a : Bool} (b : Bool) → a ≡ false → false ≡ (a && b)
and_fails b e = rw e

pub and_last : {a b : Bool} → a ≡ true → b ≡ (a && b)
and_last e = rw e

pub lt_or_ge : (a b : ℕ) → (a < b) ⊎ (b ≤ a)
lt_or_ge a b = go (dec_lt a b)
  where
    go : Dec (a < b) → (a < b) ⊎ (b ≤ a)
    go (yes l) = inl l
    go (no g) = inr (omega arith)

-- a number below n passes, or none does
pub some_or_none : (f : ℕ → Bool) (n : ℕ) → ((k : ℕ) × (k < n) × (f k ≡ true)) ⊎ ((k : ℕ) → k < n → f k ≡ false)
some_or_none f zero = inr (λ k h. absurd (not-suc-le-zero h))
some_or_none f (suc n) = go (f n) refl (some_or_none f n)
  where
    go : (b : Bool) → f n ≡ b → ((k : ℕ) × (k < n) × (f k ≡ true)) ⊎ ((k : ℕ) → k < n → f k ≡ false) → ((k : ℕ) × (k < suc n) × (f k ≡ true)) ⊎ ((k : ℕ) → k < suc n → f k ≡ false)
    go true e _ = inl (n, le_refl (suc n), e)
    go false e (inl s) = inl (s.0, le_trans s.1 (le-suc n), s.2)
    go false e (inr a) = inr (λ k h. ⊎_elim (λ (i : k ≡ n). subst (λ (x : ℕ). f x ≡ false) (sym i) e) (a k) (eq-or-lt_of_le (le_of_suc-le-suc h)))

-- f passes at true and at false
abbrev pub either_way : (Bool → Bool) → Bool
either_way f = both (f true) (f false)

pub either_way_at : (f : Bool → Bool) → T (either_way f) → (b : Bool) → T (f b)
either_way_at f t true = left (f true) (f false) t
either_way_at f t false = right (f true) (f false) t

-- f passes at each number below n
unfoldable pub below : ℕ → (ℕ → Bool) → Bool
below zero f = true
below (suc n) f = both (f n) (below n f)

pub below_at : (n : ℕ) (f : ℕ → Bool) → T (below n f) → (k : ℕ) → k < n → T (f k)
unfolding below
below_at zero f t k h = absurd (not-suc-le-zero h)
below_at (suc n) f t k h =
    ⊎_elim (λ (e : k ≡ n). subst (λ (x : ℕ). T (f x)) (sym e) (left (f n) (below n f) t))
    (λ (g : k < n). below_at n f (right (f n) (below n f) t) k g)
    (eq-or-lt_of_le (le_of_suc-le-suc h))

-- f passes at some number below n
unfoldable pub some : ℕ → (ℕ → Bool) → Bool
some zero f = false
some (suc n) f = one_of (f n) (some n f)

pub some_at : (n : ℕ) (f : ℕ → Bool) → T (some n f) → (k : ℕ) × (k < n) × T (f k)
unfolding some
some_at zero f t = absurd t
some_at (suc n) f t =
    ⊎_elim (λ (g : T (f n)). (n, le_refl (suc n), g))
    (λ (g : T (some n f)). let r = some_at n f g in (r.0, le_trans r.1 (le-suc n), r.2))
    (cases (f n) (some n f) t)
