-- Numbers in decimal: a digit at a time, how many digits there are, and that what was written is read back.
-- Assumes nothing.
use Prim.Native.Nat.{ℕ, zero, suc, ◌+◌, ◌*◌, ◌-◌, ◌/◌, ◌%◌, ◌^◌, ◌≤◌, ◌<◌}
use mathlib.Core.Path.{◌≡◌, refl, ap, ◌∙◌}
use mathlib.Core.Bool.{Bool, true, false, cond}
use mathlib.Core.Logic.{◌⊎◌, inl, inr}
use mathlib.Core.List.{List, [], ◌∷◌, ◌++◌}
use native.Mathlib.Nat.{not-suc-le-zero}
use native.Mathlib.Omega.{arith}
use lib.Dec.{ltb}
use lib.ListN.{length, get_or, length-append, get_or-append}
use borrow.Author.Tests.{lt-ltb, le-ltb, ltb-false}
use Rattle.laws.proofs.Tests.{lt_or_ge}
use Rattle.file_bytes.specs.Bytes.{digit, decimal_in, decimal}
use Rattle.file_bytes.specs.Words.{read_from, read_decimal}

-- ---- a digit at a time

-- any room for the digits that suffices gives the same
room_same : (j k n : ℕ) → n < j → n < k → decimal_in j n ≡ decimal_in k n
unfolding decimal_in
room_same zero k n h l = absurd (not-suc-le-zero h)
room_same (suc j) zero n h l = absurd (not-suc-le-zero l)
room_same (suc j) (suc k) n h l = go (ltb n 10) refl (room_same j k (n / 10))
  where
    go : (b : Bool) → ltb n 10 ≡ b → (n / 10 < j → n / 10 < k → decimal_in j (n / 10) ≡ decimal_in k (n / 10))
        → cond b [] (decimal_in j (n / 10)) ++ digit (n % 10) ∷ [] ≡ cond b [] (decimal_in k (n / 10)) ++ digit (n % 10) ∷ []
    go true e ih = refl
    go false e ih = ap (λ (ds : List ℕ). ds ++ digit (n % 10) ∷ []) (ih (omega (arith, h, ltb-false n 10 e)) (omega (arith, l, ltb-false n 10 e)))

pub decimal_small : (n : ℕ) → n < 10 → decimal n ≡ digit (n % 10) ∷ []
unfolding decimal_in
decimal_small n h = rw (lt-ltb n 10 h)

pub decimal_large : (n : ℕ) → 10 ≤ n → decimal n ≡ decimal (n / 10) ++ digit (n % 10) ∷ []
unfolding decimal_in
decimal_large n h = rw (le-ltb n 10 h) (ap (λ (ds : List ℕ). ds ++ digit (n % 10) ∷ []) (room_same n (suc (n / 10)) (n / 10) (omega (arith, h)) (omega arith)))

-- what is so of every number, a digit at a time
by_digits : (P : ℕ → Type 0) → ((n : ℕ) → n < 10 → P n) → ((n : ℕ) → 10 ≤ n → P (n / 10) → P n) → (n : ℕ) → P n
by_digits P small large n = go (suc n) n (omega arith)
  where
    go : (k m : ℕ) → m < k → P m
    go zero m h = absurd (not-suc-le-zero h)
    go (suc k) m h = split (lt_or_ge m 10) (go k)
      where
        split : (m < 10) ⊎ (10 ≤ m) → ((l : ℕ) → l < k → P l) → P m
        split (inl l) ih = small m l
        split (inr g) ih = large m g (ih (m / 10) (omega (arith, h, g)))

-- ---- how many digits

pub length_small : (n : ℕ) → n < 10 → length (decimal n) ≡ 1
length_small n h = ap length (decimal_small n h)

pub length_large : (n : ℕ) → 10 ≤ n → length (decimal n) ≡ length (decimal (n / 10)) + 1
length_large n h = ap length (decimal_large n h) ∙ length-append (decimal (n / 10)) (digit (n % 10) ∷ [])

pub length_some : (n : ℕ) → 1 ≤ length (decimal n)
length_some n = go (lt_or_ge n 10)
  where
    go : (n < 10) ⊎ (10 ≤ n) → 1 ≤ length (decimal n)
    go (inl l) = omega (arith, length_small n l)
    go (inr g) = omega (arith, length_large n g)

-- a number below 10 ^ k has at most k digits
pub length_most : (k n : ℕ) → 1 ≤ k → n < 10 ^ k → length (decimal n) ≤ k
length_most zero n h l = absurd (not-suc-le-zero h)
length_most (suc zero) n h l = omega (arith, length_small n (omega (arith, l)))
length_most (suc (suc k)) n h l = go (lt_or_ge n 10) (length_most (suc k) (n / 10) (omega arith))
  where
    go : (n < 10) ⊎ (10 ≤ n) → (n / 10 < 10 ^ suc k → length (decimal (n / 10)) ≤ suc k) → length (decimal n) ≤ suc (suc k)
    go (inl l') ih = omega (arith, length_small n l')
    go (inr g) ih = omega (arith, length_large n g, ih (omega (arith, l)))

-- every number of 64 bits
pub length_twenty : (n : ℕ) → n < 18446744073709551616 → length (decimal n) ≤ 20
length_twenty n h = length_most 20 n (omega arith) (omega (arith, h))

-- ---- read back

read_behind : (m : ℕ) (xs : List ℕ) (b : ℕ) → read_from m (xs ++ b ∷ []) ≡ read_from m xs * 10 + (b - 48)
read_behind m [] b = refl
read_behind m (x ∷ xs) b = read_behind (m * 10 + (x - 48)) xs b

-- digits that were written are read as the number
pub decimal_back : (n : ℕ) → read_decimal (decimal n) ≡ n
decimal_back = by_digits (λ (n : ℕ). read_decimal (decimal n) ≡ n)
    (λ n h. rw (decimal_small n h) (omega (arith, h)))
    (λ n h ih. rw (decimal_large n h) (read_behind 0 (decimal (n / 10)) (digit (n % 10)) ∙ rw ih (omega arith)))

-- "without leading zeros": the first digit of a number that is not 0 is not 0
pub decimal_first : (n : ℕ) → 1 ≤ n → 49 ≤ get_or (decimal n) 0 0
decimal_first = by_digits (λ (n : ℕ). 1 ≤ n → 49 ≤ get_or (decimal n) 0 0)
    (λ n h l. rw (decimal_small n h) (omega (arith, h, l)))
    (λ n h ih l. rw (decimal_large n h, get_or-append (decimal (n / 10)) (digit (n % 10) ∷ []) 0 0 (length_some (n / 10))) (ih (omega (arith, h))))
