-- How many numbers below n pass a test: bounds, sums of two ranges, and the count over a box, which is a product.
-- Assumes nothing.
use Prim.Native.Nat.{ℕ, zero, suc, ◌+◌, ◌*◌, ◌-◌, ◌/◌, ◌%◌, ◌≤◌, ◌<◌}
use mathlib.Core.Path.{◌≡◌, refl, ap, ap₂, sym, ◌∙◌}
use mathlib.Core.Bool.{Bool, true, false, ◌&&◌}
use mathlib.Core.Logic.{⊎_elim}
use mathlib.Core.List.{List}
use native.Mathlib.Nat.{add-zero, add-suc, add_comm, zero-mul, mul-zero, mul-suc, mul-add, add-mul, add_assoc, eq-or-lt_of_le, le_of_suc-le-suc, not-suc-le-zero}
use native.Mathlib.Numerals.{add-one}
use native.Mathlib.Omega.{arith}
use lib.Dec.{eqb}
use lib.ListN.{length, length-append}
use borrow.Author.Tests.{eq-eqb, ne_eqb}
use Rattle.laws.specs.Bits.{bit}
use Rattle.laws.specs.Counting.{count}
use Rattle.laws.specs.Below.{below}
use Rattle.laws.proofs.Bits.{bit_le}
use Rattle.laws.proofs.Index.{pair_mod, pair_div}

pub count_same : (f g : ℕ → Bool) (n : ℕ) → ((m : ℕ) → m < n → f m ≡ g m) → count f n ≡ count g n
unfolding count
count_same f g zero e = refl
count_same f g (suc n) e = ap₂ (λ (a b : ℕ). a + b) (count_same f g n (λ m l. e m (omega arith))) (ap bit (e n (omega arith)))

pub count_none : (f : ℕ → Bool) → count f 0 ≡ 0
unfolding count
count_none f = refl

pub count_next : (f : ℕ → Bool) (n : ℕ) → count f (n + 1) ≡ count f n + bit (f n)
unfolding count
count_next f n = ap (count f) (add-one n)

-- none counted, none there
pub count_clear : (f : ℕ → Bool) (n : ℕ) → count f n ≡ 0 → (k : ℕ) → k < n → f k ≡ false
unfolding count
count_clear f zero e k h = absurd (not-suc-le-zero h)
count_clear f (suc n) e k h =
    ⊎_elim (λ (i : k ≡ n). ap f i ∙ off (f n) (omega arith)) (λ (l : k < n). count_clear f n (omega arith) k l) (eq-or-lt_of_le (le_of_suc-le-suc h))
  where
    off : (b : Bool) → bit b ≡ 0 → b ≡ false
    off true e = absurd (omega arith)
    off false e = refl

-- none there, none counted
pub clear_count : (f : ℕ → Bool) (n : ℕ) → ((k : ℕ) → k < n → f k ≡ false) → count f n ≡ 0
unfolding count
clear_count f zero h = refl
clear_count f (suc n) h = rw (clear_count f n (λ k l. h k (omega arith)), h n (omega arith))

-- at most one number passes
pub count_one : (f : ℕ → Bool) (n : ℕ) → ((i k : ℕ) → i < n → k < n → f i ≡ true → f k ≡ true → i ≡ k) → count f n ≤ 1
unfolding count
count_one f zero h = omega arith
count_one f (suc n) h = go (f n) refl (count_one f n (λ i k a b. h i k (omega arith) (omega arith)))
  where
    other : f n ≡ true → (i : ℕ) → i < n → (b : Bool) → f i ≡ b → f i ≡ false
    other e i l false p = p
    other e i l true p = let q : i ≡ n = h i n (omega arith) (omega arith) p e in absurd (omega arith)

    go : (b : Bool) → f n ≡ b → count f n ≤ 1 → count f n + bit b ≤ 1
    go false e one = omega arith
    go true e one = omega (arith, clear_count f n (λ i l. other e i l (f i) refl))

-- a narrower test
pub count_le : (f g : ℕ → Bool) (n : ℕ) → ((m : ℕ) → m < n → bit (f m) ≤ bit (g m)) → count f n ≤ count g n
unfolding count
count_le f g zero h = omega arith
count_le f g (suc n) h = omega (arith, count_le f g n (λ m l. h m (omega arith)), h n (omega arith))

pub count_le_all : (f : ℕ → Bool) (n : ℕ) → count f n ≤ n
unfolding count
count_le_all f zero = omega arith
count_le_all f (suc n) = omega (arith, count_le_all f n, bit_le (f n))

-- a number passes h if it passes f or g, of which it passes one at most
pub count_two : (f g h : ℕ → Bool) (n : ℕ) → ((m : ℕ) → m < n → bit (h m) ≡ bit (f m) + bit (g m)) → count h n ≡ count f n + count g n
unfolding count
count_two f g h zero e = refl
count_two f g h (suc n) e = omega (arith, count_two f g h n (λ m l. e m (omega arith)), e n (omega arith))

-- just one number is k
pub count_this : (n k : ℕ) → k < n → count (λ (m : ℕ). eqb m k) n ≡ 1
unfolding count
count_this zero k h = absurd (not-suc-le-zero h)
count_this (suc n) k h =
    ⊎_elim (λ (e : k ≡ n). rw (eq-eqb n k (sym e)) (omega (arith, clear_count (λ (m : ℕ). eqb m k) n (λ m l. ne_eqb m k (λ z. omega (arith, z, e, l))))))
    (λ (l : k < n). rw (ne_eqb n k (λ z. omega (arith, z, l))) (omega (arith, count_this n k l)))
    (eq-or-lt_of_le (le_of_suc-le-suc h))

-- a test that every number passes, or every number but 0
pub count_all : (f : ℕ → Bool) (n : ℕ) → ((m : ℕ) → m < n → f m ≡ true) → count f n ≡ n
unfolding count
count_all f zero h = refl
count_all f (suc n) h = rw (h n (omega arith)) (omega (arith, count_all f n (λ m l. h m (omega arith))))

pub count_but_first : (f : ℕ → Bool) (n : ℕ) → f 0 ≡ false → ((m : ℕ) → 0 < m → m < n → f m ≡ true) → count f n ≡ n - 1
unfolding count
count_but_first f zero z h = refl
count_but_first f (suc zero) z h = rw z
count_but_first f (suc (suc n)) z h =
    rw (h (suc n) (omega arith) (omega arith))
    (omega (arith, count_but_first f (suc n) z (λ m p l. h m p (omega arith))))

pub count_add : (f : ℕ → Bool) (n m : ℕ) → count f (n + m) ≡ count f n + count (λ (x : ℕ). f (n + x)) m
unfolding count
count_add f n zero = simp add-zero
count_add f n (suc m) = rw (add-suc, count_add f n m) (add_assoc (count f n) (count (λ (x : ℕ). f (n + x)) m) (bit (f (n + m))))

-- none of k further numbers
pub count_still : (f : ℕ → Bool) (m k : ℕ) → ((i : ℕ) → i < k → f (m + i) ≡ false) → count f (m + k) ≡ count f m
count_still f m k h = count_add f m k ∙ rw (clear_count (λ (i : ℕ). f (m + i)) k h) (add-zero (count f m))

bit_and : (a b : Bool) → bit (a && b) ≡ bit a * bit b
bit_and true true = refl
bit_and true false = refl
bit_and false true = refl
bit_and false false = refl

-- a test of which one part does not depend on the number
count_both : (f : ℕ → Bool) (b : Bool) (n : ℕ) → count (λ (m : ℕ). f m && b) n ≡ count f n * bit b
unfolding count
count_both f b zero = rw zero-mul
count_both f b (suc n) = rw (add-mul, count_both f b n, bit_and)

module _ (u v : ℕ → Bool) (w : ℕ) where
  -- pairs: the numbers below w * m are x + w * y for x below w and y below m
  pub count_pair : (m : ℕ) → count (λ (p : ℕ). u (p % w) && v (p / w)) (w * m) ≡ count u w * count v m
  unfolding count
  count_pair zero = simp mul-zero
  count_pair (suc m) =
      rw (mul-suc, mul-add)
      (count_add (λ (p : ℕ). u (p % w) && v (p / w)) (w * m) w
      ∙ ap₂ (λ (a b : ℕ). a + b) (count_pair m) (count_same _ (λ (x : ℕ). u x && v m) w at ∙ count_both u (v m) w))
    where
      at : (x : ℕ) → x < w → (u ((w * m + x) % w) && v ((w * m + x) / w)) ≡ (u x && v m)
      at x l = rw (add_comm (w * m) x, pair_mod w x m l, pair_div w x m l)

and_assoc : (a b c : Bool) → (a && b && c) ≡ (a && (b && c))
and_assoc true b c = refl
and_assoc false b c = refl

-- a box: a number passes if each of its coordinates does
pub count_box : (u v t : ℕ → Bool) (w h d : ℕ)
    → count (λ (p : ℕ). u (p % w) && v (p / w % h) && t (p / w / h)) (w * (h * d)) ≡ count u w * (count v h * count t d)
count_box u v t w h d =
    count_same _ _ (w * (h * d)) (λ p l. and_assoc (u (p % w)) (v (p / w % h)) (t (p / w / h)))
    ∙ count_pair u (λ (y : ℕ). v (y % h) && t (y / h)) w (h * d)
    ∙ ap (λ (x : ℕ). count u w * x) (count_pair v t h d)

-- lists of one element or none, one after the other, are counted by a test
pub length-counted : {A : Type 0} (f : ℕ → List A) (g : ℕ → Bool) → ((m : ℕ) → length (f m) ≡ bit (g m)) → (n : ℕ) → length (below f n) ≡ count g n
unfolding below count
length-counted f g e zero = refl
length-counted f g e (suc n) = rw (length-append, length-counted f g e n, e)
