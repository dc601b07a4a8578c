-- Maps of the numbers below m into those below n: a map that keeps them apart needs room, reaches all where there is no more room than that, and misses one where
-- there is. Each number below n counts how often it is hit, and these counts add up to m.
-- Assumes nothing.
use Prim.Native.Nat.{ℕ, zero, suc, ◌+◌, ◌≤◌, ◌<◌}
use mathlib.Core.Path.{◌≡◌, refl, sym, ap, ◌∙◌}
use mathlib.Core.Bool.{Bool, true, false}
use mathlib.Core.Logic.{◌⊎◌, inl, inr}
use native.Mathlib.Omega.{arith}
use lib.Dec.{eqb}
use borrow.Author.Tests.{ltb-true, eqb-true, eqb-false, eq-eqb}
use Rattle.laws.specs.Bits.{bit}
use Rattle.laws.specs.Counting.{count, total}
use Rattle.laws.proofs.Counting.{count_clear, clear_count, count_one, count_this, count_all}
use Rattle.laws.proofs.Sums.{total_same, total_le, total_plus, total_nothing, total_count}
use Rattle.laws.proofs.Tests.{some_or_none, lt_or_ge}
use Rattle.foundry_rule.specs.Judged.{first_passing}
use Rattle.foundry_rule.specs.Matches.{OneToOne}
use Rattle.foundry_rule.proofs.Firsts.{same_test, first_passes, is_some_lem}

-- how many numbers below m go to j
unfoldable hits : (ℕ → ℕ) → ℕ → ℕ → ℕ
hits f m j = count (λ (i : ℕ). eqb (f i) j) m

-- f takes the numbers below m to those below n, and no two to one
abbrev pub Into : (ℕ → ℕ) → ℕ → ℕ → Type 0
Into f m n = (i : ℕ) → i < m → f i < n

abbrev pub Apart : (ℕ → ℕ) → ℕ → Type 0
Apart f m = (i k : ℕ) → i < m → k < m → f i ≡ f k → i ≡ k

-- ---- all hits

eqb_turned : (a b : ℕ) → eqb a b ≡ eqb b a
eqb_turned a b = same_test (eqb a b) (eqb b a) (λ e. eq-eqb b a (sym (eqb-true a b e))) (λ e. eq-eqb a b (sym (eqb-true b a e)))

ones_total : (n : ℕ) → total (λ (x : ℕ). 1) n ≡ n
ones_total n = total_count (λ (x : ℕ). true) n ∙ count_all (λ (x : ℕ). true) n (λ m h. refl)

-- one more number hits one more time
one_hit : (f : ℕ → ℕ) (m n : ℕ) → f m < n → total (λ (j : ℕ). bit (eqb (f m) j)) n ≡ 1
one_hit f m n l =
    total_same _ (λ (j : ℕ). bit (eqb j (f m))) n (λ j _. ap bit (eqb_turned (f m) j)) ∙ total_count (λ (j : ℕ). eqb j (f m)) n ∙ count_this n (f m) l

hits_total : (f : ℕ → ℕ) (m n : ℕ) → Into f m n → total (hits f m) n ≡ m
unfolding hits count
hits_total f zero n h = total_nothing n
hits_total f (suc m) n h =
    total_plus (hits f m) (λ (j : ℕ). bit (eqb (f m) j)) n
    ∙ omega (arith, hits_total f m n (λ i l. h i (omega arith)), one_hit f m n (h m (omega arith)))

hits_one : (f : ℕ → ℕ) (m j : ℕ) → Apart f m → hits f m j ≤ 1
unfolding hits
hits_one f m j h = count_one (λ (i : ℕ). eqb (f i) j) m (λ i k a b s t. h i k a b (eqb-true _ _ s ∙ sym (eqb-true _ _ t)))

-- ---- room

pub apart_le : (f : ℕ → ℕ) (m n : ℕ) → Into f m n → Apart f m → m ≤ n
apart_le f m n g h = omega (arith, hits_total f m n g, ones_total n, total_le (hits f m) (λ (j : ℕ). 1) n (λ j l. hits_one f m j h))

-- more room than numbers: one is missed
pub missed : (f : ℕ → ℕ) (m n : ℕ) → Into f m n → m < n → (j : ℕ) × (j < n) × ((i : ℕ) → i < m → f i ≡ j → ⊥)
unfolding hits
missed f m n g l = go (some_or_none (λ (j : ℕ). eqb (hits f m j) 0) n)
  where
    some_hit : ((j : ℕ) → j < n → eqb (hits f m j) 0 ≡ false) → n ≤ m
    some_hit h =
        omega (arith, hits_total f m n g, ones_total n, total_le (λ (j : ℕ). 1) (hits f m) n (λ j b. omega (arith, eqb-false (hits f m j) 0 (h j b))))

    go : ((j : ℕ) × (j < n) × (eqb (hits f m j) 0 ≡ true)) ⊎ ((j : ℕ) → j < n → eqb (hits f m j) 0 ≡ false)
        → (j : ℕ) × (j < n) × ((i : ℕ) → i < m → f i ≡ j → ⊥)
    go (inl s) = (
      s.0,
      s.1,
      (λ i b. eqb-false (f i) s.0 (count_clear (λ (i : ℕ). eqb (f i) s.0) m (eqb-true _ _ s.2) i b)),
    )
    go (inr h) = absurd (omega (arith, some_hit h))

-- one is missed: there is more room than numbers
missed_lt : (f : ℕ → ℕ) (m n j : ℕ) → Into f m n → Apart f m → j < n → ((i : ℕ) → i < m → eqb (f i) j ≡ false) → m < n
unfolding hits
missed_lt f m n j g h l away =
    omega (
      arith,
      hits_total f m n g,
      ones_total n,
      total_plus (hits f m) (λ (k : ℕ). bit (eqb j k)) n,
      one_hit (λ (i : ℕ). j) 0 n l,
      total_le (λ (k : ℕ). hits f m k + bit (eqb j k)) (λ (k : ℕ). 1) n (λ k b. one k (eqb j k) refl),
    )
  where
    one : (k : ℕ) (t : Bool) → eqb j k ≡ t → hits f m k + bit t ≤ 1
    one k false e = omega (arith, hits_one f m k h)
    one k true e =
        let is : j ≡ k = eqb-true j k e in
        omega (arith, clear_count (λ (i : ℕ). eqb (f i) k) m (λ i b. rw is at (away i b)))

-- ---- one to one

-- as many numbers as there is room, and kept apart: each place is reached
pub pigeons : (f : ℕ → ℕ) (m : ℕ) → Into f m m → Apart f m → OneToOne f m m
pigeons f m g h = record { into = g; apart = h; onto = λ j l. go j l (some_or_none (λ (i : ℕ). eqb (f i) j) m) }
  where
    go : (j : ℕ) → j < m → ((i : ℕ) × (i < m) × (eqb (f i) j ≡ true)) ⊎ ((i : ℕ) → i < m → eqb (f i) j ≡ false) → (i : ℕ) × (i < m) × (f i ≡ j)
    go j l (inl s) = (s.0, s.1, eqb-true _ _ s.2)
    go j l (inr away) = absurd (omega (arith, missed_lt f m m j g h l away))

pub one_to_one_count : {f : ℕ → ℕ} {m n : ℕ} → OneToOne f m n → m ≡ n
one_to_one_count {f} {m} {n} o = go (lt_or_ge m n)
  where
    go : (m < n) ⊎ (n ≤ m) → m ≡ n
    go (inl l) =
        let out = missed f m n o.into l in
        let at = o.onto out.0 out.1 in
        absurd (out.2 at.0 at.1 at.2)
    go (inr l) = omega (arith, apart_le f m n o.into o.apart)

-- every number to itself
pub same_to_same : (m : ℕ) → OneToOne (λ (i : ℕ). i) m m
same_to_same m = record { into = λ i l. l; apart = λ i k a b e. e; onto = λ j l. (j, l, refl) }

-- ---- the way back

-- the first number below m that goes to j
unfoldable pub back : (ℕ → ℕ) → ℕ → ℕ → ℕ
back f m j = first_passing (λ (i : ℕ). eqb (f i) j) m

module _ {f : ℕ → ℕ} {m n : ℕ} (o : OneToOne f m n) where
  back_found : (i j : ℕ) → i < m → f i ≡ j → back f m j < m
  unfolding back
  back_found i j l e = ltb-true _ _ (is_some_lem (λ (i : ℕ). eqb (f i) j) m i l (eq-eqb _ _ e))

  back_passes : (j : ℕ) → back f m j < m → f (back f m j) ≡ j
  unfolding back
  back_passes j l = eqb-true _ _ (first_passes (λ (i : ℕ). eqb (f i) j) m l)

  pub back_into : Into (back f m) n m
  back_into j l = let at = o.onto j l in back_found at.0 j at.1 at.2

  pub there_back : (j : ℕ) → j < n → f (back f m j) ≡ j
  there_back j l = back_passes j (back_into j l)

  pub back_there : (i : ℕ) → i < m → back f m (f i) ≡ i
  back_there i l = o.apart (back f m (f i)) i (back_into (f i) (o.into i l)) l (there_back (f i) (o.into i l))

  pub back_one_to_one : OneToOne (back f m) n m
  back_one_to_one = record {
    into = back_into;
    apart = λ i k a b e. sym (there_back i a) ∙ ap f e ∙ there_back k b;
    onto = λ i l. (f i, o.into i l, back_there i l);
  }
