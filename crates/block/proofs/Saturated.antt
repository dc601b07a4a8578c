-- Samples at the detector's ceiling: when there is one, and what the answer about them says. A count of 0 means that no sample is there, and the
-- lowest index is the lowest.
-- Assumes nothing.
use Prim.Native.Nat.{ℕ, zero, suc, ◌≤◌, ◌<◌}
use mathlib.Core.Path.{◌≡◌, refl, ap}
use mathlib.Core.Bool.{Bool, true, false, ◌||◌, false≢true}
use mathlib.Core.Logic.{◌↔◌, ◌⊎◌, inl, inr}
use mathlib.Core.List.{List, [], ◌∷◌}
use native.Mathlib.Omega.{arith}
use lib.ListN.{length, get_or}
use borrow.Author.Tests.{eq-eqb, eqb-true, eqb-false, ne_eqb}
use Rattle.laws.specs.Counting.{count}
use Rattle.laws.proofs.Tests.{lt_or_ge}
use Rattle.block.specs.Answer.{given}
use Rattle.block.specs.Ceilings.{ceilings_before, ceilings_in, AtCeiling, LowestCeiling}
use Rattle.block.specs.Grey.{ceiling, is_ceiling, has_ceiling}
use Rattle.block.specs.Rows.{lowest}
use Rattle.laws.proofs.Counting.{count_clear, clear_count}
use Rattle.block.proofs.Lowest.{lowest_there, lowest_before}

-- ---- some sample is at the ceiling

find : (samples : List ℕ) → has_ceiling samples ≡ true → AtCeiling samples
find [] e = absurd (false≢true e)
find (s ∷ samples) e = go (is_ceiling s) refl e (find samples)
  where
    go : (b : Bool) → is_ceiling s ≡ b → (b || has_ceiling samples) ≡ true → (has_ceiling samples ≡ true → AtCeiling samples) → AtCeiling (s ∷ samples)
    go true q e f = record { place = 0; there = omega arith; is = eqb-true s ceiling q }
    go false q e f = let r = f e in record { place = suc r.place; there = omega (arith, r.there); is = r.is }

either : (a : Bool) {b : Bool} → b ≡ true → (a || b) ≡ true
either true h = refl
either false h = h

tell : (samples : List ℕ) (k : ℕ) → k < length samples → get_or samples k 0 ≡ ceiling → has_ceiling samples ≡ true
tell [] k h e = absurd (omega arith)
tell (s ∷ samples) zero h e = rw (eq-eqb s ceiling e)
tell (s ∷ samples) (suc k) h e = either (is_ceiling s) (tell samples k (omega arith) e)

pub ceiling_exactly : (samples : List ℕ) → (has_ceiling samples ≡ true) ↔ AtCeiling samples
ceiling_exactly samples = (find samples, λ r. tell samples r.place r.there r.is)

-- no sample is
pub ceiling_none : (samples : List ℕ) → ((k : ℕ) → k < length samples → is_ceiling (get_or samples k 0) ≡ false) → has_ceiling samples ≡ false
ceiling_none samples h = go (has_ceiling samples) refl
  where
    go : (b : Bool) → has_ceiling samples ≡ b → b ≡ false
    go true e = let r = find samples e in absurd (eqb-false (get_or samples r.place 0) ceiling (h r.place r.there) r.is)
    go false e = refl

-- ---- how many are, and the lowest

-- two of four samples, the first of them with index 1; and none of two
pub two_of_four : ceilings_in (65534 ∷ ceiling ∷ 0 ∷ ceiling ∷ []) ≡ record { count = 2; lowest = 1 }
unfolding count lowest
two_of_four = refl

pub none_of_two : ceilings_in (65534 ∷ 0 ∷ []) ≡ record { count = 0; lowest = 2 }
unfolding count lowest
none_of_two = refl

given_none : (n : ℕ) → given n ≡ 0 → n ≡ 0
given_none n h = omega arith

module _ (samples : List ℕ) where
  clear : (ceilings_in samples).count ≡ 0 → (k : ℕ) → k < length samples → is_ceiling (get_or samples k 0) ≡ false
  clear e = count_clear (λ (i : ℕ). is_ceiling (get_or samples i 0)) (length samples) (given_none (ceilings_before samples (length samples)) e)

  -- the count is 0 exactly if no sample is at the ceiling
  pub ceilings_none : ((ceilings_in samples).count ≡ 0) ↔ ((k : ℕ) → k < length samples → get_or samples k 0 ≡ ceiling → ⊥)
  ceilings_none = (
    λ e k h. eqb-false (get_or samples k 0) ceiling (clear e k h),
    λ f. ap given (clear_count (λ (i : ℕ). is_ceiling (get_or samples i 0)) (length samples) (λ k h. ne_eqb (get_or samples k 0) ceiling (f k h))),
  )

  -- and where it is not, the lowest index, unless it was cut, is that of a sample at the ceiling, and none before it is there
  pub ceilings_lowest : 0 < (ceilings_in samples).count → (ceilings_in samples).lowest < 4294967295 → LowestCeiling samples (ceilings_in samples).lowest
  ceilings_lowest some uncut = go (lt_or_ge (lowest is_ceiling samples) (length samples))
    where
      before : (k : ℕ) → k < lowest is_ceiling samples → get_or samples k 0 ≡ ceiling → ⊥
      before k h = eqb-false (get_or samples k 0) ceiling (lowest_before is_ceiling 0 samples k h)

      as_given : (n : ℕ) → given n < 4294967295 → given n ≡ n
      as_given n h = omega arith

      go : (lowest is_ceiling samples < length samples) ⊎ (length samples ≤ lowest is_ceiling samples) → LowestCeiling samples (ceilings_in samples).lowest
      go (inl l) = rw (as_given (lowest is_ceiling samples) uncut) record { there = l; is = eqb-true (get_or samples (lowest is_ceiling samples) 0) ceiling (lowest_there is_ceiling 0 samples l); before = before }
      go (inr g) = absurd (omega (arith, some, ceilings_none.1 (λ k h. before k (omega (arith, g, h)))))
