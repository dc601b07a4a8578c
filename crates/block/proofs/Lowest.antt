-- The lowest place at which a test holds: it holds there and nowhere before. What follows for a row of the table of refusals.
use mathlib.Core.Path.{◌≡◌, refl, sym, ◌∙◌}
use mathlib.Core.Bool.{Bool, true, false, cond, true≢false}
use mathlib.Core.Logic.{◌⊎◌, inl, inr}
use mathlib.Core.List.{List, [], ◌∷◌}
use Prim.Native.Nat.{ℕ, zero, suc, ◌≤◌, ◌<◌}
use native.Mathlib.Nat.{not-suc-le-zero, le_of_suc-le-suc}
use native.Mathlib.Omega.{arith}
use lib.ListN.{length, get_or}
use borrow.Author.Tests.{lt-ltb}
use Rattle.laws.proofs.Tests.{lt_or_ge}
use Rattle.block.specs.declared.Checked.TheVariants.{Passes}
use Rattle.block.specs.Answer.{refuses}
use Rattle.block.specs.Rows.{lowest, lowest_row}

module _ {A : Type 0} (bad : A → Bool) where
  pub lowest_le : (xs : List A) → lowest bad xs ≤ length xs
  unfolding lowest
  lowest_le [] = omega arith
  lowest_le (x ∷ xs) = go (bad x) (lowest_le xs)
    where
      go : (b : Bool) → lowest bad xs ≤ length xs → cond b 0 (suc (lowest bad xs)) ≤ suc (length xs)
      go true h = omega arith
      go false h = omega arith

  -- the row holds where some element is bad
  pub row_refuses : (number : ℕ) (xs : List A) → lowest bad xs < length xs → lowest_row number bad xs ≡ refuses number (lowest bad xs)
  unfolding lowest_row
  row_refuses number xs h = simp (lt-ltb (lowest bad xs) (length xs) h)

-- d stands for what is past the end
module _ {A : Type 0} (bad : A → Bool) (d : A) where
  -- the test fails at each place before
  pub lowest_before : (xs : List A) (k : ℕ) → k < lowest bad xs → bad (get_or xs k d) ≡ false
  unfolding lowest
  lowest_before [] k h = absurd (not-suc-le-zero h)
  lowest_before (x ∷ xs) k h = go (bad x) refl k h (lowest_before xs)
    where
      go : (b : Bool) → bad x ≡ b → (k : ℕ) → k < cond b 0 (suc (lowest bad xs)) → ((k : ℕ) → k < lowest bad xs → bad (get_or xs k d) ≡ false)
          → bad (get_or (x ∷ xs) k d) ≡ false
      go true e k h ih = absurd (not-suc-le-zero h)
      go false e zero h ih = e
      go false e (suc k) h ih = ih k (le_of_suc-le-suc h)

  -- and holds there
  pub lowest_there : (xs : List A) → lowest bad xs < length xs → bad (get_or xs (lowest bad xs) d) ≡ true
  unfolding lowest
  lowest_there [] h = absurd (not-suc-le-zero h)
  lowest_there (x ∷ xs) h = go (bad x) refl h (lowest_there xs)
    where
      go : (b : Bool) → bad x ≡ b → cond b 0 (suc (lowest bad xs)) < suc (length xs) → (lowest bad xs < length xs → bad (get_or xs (lowest bad xs) d) ≡ true)
          → bad (get_or (x ∷ xs) (cond b 0 (suc (lowest bad xs))) d) ≡ true
      go true e h ih = e
      go false e h ih = ih (le_of_suc-le-suc h)

  -- no other place is so
  pub lowest_is : (xs : List A) (k : ℕ) → k ≤ length xs → ((i : ℕ) → i < k → bad (get_or xs i d) ≡ false) → (k < length xs → bad (get_or xs k d) ≡ true)
      → k ≡ lowest bad xs
  lowest_is xs k h before there = go (lt_or_ge k (lowest bad xs)) (lt_or_ge (lowest bad xs) k)
    where
      go : (k < lowest bad xs) ⊎ (lowest bad xs ≤ k) → (lowest bad xs < k) ⊎ (k ≤ lowest bad xs) → k ≡ lowest bad xs
      go (inl l) _ = absurd (true≢false (sym (there (omega (arith, lowest_le bad xs))) ∙ lowest_before xs k l))
      go (inr g) (inl l) = absurd (true≢false (sym (lowest_there xs (omega arith)) ∙ before (lowest bad xs) l))
      go (inr g) (inr g') = omega arith

  -- a row that passes: no element is bad
  pub row_clear : (number : ℕ) (xs : List A) → lowest_row number bad xs ≡ Passes → (k : ℕ) → k < length xs → bad (get_or xs k d) ≡ false
  row_clear number xs e k h = go (lt_or_ge (lowest bad xs) (length xs))
    where
      go : (lowest bad xs < length xs) ⊎ (length xs ≤ lowest bad xs) → bad (get_or xs k d) ≡ false
      go (inl l) = let clash : refuses number (lowest bad xs) ≡ Passes = sym (row_refuses bad number xs l) ∙ e in let z : ◌≡◌ {A = ℕ} 0 1 = cc in absurd (omega arith)
      go (inr g) = lowest_before xs k (omega arith)

-- the row of three elements, by the first that is bad
module _ {A : Type 0} (number : ℕ) (bad : A → Bool) (x y z : A) where
  pub first_of_three : bad x ≡ true → lowest_row number bad (x ∷ y ∷ z ∷ []) ≡ refuses number 0
  unfolding lowest_row lowest
  first_of_three a = simp a

  pub second_of_three : bad x ≡ false → bad y ≡ true → lowest_row number bad (x ∷ y ∷ z ∷ []) ≡ refuses number 1
  unfolding lowest_row lowest
  second_of_three a b = simp (a, b)

  pub third_of_three : bad x ≡ false → bad y ≡ false → bad z ≡ true → lowest_row number bad (x ∷ y ∷ z ∷ []) ≡ refuses number 2
  unfolding lowest_row lowest
  third_of_three a b c = simp (a, b, c)

  pub none_of_three : bad x ≡ false → bad y ≡ false → bad z ≡ false → lowest_row number bad (x ∷ y ∷ z ∷ []) ≡ Passes
  unfolding lowest_row lowest
  none_of_three a b c = simp (a, b, c)
