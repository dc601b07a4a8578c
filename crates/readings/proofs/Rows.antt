-- The row of a list of readings: the lowest index at fault decides.
-- Assumes nothing.
use mathlib.Core.Path.{◌≡◌, refl, sym, ◌∙◌, subst}
use mathlib.Core.Bool.{Bool, true, false, true≢false}
use mathlib.Core.List.{List}
use mathlib.Core.Logic.{◌⊎◌, inl, inr}
use Prim.Native.Nat.{ℕ, ◌+◌, ◌-◌, ◌≤◌, ◌<◌}
use native.Mathlib.Omega.{arith}
use lib.ListN.{length, get_or, take, drop, length-take, length-drop}
use lib.Seq.{get_or-take, get_or-drop}
use lib.Ieee.{Float, nan}
use borrow.Author.Count.{below_more}
use Rattle.laws.specs.Bits.{bit}
use Rattle.laws.proofs.Tests.{lt_or_ge}
use Rattle.laws.proofs.Over.{each, each_length, each_at}
use Rattle.block.specs.declared.Refusal.{Refusal}
use Rattle.block.specs.declared.Checked.{Checked}
use Rattle.block.specs.declared.Checked.TheVariants.{Passes, Refuses}
use Rattle.block.specs.Answer.{in_order}
use Rattle.block.proofs.Order.{passes_refuses, first_exactly, none_exactly}
use Rattle.readings.specs.declared.Reading.{Reading}
use Rattle.readings.specs.declared.Reading.TheVariants.{Grey, Ceiling, NoNumber, Infinite, BelowZero}
use Rattle.readings.specs.Reading.{reading_of, bad_at, bad_row, faulty, Sound}
use Rattle.readings.specs.Steps.{SoundTo}

-- a fault that is told as 0 is none
pub bit_none : (b : Bool) → bit b ≡ 0 → b ≡ false
bit_none true e = absurd (omega arith)
bit_none false e = refl

-- ---- the check of one reading

pub sound_passes : (i : ℕ) (r : Reading) → faulty r ≡ false → bad_at i r ≡ Passes
sound_passes i (Grey g) h = refl
sound_passes i Ceiling h = refl
sound_passes i NoNumber h = absurd (true≢false h)
sound_passes i Infinite h = absurd (true≢false h)
sound_passes i BelowZero h = absurd (true≢false h)

pub passes_sound : (i : ℕ) (r : Reading) → bad_at i r ≡ Passes → faulty r ≡ false
passes_sound i (Grey g) h = refl
passes_sound i Ceiling h = refl
passes_sound i NoNumber h = absurd (passes_refuses (sym h))
passes_sound i Infinite h = absurd (passes_refuses (sym h))
passes_sound i BelowZero h = absurd (passes_refuses (sym h))

pub refuses_faulty : (i : ℕ) (r : Reading) (q : Refusal) → bad_at i r ≡ Refuses q → faulty r ≡ true
refuses_faulty i (Grey g) q h = absurd (passes_refuses h)
refuses_faulty i Ceiling q h = absurd (passes_refuses h)
refuses_faulty i NoNumber q h = refl
refuses_faulty i Infinite q h = refl
refuses_faulty i BelowZero q h = refl

-- ---- the checks of a list

module _ (xs : List Float) where
  abbrev pub check_at : ℕ → Checked
  check_at i = bad_at i (reading_of (get_or xs i nan))

  abbrev pub checks : List Checked
  checks = each check_at (length xs)

  pub row_is : bad_row xs ≡ in_order checks
  unfolding bad_row
  row_is = refl

  checks_length : length checks ≡ length xs
  checks_length = each_length check_at (length xs)

  checks_at : (i : ℕ) → i < length xs → get_or checks i Passes ≡ check_at i
  checks_at i h = each_at check_at (length xs) i Passes h

  -- none is at fault before i, and the reading i is
  pub row_refuses : (i : ℕ) (q : Refusal) → ((k : ℕ) → k < i → faulty (reading_of (get_or xs k nan)) ≡ false) → i < length xs → check_at i ≡ Refuses q → bad_row xs ≡ Refuses q
  row_refuses i q s h e = row_is ∙ (first_exactly checks q).1 (record {
    place = i;
    there = omega (arith, checks_length);
    refuses = checks_at i h ∙ e;
    before = λ k l. checks_at k (omega arith) ∙ sound_passes k (reading_of (get_or xs k nan)) (s k l);
  })

  -- none of all is
  pub row_passes : Sound xs → bad_row xs ≡ Passes
  row_passes s = row_is ∙ (none_exactly checks).1 (λ k l. let h : k < length xs = omega (arith, checks_length) in checks_at k h ∙ sound_passes k (reading_of (get_or xs k nan)) (s k h))

  pub row_passed : bad_row xs ≡ Passes → Sound xs
  row_passed e i h = passes_sound i (reading_of (get_or xs i nan)) (sym (checks_at i h) ∙ (none_exactly checks).0 (sym row_is ∙ e) i (omega (arith, checks_length)))

  -- what a refusal says: the first check that refuses
  pub row_refused : (q : Refusal) → bad_row xs ≡ Refuses q → (i : ℕ) × (i < length xs) × (check_at i ≡ Refuses q) × ((k : ℕ) → k < i → faulty (reading_of (get_or xs k nan)) ≡ false)
  row_refused q e =
      let f = (first_exactly checks q).0 (sym row_is ∙ e) in
      let h : f.place < length xs = omega (arith, checks_length, f.there) in (
        f.place,
        h,
        sym (checks_at f.place h) ∙ f.refuses,
        λ k l. passes_sound k (reading_of (get_or xs k nan)) (sym (checks_at k (omega (arith, l, h))) ∙ f.before k l),
      )

  -- ---- a search that goes on by one reading, or by a run

  pub sound_none : SoundTo xs 0
  sound_none = record { inside = omega arith; before = λ i h. absurd (omega arith) }

  pub sound_more : (i : ℕ) → i < length xs → SoundTo xs i → faulty (reading_of (get_or xs i nan)) ≡ false → SoundTo xs (i + 1)
  sound_more i h s e = record { inside = omega arith; before = below_more _ _ s.before e }

  -- the readings of a part
  pub part_at : (a n i : ℕ) → i < length (take n (drop a xs)) → get_or (take n (drop a xs)) i nan ≡ get_or xs (a + i) nan
  part_at a n i h = get_or-take n (drop a xs) i nan (omega (arith, length-take n (drop a xs))) ∙ get_or-drop a xs i nan

  pub sound_run : (p q : ℕ) → p < q → q ≤ length xs → SoundTo xs p → Sound (take (q - p) (drop p xs)) → SoundTo xs q
  sound_run p q l h s r = record { inside = h; before = λ i k. go i k (lt_or_ge i p) }
    where
      go : (i : ℕ) → i < q → (i < p) ⊎ (p ≤ i) → faulty (reading_of (get_or xs i nan)) ≡ false
      go i k (inl b) = s.before i b
      go i k (inr g) =
          let inside : i - p < length (take (q - p) (drop p xs)) = omega (arith, length-take (q - p) (drop p xs), length-drop p xs) in
          let back : p + (i - p) ≡ i = omega arith in
          subst (λ (j : ℕ). faulty (reading_of (get_or xs j nan)) ≡ false) back (subst (λ (x : Float). faulty (reading_of x) ≡ false) (part_at p (q - p) (i - p) inside) (r (i - p) inside))

  pub sound_all : (i : ℕ) → length xs ≤ i → SoundTo xs i → Sound xs
  sound_all i h s k l = s.before k (omega arith)
