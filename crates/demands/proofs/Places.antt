-- What a C caller finds in a place that was lent for an answer: each item that was told, as far as there is room. The first number of an answer is 0, or that
-- of the refusal.
use Prim.Native.Nat.{ℕ, ◌≤◌, ◌<◌}
use mathlib.Core.Path.{◌≡◌, refl, sym, ap, ◌∙◌}
use mathlib.Core.Logic.{◌⊎◌, inl, inr}
use mathlib.Core.List.{List}
use native.Mathlib.Omega.{arith}
use lib.ListN.{length, get_or, take, length-take, get_or-eq_default}
use lib.Seq.{get_or-take}
use Rattle.laws.specs.Filled.{filled}
use Rattle.laws.proofs.Over.{over_front, over_length}
use Rattle.laws.proofs.Tests.{lt_or_ge}
use Rattle.block.specs.declared.Refusal.{Refusal}
use Rattle.block.specs.Answer.{Answer, accepted, refused, told}
use Rattle.parsniprow_c.specs.Told.{tell_over}
use Rattle.demands.specs.Answers.{NotRefused}
use Rattle.demands.specs.Marks.{NotFour}

-- ---- an item of a place

module _ {A : Type 0} (xs place : List A) (i : ℕ) (d : A) where
  -- that was told, and for which there is room
  pub tell_at : i < length place → i < length xs → get_or (tell_over xs place) i d ≡ get_or xs i d
  tell_at room h =
      over_front (take (length place) xs) place i d (rw (length-take (length place) xs) (omega (arith, room, h))) ∙ get_or-take (length place) xs i d room

  -- and for which there is none
  pub tell_none : length place ≤ i → get_or (tell_over xs place) i d ≡ d
  tell_none h =
      get_or-eq_default (tell_over xs place) d (rw (over_length (take (length place) xs) place (rw (length-take (length place) xs) (omega arith))) h)

-- what is found is never more than what was told
pub tell_le : (xs place : List ℕ) (i : ℕ) → i < length xs → get_or (tell_over xs place) i 0 ≤ get_or xs i 0
tell_le xs place i h = go (lt_or_ge i (length place))
  where
    go : (i < length place) ⊎ (length place ≤ i) → get_or (tell_over xs place) i 0 ≤ get_or xs i 0
    go (inl l) = omega (arith, tell_at xs place i 0 l h)
    go (inr g) = omega (arith, tell_none xs place i 0 g)

-- ---- the first number

abbrev number_of : {A : Type 0} → Answer A → ℕ
number_of (accepted a) = 0
number_of (refused x) = x.number

told_first : {A : Type 0} (n : ℕ) (values : A → List ℕ) (a : Answer A) (place : List ℕ) (d : ℕ) → 0 < length place → get_or (tell_over (told n values a) place) 0 d ≡ number_of a
unfolding filled
told_first n values (accepted b) place d room = tell_at (told n values (accepted b)) place 0 d room (omega arith)
told_first n values (refused x) place d room = tell_at (told n values (refused x)) place 0 d room (omega arith)

module _ {A : Type 0} (n : ℕ) (values : A → List ℕ) (a : Answer A) (place place' : List ℕ) (e : place' ≡ tell_over (told n values a) place) where
  -- a place whose first number is found to be 0 was told no refusal, if the numbers of refusals are at least 1. (A place without room is taken as not 0.)
  pub none_told : get_or place' 0 1 ≡ 0 → ((x : Refusal) → a ≡ refused x → 1 ≤ x.number) → NotRefused a
  none_told z h x r = go (lt_or_ge 0 (length place))
    where
      go : (0 < length place) ⊎ (length place ≤ 0) → ⊥
      go (inl room) = omega (arith, h x r, ap number_of r, told_first n values a place 1 room, ap (λ (l : List ℕ). get_or l 0 1) e, z)
      go (inr g) = omega (arith, tell_none (told n values a) place 0 1 g, ap (λ (l : List ℕ). get_or l 0 1) e, z)

  -- and one whose first number is not that of a refusal does not have it
  pub four_untold : NotFour a → get_or place' 0 0 ≡ 4 → ⊥
  four_untold h f = go (lt_or_ge 0 (length place))
    where
      other : (b : Answer A) → a ≡ b → number_of b ≡ 4 → ⊥
      other (accepted c) r z = omega (arith, z)
      other (refused x) r z = h x r z

      go : (0 < length place) ⊎ (length place ≤ 0) → ⊥
      go (inl room) = other a refl (sym (told_first n values a place 0 room) ∙ ap (λ (l : List ℕ). get_or l 0 0) (sym e) ∙ f)
      go (inr g) = omega (arith, tell_none (told n values a) place 0 0 g, ap (λ (l : List ℕ). get_or l 0 0) e, f)
