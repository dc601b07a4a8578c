-- The definitions say what documents 01 and 02 say: a list is closed exactly if each side is walked as often one way as the other and has two
-- different ends, and otherwise the answer is the first side of which that is not so. Then the examples of 01, and those of document 02, Four.
-- Assumes nothing.
use mathlib.Core.Path.{◌≡◌, refl, ap, subst}
use mathlib.Core.Bool.{Bool, true, false, cond, not, ◌&&◌}
use mathlib.Core.List.{List, [], ◌∷◌}
use mathlib.Core.Logic.{◌↔◌}
use Prim.Native.Nat.{ℕ, ◌+◌, ◌*◌, ◌/◌, ◌%◌, ◌<◌}
use native.Mathlib.Omega.{arith}
use lib.Dec.{eqb}
use lib.ListN.{length}
use borrow.Author.Tests.{eqb-true, eqb-false, eq-eqb, ne_eqb}
use Rattle.laws.specs.Below.{below}
use Rattle.laws.specs.Leading.{leading}
use Rattle.laws.specs.Counting.{count}
use Rattle.laws.proofs.Leading.{leading_le, leading_holds, leading_stops}
use Rattle.laws.proofs.Tests.{and_both}
use Rattle.closed.specs.Closed.{from, to, walked, walks, side_sound, Finding, all_sound, open_at, finding_of}
use Rattle.closed.specs.Chains.{top_number, first_from, chains}
use Rattle.closed.specs.Steps.{next_place, sound_side}
use Rattle.closed.proofs.Search.{finding_all, finding_open}

-- ---- one side

-- "Side s runs from vertex s to the next, 3 back to 0"
pub next_is : (quads : List ℕ) (q s : ℕ) → s < 4 → to quads (4 * q + s) ≡ from quads (4 * q + (s + 1) % 4)
next_is quads q s h = ap (from quads) (place q s h)
  where
    place : (q s : ℕ) → s < 4 → next_place (4 * q + s) ≡ 4 * q + (s + 1) % 4
    place q s h = omega arith

-- a side is one from a to b exactly if it starts at a and ends at b
pub walked_exactly : (quads : List ℕ) (a b n : ℕ) → (walked quads a b n ≡ true) ↔ ((from quads n ≡ a) × (to quads n ≡ b))
walked_exactly quads a b n = (
  (λ t. let h = and_both (eqb (from quads n) a) (eqb (to quads n) b) t in (eqb-true _ _ h.0, eqb-true _ _ h.1)),
  (λ h. simp (eq-eqb (from quads n) a h.0, eq-eqb (to quads n) b h.1)),
)

sound_exactly : (a b there back : ℕ) → (sound_side a b there back ≡ true) ↔ ((there ≡ back) × (a ≡ b → ⊥))
sound_exactly a b there back = (λ t. go (eqb a b) refl t, λ h. simp (ne_eqb a b h.1, eq-eqb there back h.0))
  where
    go : (x : Bool) → eqb a b ≡ x → not x && eqb there back ≡ true → (there ≡ back) × (a ≡ b → ⊥)
    go true e t = let z : ◌≡◌ {A = ℕ} 0 1 = cc in absurd (omega arith)
    go false e t = (eqb-true there back t, eqb-false a b e)

-- ---- the whole list

-- where the search ends, by what is found
abbrev finding_at : ℕ → ℕ → Finding
finding_at sides n = cond (eqb n sides) all_sound (open_at (n / 4) (n % 4))

found_all : (sides n : ℕ) → finding_at sides n ≡ all_sound → n ≡ sides
found_all sides n e = go (eqb n sides) refl e
  where
    go : (b : Bool) → eqb n sides ≡ b → cond b all_sound (open_at (n / 4) (n % 4)) ≡ all_sound → n ≡ sides
    go true h e = eqb-true n sides h
    go false h e = let z : ◌≡◌ {A = ℕ} 0 1 = cc in absurd (omega arith)

found_open : (sides n q s : ℕ) → finding_at sides n ≡ open_at q s → (n ≡ sides → ⊥) × (s < 4) × (n ≡ 4 * q + s)
found_open sides n q s e = go (eqb n sides) refl e
  where
    go : (b : Bool) → eqb n sides ≡ b → cond b all_sound (open_at (n / 4) (n % 4)) ≡ open_at q s → (n ≡ sides → ⊥) × (s < 4) × (n ≡ 4 * q + s)
    go true h e = let z : ◌≡◌ {A = ℕ} 0 1 = cc in absurd (omega arith)
    go false h e =
        let dq : n / 4 ≡ q = cc in
        let ds : n % 4 ≡ s = cc in
        (eqb-false n sides h, omega arith, omega arith)

module _ (quads : List ℕ) where
  -- "walked as often one way as the other, over all quads, and has two different ends"
  pub side_exactly : (n : ℕ) → (side_sound quads n ≡ true)
      ↔ ((walks quads (from quads n) (to quads n) ≡ walks quads (to quads n) (from quads n)) × (from quads n ≡ to quads n → ⊥))
  side_exactly n = sound_exactly (from quads n) (to quads n) (walks quads (from quads n) (to quads n)) (walks quads (to quads n) (from quads n))

  pub closed_exactly : (finding_of quads ≡ all_sound) ↔ ((n : ℕ) → n < length quads → side_sound quads n ≡ true)
  unfolding finding_of
  closed_exactly = (
    (λ e n l. leading_holds (side_sound quads) (length quads) n (rw (found_all (length quads) (leading (side_sound quads) (length quads)) e) l)),
    finding_all quads (length quads) (omega arith),
  )

  open_first : (q s : ℕ) → finding_of quads ≡ open_at q s
      → (s < 4) × (4 * q + s < length quads) × (side_sound quads (4 * q + s) ≡ false) × ((n : ℕ) → n < 4 * q + s → side_sound quads n ≡ true)
  unfolding finding_of
  open_first q s e =
      let at = leading (side_sound quads) (length quads) in
      let found = found_open (length quads) at q s e in
      let is : at ≡ 4 * q + s = found.2 in
      let room : at < length quads = omega (arith, leading_le (side_sound quads) (length quads), found.0) in (
        found.1,
        omega arith,
        subst (λ (n : ℕ). side_sound quads n ≡ false) is (leading_stops (side_sound quads) (length quads) room),
        (λ n l. leading_holds (side_sound quads) (length quads) n (omega arith)),
      )

  -- side s of quad q is there, it is not in order, and each side before it is, by quad and then by side
  pub open_exactly : (q s : ℕ) → (finding_of quads ≡ open_at q s)
      ↔ ((s < 4) × (4 * q + s < length quads) × (side_sound quads (4 * q + s) ≡ false) × ((n : ℕ) → n < 4 * q + s → side_sound quads n ≡ true))
  open_exactly q s = (open_first q s, λ h. finding_open quads q s h.0 h.1 h.3 h.2)

-- ---- the examples of 01

pub alone : finding_of (0 ∷ 1 ∷ 2 ∷ 3 ∷ []) ≡ open_at 0 0
unfolding finding_of leading count
alone = refl

pub empty : finding_of [] ≡ all_sound
unfolding finding_of leading count
empty = refl

-- the mesh of 01's block
pub six_quads : finding_of (0 ∷ 4 ∷ 6 ∷ 2 ∷ 1 ∷ 3 ∷ 7 ∷ 5 ∷ 0 ∷ 1 ∷ 5 ∷ 4 ∷ 2 ∷ 6 ∷ 7 ∷ 3 ∷ 0 ∷ 2 ∷ 3 ∷ 1 ∷ 4 ∷ 5 ∷ 7 ∷ 6 ∷ []) ≡ all_sound
unfolding finding_of leading count
six_quads = refl

-- ---- what else the rule says

-- a quad and the same quad the other way round
pub there_and_back : finding_of (0 ∷ 1 ∷ 2 ∷ 3 ∷ 3 ∷ 2 ∷ 1 ∷ 0 ∷ []) ≡ all_sound
unfolding finding_of leading count
there_and_back = refl

-- a quad that goes to and fro on one side: two walks there, two back
pub to_and_fro : finding_of (0 ∷ 1 ∷ 0 ∷ 1 ∷ []) ≡ all_sound
unfolding finding_of leading count
to_and_fro = refl

-- two equal quads: every side is used twice, but both times the same way
pub quad_twice : finding_of (0 ∷ 1 ∷ 2 ∷ 3 ∷ 0 ∷ 1 ∷ 2 ∷ 3 ∷ []) ≡ open_at 0 0
unfolding finding_of leading count
quad_twice = refl

-- a side with one end, which is walked as often one way as the other
pub one_end : finding_of (0 ∷ 0 ∷ 1 ∷ 2 ∷ 2 ∷ 1 ∷ 0 ∷ 0 ∷ []) ≡ open_at 0 0
unfolding finding_of leading count
one_end = refl

-- ---- the lent memory of a quad and its reverse: vertex v has side v, each side of the first quad has one of the second as its next, and these have none

pub two_chained : chains (0 ∷ 1 ∷ 2 ∷ 3 ∷ 3 ∷ 2 ∷ 1 ∷ 0 ∷ []) ≡ 0 ∷ 1 ∷ 2 ∷ 3 ∷ 7 ∷ 6 ∷ 5 ∷ 4 ∷ 8 ∷ 8 ∷ 8 ∷ 8 ∷ []
unfolding below top_number first_from leading
two_chained = refl
