-- The search for the first side that is not in order: the walks that are counted, the side that is judged, and what the search answers.
-- Assumes nothing.
use mathlib.Core.Path.{◌≡◌, refl, sym, ◌∙◌}
use mathlib.Core.Bool.{Bool, true, false, ◌&&◌}
use mathlib.Core.List.{List, [], ◌∷◌}
use Prim.Native.Nat.{ℕ, ◌+◌, ◌*◌, ◌/◌, ◌%◌, ◌≤◌, ◌<◌}
use native.Mathlib.Numerals.{add-one}
use native.Mathlib.Omega.{arith}
use lib.Dec.{eqb}
use lib.ListN.{length, get_or}
use borrow.Author.Tests.{eqb-true, eq-eqb, ne_eqb}
use Rattle.laws.specs.Bits.{bit}
use Rattle.laws.specs.Counting.{count}
use Rattle.laws.specs.Leading.{leading}
use Rattle.laws.proofs.Leading.{HoldsTo, leading_at, leading_all}
use Rattle.block.specs.declared.Refusal.{Refusal}
use Rattle.block.specs.declared.Checked.TheVariants.{Passes, Refuses}
use Rattle.block.specs.Answer.{accepted, in_order, judged}
use Rattle.block.proofs.Order.{order_refuses, order_last, judged_refused, judged_passed}
use Rattle.lists.specs.Rows.{length_row}
use Rattle.closed.specs.declared.Closure.TheVariants as closure
use Rattle.closed.specs.Closed.{side_sound, Finding, all_sound, open_at, finding_of, ClosedAnswered}
use Rattle.closed.specs.Steps.{next_place, walks_before, sound_side}

-- ---- a side that is one from a to b, and one that is not

pub runs_both : (c d a b : ℕ) → c ≡ a → d ≡ b → 1 ≡ bit (eqb c a && eqb d b)
runs_both c d a b p q = simp (eq-eqb c a p, eq-eqb d b q)

pub runs_other : (c d a b : ℕ) → (c ≡ a → d ≡ b → ⊥) → 0 ≡ bit (eqb c a && eqb d b)
runs_other c d a b f = go (eqb c a) (eqb d b) refl refl
  where
    go : (x y : Bool) → eqb c a ≡ x → eqb d b ≡ y → 0 ≡ bit (x && y)
    go true true p q = absurd (f (eqb-true c a p) (eqb-true d b q))
    go true false p q = refl
    go false y p q = refl

-- ---- a side by its ends and its walks

pub equal_ends : (a b there back : ℕ) → a ≡ b → false ≡ sound_side a b there back
equal_ends a b there back e = simp (eq-eqb a b e)

pub other_ends : (a b there back : ℕ) → (a ≡ b → ⊥) → eqb there back ≡ sound_side a b there back
other_ends a b there back h = simp (ne_eqb a b h)

pub walks_none : (quads : List ℕ) (a b : ℕ) → 0 ≡ walks_before quads a b 0
unfolding count
walks_none quads a b = refl

-- side m ends at the vertex in place f
pub walks_more : (quads : List ℕ) (a b found m f s : ℕ) → found ≡ walks_before quads a b m → f ≡ next_place m
    → s ≡ bit (eqb (get_or quads m 0) a && eqb (get_or quads f 0) b) → found + s ≡ walks_before quads a b (m + 1)
unfolding count
walks_more quads a b found m f s u g h = rw (add-one m, ← g, ← h, ← u)

-- what is answered of side n, which ends at the vertex in place e, when all walks are counted
pub side_judged : (quads : List ℕ) (n e there back m : ℕ) (r : Bool) → e ≡ next_place n → length quads ≤ m → m ≤ length quads
    → there ≡ walks_before quads (get_or quads n 0) (get_or quads e 0) m → back ≡ walks_before quads (get_or quads e 0) (get_or quads n 0) m
    → r ≡ sound_side (get_or quads n 0) (get_or quads e 0) there back → side_sound quads n ≡ r
side_judged quads n e there back m r g l k u v h =
    let end : m ≡ length quads = omega arith in
    rw (h, u, v, end, g)

-- ---- what the search finds

module _ (quads : List ℕ) where
  pub finding_all : (n : ℕ) → length quads ≤ n → HoldsTo (side_sound quads) n → finding_of quads ≡ all_sound
  unfolding finding_of
  finding_all n l h =
      let all : leading (side_sound quads) (length quads) ≡ length quads = leading_all (side_sound quads) (length quads) (λ i k. h i (omega arith)) in
      simp (eq-eqb (leading (side_sound quads) (length quads)) (length quads) all)

  pub finding_open : (q s : ℕ) → s < 4 → 4 * q + s < length quads → HoldsTo (side_sound quads) (4 * q + s) → side_sound quads (4 * q + s) ≡ false
      → finding_of quads ≡ open_at q s
  unfolding finding_of
  finding_open q s b l h f =
      let at : leading (side_sound quads) (length quads) ≡ 4 * q + s = leading_at (side_sound quads) (length quads) (4 * q + s) l h f in
      let other : eqb (leading (side_sound quads) (length quads)) (length quads) ≡ false = ne_eqb _ _ (λ (e : leading (side_sound quads) (length quads) ≡ length quads). omega arith) in
      let dq : leading (side_sound quads) (length quads) / 4 ≡ q = omega arith in
      let ds : leading (side_sound quads) (length quads) % 4 ≡ s = omega arith in
      rw (other, dq, ds)

  -- ---- and what is answered

  pub answer_refused : (r : Refusal) → length_row quads ≡ Refuses r → ClosedAnswered quads (closure.Refused r)
  answer_refused r e = judged_refused _ _ r (order_refuses (length_row quads) [] r e)

  pub answer_found : length_row quads ≡ Passes → (f : Finding) → finding_of quads ≡ f → accepted f ≡ judged (in_order (length_row quads ∷ [])) (finding_of quads)
  answer_found h f e = judged_passed _ _ _ (order_last (length_row quads) ∙ h) (sym e)
