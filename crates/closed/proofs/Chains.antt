-- The definitions of the chains of sides: one more than the highest number, the first side that starts at a vertex, and the words that are written.
-- Assumes nothing.
use Prim.Native.Nat.{ℕ, zero, suc, ◌+◌, ◌-◌, ◌≤◌, ◌<◌}
use mathlib.Core.Path.{◌≡◌, ap, sym, ◌∙◌, subst}
use mathlib.Core.Bool.{Bool, false, not}
use mathlib.Core.Logic.{◌⊎◌, inl, inr}
use mathlib.Core.List.{List, [], ◌∷◌}
use native.Mathlib.Nat.{not-suc-le-zero}
use native.Mathlib.Omega.{arith}
use lib.Dec.{eqb}
use lib.ListN.{length, get_or, length-append, get_or-append}
use lib.Seq.{get_or-append-add}
use borrow.Author.Tests.{eqb-true, eqb-false, eq-eqb, ne_eqb, not-true, not-false}
use Rattle.laws.specs.Leading.{leading}
use Rattle.laws.proofs.Leading.{HoldsTo, leading_le, leading_holds, leading_stops, leading_at, leading_all}
use Rattle.laws.proofs.Over.{each, each_length, each_at}
use Rattle.laws.proofs.Tests.{lt_or_ge}
use Rattle.closed.specs.Closed.{from}
use Rattle.closed.specs.Chains.{top_number, first_from, chains, words_needed}

-- ---- one more than the highest number

pub top_above : (l : List ℕ) (i : ℕ) → i < length l → get_or l i 0 < top_number l
unfolding top_number
top_above [] i h = absurd (not-suc-le-zero h)
top_above (v ∷ l) zero h = omega arith
top_above (v ∷ l) (suc i) h = omega (arith, top_above l i (omega arith))

pub top_least : (l : List ℕ) (t : ℕ) → ((i : ℕ) → i < length l → get_or l i 0 < t) → top_number l ≤ t
unfolding top_number
top_least [] t h = omega arith
top_least (v ∷ l) t h = omega (arith, h 0 (omega arith), top_least l t (λ i k. h (suc i) (omega arith)))

-- ---- the first side from m on that starts at v

module _ (quads : List ℕ) (v m : ℕ) where
  abbrev other : ℕ → Bool
  other i = not (eqb (from quads (m + i)) v)

  pub first_ge : m ≤ first_from quads v m
  unfolding first_from
  first_ge = omega arith

  pub first_le : m ≤ length quads → first_from quads v m ≤ length quads
  unfolding first_from
  first_le h = omega (arith, leading_le other (length quads - m))

  -- it starts there
  pub first_starts : first_from quads v m < length quads → from quads (first_from quads v m) ≡ v
  unfolding first_from
  first_starts h = eqb-true _ _ (not-false _ (leading_stops other (length quads - m) (omega arith)))

  -- and none between does
  pub first_between : (i : ℕ) → i < first_from quads v m - m → eqb (from quads (m + i)) v ≡ false
  unfolding first_from
  first_between i h = not-true _ (leading_holds other (length quads - m) i (omega arith))

  -- there is no other such side
  pub first_is : (x : ℕ) → m ≤ x → x ≤ length quads → ((i : ℕ) → m ≤ i → i < x → from quads i ≡ v → ⊥) → (x < length quads → from quads x ≡ v) → first_from quads v m ≡ x
  unfolding first_from
  first_is x a b none at = go (lt_or_ge x (length quads))
    where
      before : HoldsTo other (x - m)
      before i h = ap not (ne_eqb _ _ (none (m + i) (omega arith) (omega arith)))

      sum : m + (x - m) ≡ x
      sum = omega arith

      stops : x < length quads → other (x - m) ≡ false
      stops h = ap not (eq-eqb _ _ (ap (from quads) sum ∙ at h))

      go : (x < length quads) ⊎ (length quads ≤ x) → m + leading other (length quads - m) ≡ x
      go (inl h) = rw (leading_at other (length quads - m) (x - m) (omega arith) before (stops h)) sum
      go (inr h) =
          let all : leading other (length quads - m) ≡ length quads - m = leading_all other (length quads - m) (λ i k. before i (omega arith)) in
          omega arith

pub first_none : (quads : List ℕ) (v : ℕ) → first_from quads v (length quads) ≡ length quads
first_none quads v = first_is quads v (length quads) (length quads) (omega arith) (omega arith) (λ i a b e. omega arith) (λ h. absurd (omega arith))

pub first_here : (quads : List ℕ) (v m : ℕ) → m < length quads → from quads m ≡ v → first_from quads v m ≡ m
first_here quads v m h e = first_is quads v m m (omega arith) (omega arith) (λ i a b e. omega arith) (λ _. e)

pub first_skip : (quads : List ℕ) (v m : ℕ) → m < length quads → (from quads m ≡ v → ⊥) → first_from quads v m ≡ first_from quads v (m + 1)
first_skip quads v m h ne =
    let x = first_from quads v (m + 1) in
    let above : m + 1 ≤ x = first_ge quads v (m + 1) in
    first_is quads v m x (omega arith) (first_le quads v (m + 1) (omega arith)) (λ i a b e. between i a b e (lt_or_ge m i)) (first_starts quads v (m + 1))
  where
    between : (i : ℕ) → m ≤ i → i < first_from quads v (m + 1) → from quads i ≡ v → (m < i) ⊎ (i ≤ m) → ⊥
    between i a b e (inl l) =
        let sum : m + 1 + (i - (m + 1)) ≡ i = omega arith in
        let off : eqb (from quads i) v ≡ false = subst (λ (k : ℕ). eqb (from quads k) v ≡ false) sum (first_between quads v (m + 1) (i - (m + 1)) (omega arith)) in
        eqb-false _ _ off e
    between i a b e (inr g) =
        let same : i ≡ m = omega arith in
        ne (sym (ap (from quads) same) ∙ e)

-- ---- the words of the promise

module _ (quads : List ℕ) where
  abbrev head_of : ℕ → ℕ
  head_of v = first_from quads v 0

  abbrev link_of : ℕ → ℕ
  link_of i = first_from quads (from quads i) (i + 1)

  pub chains_length : length (chains quads) ≡ words_needed quads
  chains_length = length-append (each head_of (top_number quads)) (each link_of (length quads)) ∙ rw (each_length head_of (top_number quads), each_length link_of (length quads))

  pub at_head : (p : ℕ) → p < top_number quads → get_or (chains quads) p 0 ≡ head_of p
  at_head p h =
      get_or-append (each head_of (top_number quads)) (each link_of (length quads)) 0 p (rw (each_length head_of (top_number quads)) h)
      ∙ each_at head_of (top_number quads) p 0 h

  pub at_link : (i : ℕ) → i < length quads → get_or (chains quads) (top_number quads + i) 0 ≡ link_of i
  at_link i h =
      ap (λ (k : ℕ). get_or (chains quads) (k + i) 0) (sym (each_length head_of (top_number quads)))
      ∙ get_or-append-add (each head_of (top_number quads)) (each link_of (length quads)) i 0
      ∙ each_at link_of (length quads) i 0 h
