-- The chains of sides: one side more at the front, the words when all are chained, and a chain that is followed.
-- Assumes nothing.
use Prim.Native.Nat.{ℕ, ◌+◌, ◌-◌, ◌≤◌, ◌<◌, max}
use Rattle.std.specs.Prelude.{Some, None, fold}
use Rattle.std.specs.List.{reduce}
use mathlib.Core.Path.{◌≡◌, refl, ap, sym, ◌∙◌, subst}
use mathlib.Core.Bool.{Bool, true, false}
use mathlib.Core.Logic.{◌⊎◌, inl, inr}
use mathlib.Core.List.{List, [], ◌∷◌, ◌++◌}
use native.Mathlib.Omega.{arith}
use lib.Dec.{eqb}
use lib.ListN.{length, get_or, set, take, drop, replicate, length-set}
use lib.Seq.{get_or-set_same, get_or-set_other, ext_get_or, length-take-le}
use Rattle.std.proofs.lemmas.List.{length-replicate, get_or-replicate}
use borrow.Author.Tests.{eqb-true, eqb-false, eq-eqb}
use Rattle.laws.specs.Below.{over}
use Rattle.laws.specs.Bits.{bit}
use Rattle.laws.specs.Counting.{count}
use Rattle.laws.proofs.Bits.{bit_le}
use Rattle.laws.proofs.Counting.{count_next, count_still}
use Rattle.laws.proofs.Over.{over_length, over_front, over_behind}
use Rattle.laws.proofs.Tests.{lt_or_ge, and_fails}
use Rattle.closed.specs.Closed.{from, walked}
use Rattle.closed.specs.Chains.{top_number, first_from, chains}
use Rattle.closed.specs.Steps.{next_place, walks_before}
use Rattle.closed.proofs.Chains.{top_above, first_ge, first_le, first_starts, first_between, first_none, first_here, first_skip, chains_length, at_head, at_link}
use Rattle.closed_with.specs.Steps.{Chained, Followed}

-- ---- one more than the highest number

fold_top : (v : ℕ) (l : List ℕ) → fold max v l + 1 ≡ max (v + 1) (top_number l)
unfolding top_number
fold_top v [] = omega arith
fold_top v (x ∷ l) = omega (arith, fold_top (max v x) l)

pub top_some : (l : List ℕ) (m : ℕ) → Some m ≡ reduce max l → m + 1 ≡ top_number l
unfolding top_number
top_some [] m e = cc
top_some (v ∷ l) m e = let f : m ≡ fold max v l = cc in omega (arith, f, fold_top v l)

pub top_none : (l : List ℕ) → None ≡ reduce max l → 0 ≡ top_number l
unfolding top_number
top_none [] e = refl
top_none (v ∷ l) e = cc

-- ---- the chains while they are made

module _ {quads : List ℕ} {top : ℕ} where
  -- no side is chained yet: the word of each vertex says so, and nothing else is touched
  pub chained_none : (old heads : List ℕ) → top ≤ length old → heads ≡ replicate (length (take top old)) (length quads) → Chained quads top (length quads) old (heads ++ drop top old)
  unfolding over
  chained_none old heads h e =
      let all : length (take top old) ≡ top = length-take-le top old h in
      let many : length heads ≡ top = ap length e ∙ length-replicate (length (take top old)) (length quads) ∙ all in
      subst (λ (n : ℕ). Chained quads top (length quads) old (heads ++ drop n old)) many (record {
        long = over_length heads old (omega (arith, many));
        heads = λ v b. over_front heads old v 0 (omega (arith, many)) ∙ ap (λ (l : List ℕ). get_or l v 0) e ∙ get_or-replicate _ v (length quads) 0 (omega (arith, all)) ∙ sym (first_none quads v);
        links = λ i a b. absurd (omega arith);
        behind = λ p b. over_behind heads old p 0 (omega (arith, many));
      })

  module _ (m v : ℕ) {old new : List ℕ} (at : v ≡ from quads m) (is-top : top ≡ top_number quads) (room : top + length quads ≤ length new) (inside : m < length quads)
      (c : Chained quads top (m + 1) old new) where
    abbrev linked : List ℕ
    linked = set new (top + m) (get_or new v 0)

    below_top : v < top
    below_top = rw (at, is-top) (top_above quads m inside)

    -- a place that the two stores do not touch
    kept : (p : ℕ) → (p ≡ top + m → ⊥) → (p ≡ v → ⊥) → get_or (set linked v m) p 0 ≡ get_or new p 0
    kept p a b = get_or-set_other linked v p m 0 b ∙ get_or-set_other new (top + m) p (get_or new v 0) 0 a

    head : (u : ℕ) → u < top → (b : Bool) → eqb u v ≡ b → get_or (set linked v m) u 0 ≡ first_from quads u m
    head u h true e =
        let same : u ≡ v = eqb-true u v e in
        rw (same, first_here quads v m inside (sym at))
        (get_or-set_same linked v m 0 (omega (arith, length-set new (top + m) (get_or new v 0), below_top)))
    head u h false e =
        let other : u ≡ v → ⊥ = eqb-false u v e in
        kept u (λ x. absurd (omega arith)) other ∙ c.heads u h ∙ sym (first_skip quads u m inside (λ x. other (sym x ∙ sym at)))

    link : (i : ℕ) → i < length quads → (m < i) ⊎ (i ≤ m) → m ≤ i → get_or (set linked v m) (top + i) 0 ≡ first_from quads (from quads i) (i + 1)
    link i h (inl l) a = kept (top + i) (λ x. absurd (omega arith)) (λ x. absurd (omega (arith, below_top, x))) ∙ c.links i (omega arith) h
    link i h (inr g) a =
        let same : i ≡ m = omega arith in
        rw (same, ← at)
        (get_or-set_other linked v (top + m) m 0 (λ x. absurd (omega (arith, below_top, x)))
        ∙ get_or-set_same new (top + m) (get_or new v 0) 0 (omega arith)
        ∙ c.heads v below_top)

    -- one side more, before those that start at its vertex
    pub chained_more : Chained quads top m old (set (set new (top + m) (get_or new v 0)) v m)
    chained_more = record {
      long = length-set linked v m ∙ length-set new (top + m) (get_or new v 0) ∙ c.long;
      heads = λ u h. head u h (eqb u v) refl;
      links = λ i a h. link i h (lt_or_ge m i) a;
      behind = λ p h. kept p (λ x. absurd (omega arith)) (λ x. absurd (omega (arith, below_top, x))) ∙ c.behind p h;
    }

  -- in two steps
  pub chained_then : {m k : ℕ} {old mid new : List ℕ} → Chained quads top k old mid → Chained quads top m mid new → Chained quads top m old new
  chained_then a b = record {
    long = b.long ∙ a.long;
    heads = b.heads;
    links = b.links;
    behind = λ p h. b.behind p h ∙ a.behind p h;
  }

  -- all sides are chained: the chains can be followed
  pub chains_followed : {old new : List ℕ} → top + length quads ≤ length old → Chained quads top 0 old new → Followed quads top new
  chains_followed room c = record { room = omega (arith, room, c.long); heads = c.heads; links = λ i h. c.links i (omega arith) h }

-- all sides are chained: the memory holds these words
module _ (quads old new : List ℕ) (room : top_number quads + length quads ≤ length old) (c : Chained quads (top_number quads) 0 old new) where
  place : (p : ℕ) → (p < top_number quads) ⊎ (top_number quads ≤ p) → (p < top_number quads + length quads) ⊎ (top_number quads + length quads ≤ p)
      → get_or new p 0 ≡ get_or (over (chains quads) old) p 0
  place p (inl h) _ = c.heads p h ∙ sym (over_front (chains quads) old p 0 (omega (arith, chains_length quads, h)) ∙ at_head quads p h)
  place p (inr g) (inl h) =
      let back : top_number quads + (p - top_number quads) ≡ p = omega arith in
      subst (λ (k : ℕ). get_or new k 0 ≡ get_or (over (chains quads) old) k 0) back
      (c.links (p - top_number quads) (omega arith) (omega arith)
      ∙ sym (over_front (chains quads) old (top_number quads + (p - top_number quads)) 0 (omega (arith, chains_length quads, h, g)) ∙ at_link quads (p - top_number quads) (omega arith)))
  place p (inr _) (inr h) = c.behind p h ∙ sym (over_behind (chains quads) old p 0 (omega (arith, chains_length quads, h)))

  all_written : new ≡ over (chains quads) old
  all_written =
      ext_get_or 0 new (over (chains quads) old) (c.long ∙ sym (over_length (chains quads) old (omega (arith, chains_length quads, room))))
      (λ p _. place p (lt_or_ge p (top_number quads)) (lt_or_ge p (top_number quads + length quads)))

pub chains_written : (quads : List ℕ) (top : ℕ) (old new : List ℕ) → top ≡ top_number quads → top + length quads ≤ length old → Chained quads top 0 old new → new ≡ over (chains quads) old
chains_written quads top old new is room c = all_written quads old new (rw is at room) (subst (λ (t : ℕ). Chained quads t 0 old new) is c)

-- ---- a chain that is followed

-- `found` of the sides before m are walked from a to b, and m starts at a
pub record Following (quads : List ℕ) (a b found m : ℕ) : Type 0 where
  pub bounded : m ≤ length quads
  pub few : found ≤ m
  pub counted : found ≡ walks_before quads a b m
  pub starts : m < length quads → from quads m ≡ a

module _ (quads : List ℕ) (a b : ℕ) where
  still : (m : ℕ) → m ≤ length quads → walks_before quads a b (first_from quads a m) ≡ walks_before quads a b m
  still m h =
      let more : first_from quads a m ≡ m + (first_from quads a m - m) = omega (arith, first_ge quads a m) in
      ap (walks_before quads a b) more
      ∙ count_still (walked quads a b) m (first_from quads a m - m) (λ i l. sym (and_fails _ (first_between quads a m i l)))

  pub follow_first : (m : ℕ) → m ≡ first_from quads a 0 → Following quads a b 0 m
  unfolding count
  follow_first m e = record {
    bounded = rw e (first_le quads a 0 (omega arith));
    few = omega arith;
    counted = rw e (sym (still 0 (omega arith)));
    starts = λ h. rw e (first_starts quads a 0 (rw e at h));
  }

  -- one side further
  pub follow_next : (found m e s next : ℕ) → Following quads a b found m → m < length quads → e ≡ next_place m → s ≡ bit (eqb (get_or quads e 0) b)
      → next ≡ first_from quads (from quads m) (m + 1) → Following quads a b (found + s) next
  follow_next found m e s next f h g w n =
      let goes : next ≡ first_from quads a (m + 1) = n ∙ ap (λ (v : ℕ). first_from quads v (m + 1)) (f.starts h) in
      let here : bit (walked quads a b m) ≡ s = rw (eq-eqb (from quads m) a (f.starts h)) (sym (w ∙ ap (λ (k : ℕ). bit (eqb (get_or quads k 0) b)) g)) in
      record {
        bounded = rw goes (first_le quads a (m + 1) (omega arith));
        few = omega (arith, goes, first_ge quads a (m + 1), f.few, w, bit_le (eqb (get_or quads e 0) b));
        counted = rw goes (sym (still (m + 1) (omega arith) ∙ count_next (walked quads a b) m ∙ rw (here, ← f.counted)));
        starts = λ k. rw goes (first_starts quads a (m + 1) (rw goes at k));
      }
