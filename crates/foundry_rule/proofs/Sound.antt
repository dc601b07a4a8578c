-- A vertex or a quad is sound exactly if it is not at fault; and what follows where all are sound: vertex to own vertex, and quad to own quad, are maps into our
-- numbers that keep them apart.
-- Assumes nothing.
use Prim.Native.Nat.{ℕ, ◌≤◌, ◌<◌}
use mathlib.Core.Path.{◌≡◌, sym, subst}
use mathlib.Core.Bool.{Bool, true, false, not, ◌&&◌}
use mathlib.Core.Logic.{◌⊎◌, inl, inr}
use mathlib.Core.List.{List}
use native.Mathlib.Omega.{arith}
use lib.Ieee.{Float}
use borrow.Author.Tests.{ltb-true, lt-ltb, not-true, not-false}
use Rattle.laws.proofs.Leading.{HoldsTo}
use Rattle.laws.proofs.Tests.{and_both, lt_or_ge}
use Rattle.vertex_lists.specs.Rows.{offset_inside}
use Rattle.foundry_rule.specs.Judged.{first_passing, is_some, vertex_total, quad_total, alike, named_quad, as_sent, same_round, own_number, sound_vertex, our_quad, sound_quad}
use Rattle.foundry_rule.specs.Distinct.{QuadsBelow}
use Rattle.foundry_rule.specs.Faults.{VertexFault, vertex_unknown, vertex_again, offset_bad, is_ours, QuadFault, quad_unknown, quad_again}
use Rattle.foundry_rule.proofs.Pigeons.{Into, Apart}
use Rattle.foundry_rule.proofs.Rounds.{round_turned, round_then, round_back, quad_below_lem}
use Rattle.foundry_rule.proofs.Firsts.{both_ways, one_fails, first_passes, none_passes, is_some_lem, is_none, alike_turned, alike_then}

-- two numbers in a relation that goes both ways, and in which no number stands to an earlier one, are one
pub no_earlier : (P : ℕ → ℕ → Type 0) → ((i k : ℕ) → P i k → P k i) → (n : ℕ) → ((i k : ℕ) → i < n → k < i → P i k → ⊥)
    → (i k : ℕ) → i < n → k < n → P i k → i ≡ k
no_earlier P turn n h i k a b p = go (lt_or_ge i k) (lt_or_ge k i)
  where
    go : (i < k) ⊎ (k ≤ i) → (k < i) ⊎ (i ≤ k) → i ≡ k
    go (inl l) _ = absurd (h k i b l (turn i k p))
    go (inr l) (inl m) = absurd (h i k a m p)
    go (inr l) (inr m) = omega arith

module _ (our_words our_quads words : List ℕ) (offsets : List Float) (quads : List ℕ) where
  abbrev own : ℕ → ℕ
  own = own_number our_words our_quads words offsets quads

  abbrev sound_v : ℕ → Bool
  sound_v = sound_vertex our_words our_quads words offsets quads

  abbrev sound_q : ℕ → Bool
  sound_q = sound_quad our_words our_quads words offsets quads

  -- ---- vertices

  -- the three parts of a sound vertex
  sound_vertex_parts : (v : ℕ) → sound_v v ≡ true
      → (own v < vertex_total our_words) × (is_some (alike words v words) v ≡ false) × (offset_inside offsets v ≡ true)
  unfolding sound_vertex
  sound_vertex_parts v t =
      let h = and_both _ _ t in
      let k = and_both _ _ h.0 in
      (ltb-true _ _ k.0, not-true _ k.1, h.1)

  pub own_alike : (v : ℕ) → own v < vertex_total our_words → alike words v our_words (own v) ≡ true
  unfolding own_number
  own_alike v l = first_passes (alike words v our_words) (vertex_total our_words) l

  -- vertices that are one of ours are alike
  pub own_shared : (i k : ℕ) → own i < vertex_total our_words → own k < vertex_total our_words → own i ≡ own k → alike words i words k ≡ true
  own_shared i k a b e =
      alike_then words i our_words (own i) words k (own_alike i a)
      (alike_turned words k our_words (own i) (subst (λ (x : ℕ). alike words k our_words x ≡ true) (sym e) (own_alike k b)))

  pub own_known : (v u : ℕ) → u < vertex_total our_words → alike words v our_words u ≡ true → own v < vertex_total our_words
  unfolding own_number
  own_known v u l t = ltb-true _ _ (is_some_lem (alike words v our_words) (vertex_total our_words) u l t)

  pub vertex_sound_lem : (v : ℕ) → own v < vertex_total our_words → ((u : ℕ) → u < v → alike words v words u ≡ false) → offset_inside offsets v ≡ true
      → sound_v v ≡ true
  unfolding sound_vertex
  vertex_sound_lem v l a o = rw (lt-ltb (own v) (vertex_total our_words) l, is_none (alike words v words) v a, o)

  pub sound_no_fault : (v : ℕ) → sound_v v ≡ true → VertexFault our_words words offsets v → ⊥
  sound_no_fault v t (vertex_unknown h) = let p = sound_vertex_parts v t in both_ways (own_alike v p.0) (h (own v) p.0)
  sound_no_fault v t (vertex_again u l e) = let p = sound_vertex_parts v t in both_ways e (none_passes (alike words v words) v p.1 u l)
  sound_no_fault v t (offset_bad e) = both_ways (sound_vertex_parts v t).2 e

  pub unsound_fault : (v : ℕ) → sound_v v ≡ false → VertexFault our_words words offsets v
  unfolding sound_vertex own_number
  unsound_fault v t = last (one_fails _ _ t)
    where
      first : (is_some (alike words v our_words) (vertex_total our_words) ≡ false) ⊎ (not (is_some (alike words v words) v) ≡ false) → VertexFault our_words words offsets v
      first (inl e) = vertex_unknown (none_passes (alike words v our_words) (vertex_total our_words) e)
      first (inr e) =
          let l : first_passing (alike words v words) v < v = ltb-true _ _ (not-false _ e) in
          vertex_again (first_passing (alike words v words) v) l (first_passes (alike words v words) v l)

      last : ((is_some (alike words v our_words) (vertex_total our_words) && not (is_some (alike words v words) v)) ≡ false) ⊎ (offset_inside offsets v ≡ false)
          → VertexFault our_words words offsets v
      last (inl e) = first (one_fails _ _ e)
      last (inr e) = offset_bad e

  -- ---- all vertices are sound

  module _ (sound : HoldsTo sound_v (vertex_total words)) where
    pub own_into : Into own (vertex_total words) (vertex_total our_words)
    own_into v l = (sound_vertex_parts v (sound v l)).0

    pub own_same : (v : ℕ) → v < vertex_total words → alike words v our_words (own v) ≡ true
    own_same v l = own_alike v (own_into v l)

    pub offsets_fine : (v : ℕ) → v < vertex_total words → offset_inside offsets v ≡ true
    offsets_fine v l = (sound_vertex_parts v (sound v l)).2

    pub own_apart : Apart own (vertex_total words)
    own_apart i k a b e =
        no_earlier (λ (i k : ℕ). alike words i words k ≡ true) (λ i k. alike_turned words i words k) (vertex_total words)
        (λ i k l m t. both_ways t (none_passes (alike words i words) i (sound_vertex_parts i (sound i l)).1 k m)) i k a b
        (own_shared i k (own_into i a) (own_into k b) e)

  -- ---- quads

  -- the number of the first quad of ours that quad q is; how many we have, where it is none
  unfoldable pub own_place : ℕ → ℕ
  own_place q = first_passing (is_ours our_words our_quads words offsets quads q) (quad_total our_quads)

  -- quads q and p have the same numbers, as they were sent
  abbrev repeats : ℕ → ℕ → Bool
  repeats q p = same_round (named_quad as_sent quads q) (named_quad as_sent quads p)

  sound_quad_parts : (q : ℕ) → sound_q q ≡ true → (own_place q < quad_total our_quads) × (is_some (repeats q) q ≡ false)
  unfolding sound_quad our_quad own_place own_number
  sound_quad_parts q t = let h = and_both _ _ t in (ltb-true _ _ h.0, not-true _ h.1)

  pub quad_sound_lem : (q p : ℕ) → p < quad_total our_quads → is_ours our_words our_quads words offsets quads q p ≡ true
      → ((p : ℕ) → p < q → repeats q p ≡ false) → sound_q q ≡ true
  unfolding sound_quad our_quad
  quad_sound_lem q p l t a = rw (is_some_lem (is_ours our_words our_quads words offsets quads q) (quad_total our_quads) p l t, is_none (repeats q) q a)

  pub place_ours : (q : ℕ) → own_place q < quad_total our_quads → is_ours our_words our_quads words offsets quads q (own_place q) ≡ true
  unfolding own_place
  place_ours q l = first_passes (is_ours our_words our_quads words offsets quads q) (quad_total our_quads) l

  pub sound_no_quad_fault : (q : ℕ) → sound_q q ≡ true → QuadFault our_words our_quads words offsets quads q → ⊥
  sound_no_quad_fault q t (quad_unknown h) = let p = sound_quad_parts q t in both_ways (place_ours q p.0) (h (own_place q) p.0)
  sound_no_quad_fault q t (quad_again p l e) = both_ways e (none_passes (repeats q) q (sound_quad_parts q t).1 p l)

  pub unsound_quad_fault : (q : ℕ) → sound_q q ≡ false → QuadFault our_words our_quads words offsets quads q
  unfolding sound_quad our_quad
  unsound_quad_fault q t = go (one_fails _ _ t)
    where
      go : (is_some (is_ours our_words our_quads words offsets quads q) (quad_total our_quads) ≡ false) ⊎ (not (is_some (repeats q) q) ≡ false)
          → QuadFault our_words our_quads words offsets quads q
      go (inl e) = quad_unknown (none_passes (is_ours our_words our_quads words offsets quads q) (quad_total our_quads) e)
      go (inr e) =
          let l : first_passing (repeats q) q < q = ltb-true _ _ (not-false _ e) in
          quad_again (first_passing (repeats q) q) l (first_passes (repeats q) q l)

  -- ---- all vertices and quads are sound

  module _ (sound : HoldsTo sound_v (vertex_total words)) (soundQs : HoldsTo sound_q (quad_total quads)) (range : QuadsBelow (vertex_total words) quads) where
    pub place_into : Into own_place (quad_total quads) (quad_total our_quads)
    place_into q l = (sound_quad_parts q (soundQs q l)).0

    pub place_turned : (q : ℕ) → q < quad_total quads → is_ours our_words our_quads words offsets quads q (own_place q) ≡ true
    place_turned q l = place_ours q (place_into q l)

    -- two quads that are the same one of ours have the same numbers, as our numbers of their vertices are apart
    same_repeats : (i k : ℕ) → i < quad_total quads → k < quad_total quads → own_place i ≡ own_place k → repeats i k ≡ true
    same_repeats i k a b e =
        round_back own (vertex_total words) (own_apart sound) (named_quad as_sent quads i) (named_quad as_sent quads k)
        (quad_below_lem (vertex_total words) quads i (range i a)) (quad_below_lem (vertex_total words) quads k (range k b))
        (round_then (named_quad own quads i) (named_quad as_sent our_quads (own_place i)) (named_quad own quads k) (place_turned i a)
        (round_turned (named_quad own quads k) (named_quad as_sent our_quads (own_place i))
        (subst (λ (x : ℕ). is_ours our_words our_quads words offsets quads k x ≡ true) (sym e) (place_turned k b))))

    pub place_apart : Apart own_place (quad_total quads)
    place_apart i k a b e =
        no_earlier (λ (i k : ℕ). repeats i k ≡ true) (λ i k. round_turned (named_quad as_sent quads i) (named_quad as_sent quads k)) (quad_total quads)
        (λ i k l m t. both_ways t (none_passes (repeats i) i (sound_quad_parts i (soundQs i l)).1 k m)) i k a b (same_repeats i k a b e)
