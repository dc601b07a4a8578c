-- "A no names the first vertex at fault, else the first quad at fault, else that some are missing" (document 02, Twelve): each of the three, both ways. That some are
-- missing is told from the counts, and then one of ours is not there: what is sent is apart, so it misses one where it is fewer.
-- Assumes nothing.
use Prim.Native.Nat.{ℕ, ◌≤◌, ◌<◌}
use mathlib.Core.Path.{◌≡◌, ap, subst, ◌∙◌}
use mathlib.Core.Bool.{Bool, true, false}
use mathlib.Core.Logic.{◌⊎◌, inl, inr, ◌↔◌}
use mathlib.Core.List.{List}
use native.Mathlib.Omega.{arith}
use lib.Ieee.{Float}
use Rattle.laws.specs.Leading.{leading}
use Rattle.laws.proofs.Leading.{HoldsTo, leading_holds, leading_stops, leading_at, leading_all}
use Rattle.laws.proofs.Tests.{lt_or_ge}
use Rattle.foundry_rule.specs.Judged.{vertex_total, quad_total, alike, named_quad, as_sent, own_number, sound_vertex, sound_quad, vertex_at_fault, quad_at_fault, some_missing, compared}
use Rattle.foundry_rule.specs.Distinct.{Distinct, QuadsBelow}
use Rattle.foundry_rule.specs.Faults.{VertexFault, is_ours, QuadFault, Missing, vertex_missing, quad_missing, FirstAtFault, NoneAtFault}
use Rattle.foundry_rule.proofs.Pigeons.{missed, apart_le}
use Rattle.foundry_rule.proofs.Rounds.{round_turned, round_then}
use Rattle.foundry_rule.proofs.Firsts.{both_ways, is_so, not_so, alike_turned, alike_then}
use Rattle.foundry_rule.proofs.Outcomes.{vertex_found, quad_found, missing_found, find_vertex, find_quad, find_missing}
use Rattle.foundry_rule.proofs.Sound.{sound_no_fault, unsound_fault, sound_no_quad_fault, unsound_quad_fault, own_into, own_same, own_apart, own_place, place_into, place_turned, place_apart}
use Rattle.foundry_rule.proofs.Exactly.{all_hold_lem, pigeons_to}

-- "A no names the first vertex at fault, else the first quad at fault, else that some are missing"
pub record NoNames (our_words our_quads words : List ℕ) (offsets : List Float) (quads : List ℕ) : Type 0 where
  pub vertex : (v : ℕ) → (compared our_words our_quads words offsets quads ≡ vertex_at_fault v) ↔ FirstAtFault (VertexFault our_words words offsets) (vertex_total words) v
  pub quad : (q : ℕ) → (compared our_words our_quads words offsets quads ≡ quad_at_fault q)
      ↔ (NoneAtFault (VertexFault our_words words offsets) (vertex_total words) × FirstAtFault (QuadFault our_words our_quads words offsets quads) (quad_total quads) q)
  pub missing : (compared our_words our_quads words offsets quads ≡ some_missing)
      ↔ (NoneAtFault (VertexFault our_words words offsets) (vertex_total words) × NoneAtFault (QuadFault our_words our_quads words offsets quads) (quad_total quads)
      × Missing our_words our_quads words offsets quads)

-- ---- a search by a test that passes exactly what is not at fault

module _ (f : ℕ → Bool) (Fault : ℕ → Type 0) (fine : (i : ℕ) → f i ≡ true → Fault i → ⊥) (bad : (i : ℕ) → f i ≡ false → Fault i) (n : ℕ) where
  no_fault_holds : (m : ℕ) → NoneAtFault Fault m → HoldsTo f m
  no_fault_holds m h i l = is_so (f i) (λ e. h i l (bad i e))

  search_ends : leading f n < n → FirstAtFault Fault n (leading f n)
  search_ends l = record { there = l; fault = bad (leading f n) (leading_stops f n l); none_before = λ u m. fine u (leading_holds f n u m) }

  search_first : (v : ℕ) → FirstAtFault Fault n v → leading f n ≡ v
  search_first v h = leading_at f n v h.there (no_fault_holds v h.none_before) (not_so (f v) (λ e. fine v e h.fault))

  search_none : n ≤ leading f n → NoneAtFault Fault n
  search_none l i m = fine i (all_hold_lem f n l i m)

  none_search : NoneAtFault Fault n → leading f n ≡ n
  none_search h = leading_all f n (no_fault_holds n h)

module _ (our_words our_quads words : List ℕ) (offsets : List Float) (quads : List ℕ) where
  abbrev own : ℕ → ℕ
  own = own_number our_words our_quads words offsets quads

  abbrev own_q : ℕ → ℕ
  own_q = own_place our_words our_quads words offsets quads

  abbrev sound_v : ℕ → Bool
  sound_v = sound_vertex our_words our_quads words offsets quads

  abbrev sound_q : ℕ → Bool
  sound_q = sound_quad our_words our_quads words offsets quads

  abbrev FaultV : ℕ → Type 0
  FaultV = VertexFault our_words words offsets

  abbrev FaultQ : ℕ → Type 0
  FaultQ = QuadFault our_words our_quads words offsets quads

  abbrev end_v : ℕ
  end_v = leading sound_v (vertex_total words)

  abbrev end_q : ℕ
  end_q = leading sound_q (quad_total quads)

  fine_v : (v : ℕ) → sound_v v ≡ true → FaultV v → ⊥
  fine_v = sound_no_fault our_words our_quads words offsets quads

  bad_v : (v : ℕ) → sound_v v ≡ false → FaultV v
  bad_v = unsound_fault our_words our_quads words offsets quads

  fine_q : (q : ℕ) → sound_q q ≡ true → FaultQ q → ⊥
  fine_q = sound_no_quad_fault our_words our_quads words offsets quads

  bad_q : (q : ℕ) → sound_q q ≡ false → FaultQ q
  bad_q = unsound_quad_fault our_words our_quads words offsets quads

  -- ---- a vertex

  vertex_first : (v : ℕ) → compared our_words our_quads words offsets quads ≡ vertex_at_fault v → FirstAtFault FaultV (vertex_total words) v
  unfolding compared
  vertex_first v e =
      let h = vertex_found (vertex_total words) (quad_total quads) (vertex_total our_words) (quad_total our_quads) end_v end_q v e in
      subst (FirstAtFault FaultV (vertex_total words)) h.1 (search_ends sound_v FaultV fine_v bad_v (vertex_total words) h.0)

  first_vertex : (v : ℕ) → FirstAtFault FaultV (vertex_total words) v → compared our_words our_quads words offsets quads ≡ vertex_at_fault v
  unfolding compared
  first_vertex v h =
      let at : end_v ≡ v = search_first sound_v FaultV fine_v bad_v (vertex_total words) v h in
      find_vertex (vertex_total words) (quad_total quads) (vertex_total our_words) (quad_total our_quads) end_v end_q (omega (arith, h.there)) ∙ ap vertex_at_fault at

  pub names_vertex : (v : ℕ) → (compared our_words our_quads words offsets quads ≡ vertex_at_fault v)
      ↔ FirstAtFault (VertexFault our_words words offsets) (vertex_total words) v
  names_vertex v = (vertex_first v, first_vertex v)

  -- ---- else a quad

  quad_first : (q : ℕ) → compared our_words our_quads words offsets quads ≡ quad_at_fault q
      → NoneAtFault FaultV (vertex_total words) × FirstAtFault FaultQ (quad_total quads) q
  unfolding compared
  quad_first q e =
      let h = quad_found (vertex_total words) (quad_total quads) (vertex_total our_words) (quad_total our_quads) end_v end_q q e in (
        search_none sound_v FaultV fine_v bad_v (vertex_total words) h.0,
        subst (FirstAtFault FaultQ (quad_total quads)) h.2 (search_ends sound_q FaultQ fine_q bad_q (quad_total quads) h.1),
      )

  first_quad : (q : ℕ) → NoneAtFault FaultV (vertex_total words) → FirstAtFault FaultQ (quad_total quads) q
      → compared our_words our_quads words offsets quads ≡ quad_at_fault q
  unfolding compared
  first_quad q none h =
      let past : end_v ≡ vertex_total words = none_search sound_v FaultV fine_v bad_v (vertex_total words) none in
      let at : end_q ≡ q = search_first sound_q FaultQ fine_q bad_q (quad_total quads) q h in
      find_quad (vertex_total words) (quad_total quads) (vertex_total our_words) (quad_total our_quads) end_v end_q (omega arith) (omega (arith, h.there)) ∙ ap quad_at_fault at

  pub names_quad : (q : ℕ) → (compared our_words our_quads words offsets quads ≡ quad_at_fault q)
      ↔ (NoneAtFault (VertexFault our_words words offsets) (vertex_total words) × FirstAtFault (QuadFault our_words our_quads words offsets quads) (quad_total quads) q)
  names_quad q = (quad_first q, λ h. first_quad q h.0 h.1)

  -- ---- else that some are missing

  module _ (sv : HoldsTo sound_v (vertex_total words)) where
    -- fewer vertices than ours: the one of ours that none is taken to has a cube and word of its own
    fewer_vertices : Distinct our_words our_quads → vertex_total words < vertex_total our_words → Missing our_words our_quads words offsets quads
    fewer_vertices distinct l =
        let into = own_into our_words our_quads words offsets quads sv in
        let out = missed own (vertex_total words) (vertex_total our_words) into l in
        vertex_missing out.0 out.1 (λ v m. not_so _ (λ t. out.2 v m
        (distinct.vertices (own v) out.0 (into v m) out.1
        (alike_then our_words (own v) words v our_words out.0 (alike_turned words v our_words (own v) (own_same our_words our_quads words offsets quads sv v m)) t))))

    module _ (sq : HoldsTo sound_q (quad_total quads)) (range : QuadsBelow (vertex_total words) quads) where
      fewer_quads : Distinct our_words our_quads → quad_total quads < quad_total our_quads → Missing our_words our_quads words offsets quads
      fewer_quads distinct l =
          let into = place_into our_words our_quads words offsets quads sv sq range in
          let out = missed own_q (quad_total quads) (quad_total our_quads) into l in
          quad_missing out.0 out.1 (λ q m. not_so _ (λ t. out.2 q m
          (distinct.quads (own_q q) out.0 (into q m) out.1
          (round_then (named_quad as_sent our_quads (own_q q)) (named_quad own quads q) (named_quad as_sent our_quads out.0)
          (round_turned (named_quad own quads q) (named_quad as_sent our_quads (own_q q)) (place_turned our_words our_quads words offsets quads sv sq range q m)) t))))

      -- as nothing sent is there twice, other counts are smaller counts
      some_missing_lem : Distinct our_words our_quads → (vertex_total words ≡ vertex_total our_words → quad_total quads ≡ quad_total our_quads → ⊥)
          → Missing our_words our_quads words offsets quads
      some_missing_lem distinct other = go (lt_or_ge (vertex_total words) (vertex_total our_words)) (lt_or_ge (quad_total quads) (quad_total our_quads))
        where
          vertices_fit : vertex_total words ≤ vertex_total our_words
          vertices_fit =
              apart_le own (vertex_total words) (vertex_total our_words) (own_into our_words our_quads words offsets quads sv)
              (own_apart our_words our_quads words offsets quads sv)

          quads_fit : quad_total quads ≤ quad_total our_quads
          quads_fit =
              apart_le own_q (quad_total quads) (quad_total our_quads) (place_into our_words our_quads words offsets quads sv sq range)
              (place_apart our_words our_quads words offsets quads sv sq range)

          go : (vertex_total words < vertex_total our_words) ⊎ (vertex_total our_words ≤ vertex_total words)
              → (quad_total quads < quad_total our_quads) ⊎ (quad_total our_quads ≤ quad_total quads) → Missing our_words our_quads words offsets quads
          go (inl l) _ = fewer_vertices distinct l
          go (inr l) (inl m) = fewer_quads distinct m
          go (inr l) (inr m) = absurd (other (omega (arith, vertices_fit)) (omega (arith, quads_fit)))

      -- where one is missing the counts are not the same: as many that are apart would meet each
      missing_other : Missing our_words our_quads words offsets quads → vertex_total words ≡ vertex_total our_words → quad_total quads ≡ quad_total our_quads → ⊥
      missing_other (vertex_missing u l away) e d =
          let all = pigeons_to own (vertex_total words) (vertex_total our_words) e (own_into our_words our_quads words offsets quads sv)
          (own_apart our_words our_quads words offsets quads sv) in
          let at = all.onto u l in
          both_ways (subst (λ (x : ℕ). alike words at.0 our_words x ≡ true) at.2 (own_same our_words our_quads words offsets quads sv at.0 at.1))
          (away at.0 at.1)
      missing_other (quad_missing p l away) e d =
          let all = pigeons_to own_q (quad_total quads) (quad_total our_quads) d (place_into our_words our_quads words offsets quads sv sq range)
          (place_apart our_words our_quads words offsets quads sv sq range) in
          let at = all.onto p l in
          both_ways (subst (λ (x : ℕ). is_ours our_words our_quads words offsets quads at.0 x ≡ true) at.2
          (place_turned our_words our_quads words offsets quads sv sq range at.0 at.1)) (away at.0 at.1)

  module _ (distinct : Distinct our_words our_quads) (range : QuadsBelow (vertex_total words) quads) where
    missing_so : compared our_words our_quads words offsets quads ≡ some_missing
        → NoneAtFault FaultV (vertex_total words) × NoneAtFault FaultQ (quad_total quads) × Missing our_words our_quads words offsets quads
    unfolding compared
    missing_so e =
        let h = missing_found (vertex_total words) (quad_total quads) (vertex_total our_words) (quad_total our_quads) end_v end_q e in (
          search_none sound_v FaultV fine_v bad_v (vertex_total words) h.0,
          search_none sound_q FaultQ fine_q bad_q (quad_total quads) h.1,
          some_missing_lem (all_hold_lem sound_v (vertex_total words) h.0) (all_hold_lem sound_q (quad_total quads) h.1) range distinct h.2,
        )

    so_missing : NoneAtFault FaultV (vertex_total words) → NoneAtFault FaultQ (quad_total quads) → Missing our_words our_quads words offsets quads
        → compared our_words our_quads words offsets quads ≡ some_missing
    unfolding compared
    so_missing noV noQ gone =
        find_missing (vertex_total words) (quad_total quads) (vertex_total our_words) (quad_total our_quads) end_v end_q
        (omega (arith, none_search sound_v FaultV fine_v bad_v (vertex_total words) noV)) (omega (arith, none_search sound_q FaultQ fine_q bad_q (quad_total quads) noQ))
        (missing_other (no_fault_holds sound_v FaultV fine_v bad_v (vertex_total words) (vertex_total words) noV)
        (no_fault_holds sound_q FaultQ fine_q bad_q (quad_total quads) (quad_total quads) noQ) range gone)

    pub names_missing : (compared our_words our_quads words offsets quads ≡ some_missing)
        ↔ (NoneAtFault (VertexFault our_words words offsets) (vertex_total words) × NoneAtFault (QuadFault our_words our_quads words offsets quads) (quad_total quads)
        × Missing our_words our_quads words offsets quads)
    names_missing = (missing_so, λ h. so_missing h.0 h.1 h.2)

    pub no_names : NoNames our_words our_quads words offsets quads
    no_names = record { vertex = names_vertex; quad = names_quad; missing = names_missing }
