-- The answer is yes exactly if the vertices and the quads match (document 02, Twelve). One way: sound vertices and quads are apart, and as many as ours, so each of
-- ours is met. The other way: what matches vertices of ours that are all different is itself different.
-- Assumes nothing.
use Prim.Native.Nat.{ℕ, ◌≤◌, ◌<◌}
use mathlib.Core.Path.{◌≡◌, sym, subst}
use mathlib.Core.Bool.{Bool, true}
use mathlib.Core.Logic.{◌↔◌}
use mathlib.Core.List.{List}
use native.Mathlib.Omega.{arith}
use lib.Ieee.{Float}
use Rattle.laws.specs.Leading.{leading}
use Rattle.laws.proofs.Leading.{HoldsTo, leading_holds, leading_all}
use Rattle.mesh_rule.specs.Mesh.{Quad}
use Rattle.foundry_rule.specs.Judged.{vertex_total, quad_total, alike, named_quad, as_sent, same_round, own_number, sound_vertex, sound_quad, same, compared}
use Rattle.foundry_rule.specs.Matches.{OneToOne, Matches}
use Rattle.foundry_rule.specs.Distinct.{Distinct, QuadsBelow}
use Rattle.foundry_rule.specs.Faults.{is_ours}
use Rattle.foundry_rule.proofs.Pigeons.{Into, Apart, pigeons, one_to_one_count}
use Rattle.foundry_rule.proofs.Rounds.{renamed_alike, round_renamed, round_turned, round_then, quad_below_lem}
use Rattle.foundry_rule.proofs.Firsts.{not_so, alike_turned, alike_then}
use Rattle.foundry_rule.proofs.Outcomes.{same_found, find_same}
use Rattle.foundry_rule.proofs.Sound.{own_alike, own_known, vertex_sound_lem, own_into, own_same, offsets_fine, own_apart, own_place, quad_sound_lem, place_into, place_turned, place_apart}

-- as `pigeons`, where the two counts are equal
pub pigeons_to : (f : ℕ → ℕ) (m n : ℕ) → m ≡ n → Into f m n → Apart f m → OneToOne f m n
pigeons_to f m n e g h = subst (λ (x : ℕ). OneToOne f m x) e (pigeons f m (λ i l. omega (arith, g i l)) h)

-- what the search passed, all of it, where it went to the end
pub all_hold_lem : (f : ℕ → Bool) (n : ℕ) → n ≤ leading f n → HoldsTo f n
all_hold_lem f n l i h = leading_holds f n i (omega arith)

module _ (our_words our_quads words : List ℕ) (offsets : List Float) (quads : List ℕ) where
  abbrev own : ℕ → ℕ
  own = own_number our_words our_quads words offsets quads

  abbrev sound_v : ℕ → Bool
  sound_v = sound_vertex our_words our_quads words offsets quads

  abbrev sound_q : ℕ → Bool
  sound_q = sound_quad our_words our_quads words offsets quads

  -- ---- a yes is a match

  sound_match : HoldsTo sound_v (vertex_total words) → HoldsTo sound_q (quad_total quads) → vertex_total words ≡ vertex_total our_words
      → quad_total quads ≡ quad_total our_quads → QuadsBelow (vertex_total words) quads → Matches our_words our_quads words offsets quads
  sound_match sv sq e d range = record {
    vertex = own;
    vertices = pigeons_to own (vertex_total words) (vertex_total our_words) e (own_into our_words our_quads words offsets quads sv)
        (own_apart our_words our_quads words offsets quads sv);
    cube_and_word = own_same our_words our_quads words offsets quads sv;
    place = own_place our_words our_quads words offsets quads;
    places = pigeons_to (own_place our_words our_quads words offsets quads) (quad_total quads) (quad_total our_quads) d
        (place_into our_words our_quads words offsets quads sv sq range) (place_apart our_words our_quads words offsets quads sv sq range);
    turned = place_turned our_words our_quads words offsets quads sv sq range;
    offsets_in = offsets_fine our_words our_quads words offsets quads sv;
  }

  pub yes_is_match : QuadsBelow (vertex_total words) quads → compared our_words our_quads words offsets quads ≡ same → Matches our_words our_quads words offsets quads
  unfolding compared
  yes_is_match range e =
      let h = same_found (vertex_total words) (quad_total quads) (vertex_total our_words) (quad_total our_quads) (leading sound_v (vertex_total words))
      (leading sound_q (quad_total quads)) e in
      sound_match (all_hold_lem sound_v (vertex_total words) h.0) (all_hold_lem sound_q (quad_total quads) h.1) h.2 h.3 range

  -- ---- a match is a yes

  module _ (distinct : Distinct our_words our_quads) (range : QuadsBelow (vertex_total words) quads) (matches : Matches our_words our_quads words offsets quads) where
    -- the number found is the one that the match gives
    own_is : (v : ℕ) → v < vertex_total words → own v ≡ matches.vertex v
    own_is v l =
        let at : matches.vertex v < vertex_total our_words = matches.vertices.into v l in
        let known : own v < vertex_total our_words = own_known our_words our_quads words offsets quads v (matches.vertex v) at (matches.cube_and_word v l) in
        distinct.vertices (own v) (matches.vertex v) known at
        (alike_then our_words (own v) words v our_words (matches.vertex v)
        (alike_turned words v our_words (own v) (own_alike our_words our_quads words offsets quads v known)) (matches.cube_and_word v l))

    -- alike vertices are one
    alike_one : (v u : ℕ) → v < vertex_total words → u < vertex_total words → alike words v words u ≡ true → v ≡ u
    alike_one v u a b t =
        matches.vertices.apart v u a b
        (distinct.vertices (matches.vertex v) (matches.vertex u) (matches.vertices.into v a) (matches.vertices.into u b)
        (alike_then our_words (matches.vertex v) words v our_words (matches.vertex u) (alike_turned words v our_words (matches.vertex v) (matches.cube_and_word v a))
        (alike_then words v words u our_words (matches.vertex u) t (matches.cube_and_word u b))))

    match_vertices : HoldsTo sound_v (vertex_total words)
    match_vertices v l =
        let at : matches.vertex v < vertex_total our_words = matches.vertices.into v l in
        vertex_sound_lem our_words our_quads words offsets quads v
        (own_known our_words our_quads words offsets quads v (matches.vertex v) at (matches.cube_and_word v l))
        (λ u m. not_so _ (λ t. let e : v ≡ u = alike_one v u l (omega arith) t in omega arith))
        (matches.offsets_in v l)

    -- quads of the same round are one
    round_one : (q p : ℕ) → q < quad_total quads → p < quad_total quads → same_round (named_quad as_sent quads q) (named_quad as_sent quads p) ≡ true → q ≡ p
    round_one q p a b t =
        let ours : ℕ → Quad = λ x. named_quad as_sent our_quads (matches.place x) in
        let theirs : ℕ → Quad = named_quad matches.vertex quads in
        matches.places.apart q p a b
        (distinct.quads (matches.place q) (matches.place p) (matches.places.into q a) (matches.places.into p b)
        (round_then (ours q) (theirs q) (ours p) (round_turned (theirs q) (ours q) (matches.turned q a))
        (round_then (theirs q) (theirs p) (ours p) (round_renamed matches.vertex (named_quad as_sent quads q) (named_quad as_sent quads p) t) (matches.turned p b))))

    -- each quad is ours where the match says
    place_is : (q : ℕ) → q < quad_total quads → is_ours our_words our_quads words offsets quads q (matches.place q) ≡ true
    place_is q l =
        subst (λ (x : Quad). same_round x (named_quad as_sent our_quads (matches.place q)) ≡ true)
        (sym (renamed_alike own matches.vertex (vertex_total words) own_is (named_quad as_sent quads q) (quad_below_lem (vertex_total words) quads q (range q l))))
        (matches.turned q l)

    match_quads : HoldsTo sound_q (quad_total quads)
    match_quads q l =
        quad_sound_lem our_words our_quads words offsets quads q (matches.place q) (matches.places.into q l) (place_is q l)
        (λ p m. not_so _ (λ t. let e : q ≡ p = round_one q p l (omega arith) t in omega arith))

  pub match_is_yes : Distinct our_words our_quads → QuadsBelow (vertex_total words) quads → Matches our_words our_quads words offsets quads
      → compared our_words our_quads words offsets quads ≡ same
  unfolding compared
  match_is_yes distinct range matches =
      find_same (vertex_total words) (quad_total quads) (vertex_total our_words) (quad_total our_quads) (leading sound_v (vertex_total words)) (leading sound_q (quad_total quads))
      (omega (arith, leading_all sound_v (vertex_total words) (match_vertices distinct range matches)))
      (omega (arith, leading_all sound_q (quad_total quads) (match_quads distinct range matches)))
      (one_to_one_count matches.vertices) (one_to_one_count matches.places)

  -- "say yes exactly if .."
  pub yes_exactly : Distinct our_words our_quads → QuadsBelow (vertex_total words) quads
      → (compared our_words our_quads words offsets quads ≡ same) ↔ Matches our_words our_quads words offsets quads
  yes_exactly distinct range = (yes_is_match range, match_is_yes distinct range)
