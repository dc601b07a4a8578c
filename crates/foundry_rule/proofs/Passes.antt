-- Our own mesh passes: with its vertices in any order, its quads in any order and begun anywhere, and offsets from 0 to 1, the answer is yes. The match is the way back
-- from the numbers sent to ours.
-- Assumes nothing.
use Prim.Native.Nat.{ℕ, ◌<◌}
use mathlib.Core.Path.{◌≡◌, refl, subst}
use mathlib.Core.Bool.{true}
use mathlib.Core.List.{List}
use lib.Ieee.{Float}
use Rattle.vertex_lists.specs.Rows.{offset_inside}
use Rattle.mesh_rule.specs.Mesh.{Quad}
use Rattle.foundry_rule.specs.Judged.{vertex_total, quad_total, alike, named_quad, as_sent, same_round, same, compared}
use Rattle.foundry_rule.specs.Matches.{Matches}
use Rattle.foundry_rule.specs.Distinct.{Distinct, QuadsBelow}
use Rattle.foundry_rule.specs.Shuffled.{Shuffled}
use Rattle.foundry_rule.proofs.Pigeons.{same_to_same, back, back_into, there_back, back_there, back_one_to_one}
use Rattle.foundry_rule.proofs.Rounds.{AllBelow, renamed_alike, renamed_below, round_below, round_same, round_turned, round_renamed, quad_below_lem, below_quad}
use Rattle.foundry_rule.proofs.Firsts.{words_alike}
use Rattle.foundry_rule.proofs.Exactly.{match_is_yes}

module _ (our_words our_quads words quads : List ℕ) (ours_below : QuadsBelow (vertex_total our_words) our_quads) (made : Shuffled our_words our_quads words quads) where
  -- the numbers of ours that a vertex and a quad came from
  abbrev source : ℕ → ℕ
  source = back made.vertex_at (vertex_total our_words)

  abbrev source_quad : ℕ → ℕ
  source_quad = back made.quad_at (quad_total our_quads)

  source_alike : (v : ℕ) → v < vertex_total words → alike words v our_words (source v) ≡ true
  source_alike v l =
      let u : ℕ = source v in
      let at : made.vertex_at u ≡ v = there_back made.vertices v l in
      subst (λ (x : ℕ). alike words x our_words u ≡ true) at
      (words_alike words (made.vertex_at u) our_words u (made.cube u (back_into made.vertices v l)) (made.word u (back_into made.vertices v l)))

  -- quad q is its source, with the numbers sent
  source_round : (q : ℕ) → q < quad_total quads → same_round (named_quad as_sent quads q) (named_quad made.vertex_at our_quads (source_quad q)) ≡ true
  source_round q l =
      subst (λ (x : ℕ). same_round (named_quad as_sent quads x) (named_quad made.vertex_at our_quads (source_quad q)) ≡ true) (there_back made.places q l)
      (made.numbers (source_quad q) (back_into made.places q l))

  source_below : (q : ℕ) → q < quad_total quads → AllBelow (vertex_total our_words) (named_quad as_sent our_quads (source_quad q))
  source_below q l = quad_below_lem (vertex_total our_words) our_quads (source_quad q) (ours_below (source_quad q) (back_into made.places q l))

  -- there and back: the source, by our numbers
  source_turned : (q : ℕ) → q < quad_total quads → same_round (named_quad source quads q) (named_quad as_sent our_quads (source_quad q)) ≡ true
  source_turned q l =
      subst (λ (x : Quad). same_round (named_quad source quads q) x ≡ true)
      (renamed_alike (λ (i : ℕ). source (made.vertex_at i)) (λ (i : ℕ). i) (vertex_total our_words) (back_there made.vertices)
      (named_quad as_sent our_quads (source_quad q)) (source_below q l))
      (round_renamed source (named_quad as_sent quads q) (named_quad made.vertex_at our_quads (source_quad q)) (source_round q l))

  pub shuffled_below : QuadsBelow (vertex_total words) quads
  shuffled_below q l =
      let sent : Quad = named_quad made.vertex_at our_quads (source_quad q) in
      below_quad (vertex_total words) quads q
      (round_below (vertex_total words) sent (named_quad as_sent quads q) (round_turned (named_quad as_sent quads q) sent (source_round q l))
      (renamed_below made.vertex_at (vertex_total our_words) (vertex_total words) made.vertices.into (named_quad as_sent our_quads (source_quad q)) (source_below q l)))

  pub shuffled_matches : (offsets : List Float) → ((v : ℕ) → v < vertex_total words → offset_inside offsets v ≡ true) → Matches our_words our_quads words offsets quads
  shuffled_matches offsets inside = record {
    vertex = source;
    vertices = back_one_to_one made.vertices;
    cube_and_word = source_alike;
    place = source_quad;
    places = back_one_to_one made.places;
    turned = source_turned;
    offsets_in = inside;
  }

  pub ours_passes : Distinct our_words our_quads → (offsets : List Float) → ((v : ℕ) → v < vertex_total words → offset_inside offsets v ≡ true)
      → compared our_words our_quads words offsets quads ≡ same
  ours_passes distinct offsets inside =
      match_is_yes our_words our_quads words offsets quads distinct shuffled_below (shuffled_matches offsets inside)

-- ours as it is
unfoldable pub itself_shuffled : (our_words our_quads : List ℕ) → Shuffled our_words our_quads our_words our_quads
itself_shuffled our_words our_quads = record {
  vertex_at = λ u. u;
  vertices = same_to_same (vertex_total our_words);
  cube = λ u l. refl;
  word = λ u l. refl;
  quad_at = λ p. p;
  places = same_to_same (quad_total our_quads);
  numbers = λ p l. round_same (named_quad as_sent our_quads p);
}
