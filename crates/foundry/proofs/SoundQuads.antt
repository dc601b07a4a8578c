-- Where no vertex is at fault, the first quad at fault, as the code finds it by 01's table, is the first at fault beside our list.
-- Assumes nothing.
use Prim.Native.Nat.{ℕ, ◌≤◌, ◌<◌}
use mathlib.Core.Path.{◌≡◌, ap, sym, ◌∙◌}
use mathlib.Core.Bool.{true, not}
use mathlib.Core.Logic.{◌⊎◌, inl, inr}
use mathlib.Core.List.{List}
use native.Mathlib.Nat.{eq-or-lt_of_le}
use native.Mathlib.Omega.{arith}
use lib.Dec.{eqb}
use lib.Ieee.{Float}
use Rattle.laws.specs.Leading.{leading}
use Rattle.laws.proofs.Leading.{HoldsTo}
use Rattle.laws.proofs.Tests.{and_both, lt_or_ge}
use Rattle.block.specs.declared.Cut.{Cut}
use Rattle.block.specs.declared.Size.{Size}
use Rattle.cube_rule.specs.Decider.{loops_of}
use Rattle.mesh_rule.specs.Buffers.{mesh_words, mesh_quads}
use Rattle.mesh_rule.specs.Mesh.{Quad}
use Rattle.foundry_rule.specs.Distinct.{QuadsBelow}
use Rattle.foundry_rule.specs.Judged.{vertex_total, quad_total, alike, is_some, named_quad, as_sent, same_round, sound_vertex, our_quad, sound_quad}
use Rattle.foundry_rule.proofs.Firsts.{none_passes, both_ways, alike_turned}
use Rattle.foundry_rule.proofs.Known.{known, own_facts}
use Rattle.foundry_rule.proofs.Ours.{AllKnown, ours_by_table}
use Rattle.foundry_rule.proofs.QuadKeys.{OurSent, quad_keys}
use Rattle.foundry_rule.proofs.Rounds.{AllBelow, quad_below_lem}
use Rattle.repeats.specs.Fresh.{fresh, seen}
use Rattle.foundry_quads.specs.Steps.{QuadsInside, quad_fits, key_at, quad_spot_sound}
use Rattle.foundry.proofs.Agree.{leading_agree, some_agree, and_agree}
use Rattle.foundry.proofs.SoundVertices.{sound_parts}

module _ (n : Size) (s : List ℕ) (cut : Cut) (words : List ℕ) (offsets : List Float) (quads : List ℕ) where
  abbrev our_words : List ℕ
  our_words = mesh_words loops_of n s cut

  abbrev our_quads : List ℕ
  our_quads = mesh_quads loops_of n s cut

  abbrev sent : ℕ → Quad
  sent q = named_quad as_sent quads q

  module _ (sound : HoldsTo (sound_vertex our_words our_quads words offsets quads) (vertex_total words)) (below : QuadsBelow (vertex_total words) quads) where
    is_known : (v : ℕ) → v < vertex_total words → known n s cut our_quads words offsets quads v ≡ true
    is_known v l = (sound_parts n s cut our_quads words offsets quads v (sound v l)).0

    -- what the code asks of a list with no vertex at fault
    pub all_inside : vertex_total words ≤ 66325500 → QuadsInside n words quads
    all_inside few = record {
      cubes = λ v l. (own_facts n s cut our_quads words offsets quads v (is_known v l)).cube_lt;
      below = below;
      few = few;
    }

    -- no two vertices are alike
    not_earlier : (u v : ℕ) → u < v → v < vertex_total words → alike words v words u ≡ true → ⊥
    not_earlier u v h l e = both_ways e (none_passes (alike words v words) v (sound_parts n s cut our_quads words offsets quads v (sound v l)).1 u h)

    distinct : (u v : ℕ) → u < vertex_total words → v < vertex_total words → alike words u words v ≡ true → u ≡ v
    distinct u v hu hv e = go (lt_or_ge u v)
      where
        second : v ≤ u → (v ≡ u) ⊎ (v < u) → u ≡ v
        second g (inl q) = sym q
        second g (inr l) = absurd (not_earlier v u l hu e)

        go : (u < v) ⊎ (v ≤ u) → u ≡ v
        go (inl l) = absurd (not_earlier u v l hv (alike_turned words u words v e))
        go (inr g) = second g (eq-or-lt_of_le g)

    all_below : (q : ℕ) → q < quad_total quads → AllBelow (vertex_total words) (sent q)
    all_below q l = quad_below_lem (vertex_total words) quads q (below q l)

    all_known : (q : ℕ) → q < quad_total quads → AllKnown n s cut words offsets quads (sent q)
    all_known q l = let b = all_below q l in (is_known _ b.at0, is_known _ b.at1, is_known _ b.at2, is_known _ b.at3)

    fits_ours : (q : ℕ) → q < quad_total quads → quad_fits n s cut words quads q ≡ our_quad our_words our_quads words offsets quads q
    fits_ours q l = sym (ours_by_table n s cut words offsets quads q (all_known q l))

    our_sent : (q : ℕ) → q < quad_total quads → our_quad our_words our_quads words offsets quads q ≡ true → OurSent n s cut words offsets quads (vertex_total words) distinct q
    our_sent q l e = record { all_below = all_below q l; all_known = all_known q l; is_ours_lem = e }

    -- an earlier quad has the key exactly if it is the same round
    again_by_key : (q : ℕ) → q < quad_total quads → our_quad our_words our_quads words offsets quads q ≡ true → HoldsTo (quad_spot_sound n s cut words quads) q
        → seen (key_at n words quads) (key_at n words quads q) q ≡ is_some (λ (p : ℕ). same_round (sent q) (sent p)) q
    again_by_key q l e h =
        some_agree (λ (p : ℕ). eqb (key_at n words quads q) (key_at n words quads p)) (λ (p : ℕ). same_round (sent q) (sent p)) q
        (λ p k. let i : p < quad_total quads = omega (arith, k, l) in
        quad_keys n s cut words offsets quads (vertex_total words) distinct q p (our_sent q l e) (our_sent p i (sym (fits_ours p i) ∙ (and_both _ _ (h p k)).0)))

    agree : (q : ℕ) → q < quad_total quads → HoldsTo (quad_spot_sound n s cut words quads) q
        → quad_spot_sound n s cut words quads q ≡ sound_quad our_words our_quads words offsets quads q
    unfolding sound_quad
    agree q l h =
        and_agree (quad_fits n s cut words quads q) (fresh (key_at n words quads) q) (our_quad our_words our_quads words offsets quads q)
        (not (is_some (λ (p : ℕ). same_round (sent q) (sent p)) q)) (fits_ours q l) (λ e. ap not (again_by_key q l e h))

    pub quads_found : leading (quad_spot_sound n s cut words quads) (quad_total quads) ≡ leading (sound_quad our_words our_quads words offsets quads) (quad_total quads)
    quads_found = leading_agree (quad_spot_sound n s cut words quads) (sound_quad our_words our_quads words offsets quads) (quad_total quads) agree
