-- The first vertex at fault, as the code finds it by cubes, is the first at fault beside our list.
-- Assumes nothing.
use Prim.Native.Nat.{ℕ, ◌<◌}
use mathlib.Core.Path.{◌≡◌, refl, ap, sym, ◌∙◌}
use mathlib.Core.Bool.{Bool, true, false, not, ◌&&◌}
use mathlib.Core.List.{List}
use lib.Dec.{eqb}
use lib.Ieee.{Float}
use borrow.Author.Tests.{ltb-true, not-true}
use Rattle.laws.specs.Leading.{leading}
use Rattle.laws.proofs.Leading.{HoldsTo}
use Rattle.laws.proofs.Tests.{and_both}
use Rattle.block.specs.declared.Cut.{Cut}
use Rattle.block.specs.declared.Size.{Size}
use Rattle.cube_rule.specs.Decider.{loops_of}
use Rattle.mesh_rule.specs.Buffers.{mesh_words}
use Rattle.vertex_lists.specs.Rows.{offset_inside}
use Rattle.foundry_rule.specs.Judged.{vertex_total, alike, is_some, sound_vertex}
use Rattle.foundry_rule.specs.Spots.{vertex_key}
use Rattle.foundry_rule.proofs.Known.{known}
use Rattle.foundry_rule.proofs.VertexKeys.{known_by_place, vertex_keys}
use Rattle.repeats.specs.Fresh.{fresh, seen}
use Rattle.foundry_vertices.specs.Steps.{placed, spot_sound}
use Rattle.foundry.proofs.Agree.{leading_agree, some_agree}

module _ (n : Size) (s : List ℕ) (cut : Cut) (our_quads words : List ℕ) (offsets : List Float) (quads : List ℕ) where
  abbrev ours : List ℕ
  ours = mesh_words loops_of n s cut

  abbrev key : ℕ → ℕ
  key = vertex_key words n s cut

  -- what is sound beside our list is known and new, and has its offsets from 0 to 1
  pub sound_parts : (v : ℕ) → sound_vertex ours our_quads words offsets quads v ≡ true
      → (known n s cut our_quads words offsets quads v ≡ true) × (is_some (alike words v words) v ≡ false) × (offset_inside offsets v ≡ true)
  unfolding sound_vertex
  sound_parts v e =
      let p = and_both _ _ e in
      let q = and_both _ _ p.0 in
      (q.0, not-true _ q.1, p.1)

  -- an earlier vertex has the key exactly if it has the cube and the word
  again_by_key : (v : ℕ) → placed n s cut words v ≡ true → ((u : ℕ) → u < v → placed n s cut words u ≡ true) → seen key (key v) v ≡ is_some (alike words v words) v
  again_by_key v p h =
      some_agree (λ (u : ℕ). eqb (key v) (key u)) (alike words v words) v (λ u l. vertex_keys n s cut words u v (ltb-true _ 4 (h u l)) (ltb-true _ 4 p))

  swapped : (a b c d : Bool) → (a ≡ true → b ≡ d) → (a && c && b) ≡ (a && d && c)
  swapped true b true true h = h refl
  swapped true b true false h = h refl
  swapped true b false true h = refl
  swapped true b false false h = refl
  swapped false b c d h = refl

  agree : (v : ℕ) → v < vertex_total words → HoldsTo (spot_sound n s cut words offsets) v
      → spot_sound n s cut words offsets v ≡ sound_vertex ours our_quads words offsets quads v
  unfolding sound_vertex
  agree v l h =
      swapped (placed n s cut words v) (fresh key v) (offset_inside offsets v) (not (is_some (alike words v words) v))
      (λ p. ap not (again_by_key v p (λ u k. (and_both _ _ (and_both _ _ (h u k)).0).0)))
      ∙ ap (λ (b : Bool). b && not (is_some (alike words v words) v) && offset_inside offsets v) (sym (known_by_place n s cut our_quads words offsets quads v))

  pub vertices_found : leading (spot_sound n s cut words offsets) (vertex_total words) ≡ leading (sound_vertex ours our_quads words offsets quads) (vertex_total words)
  vertices_found = leading_agree (spot_sound n s cut words offsets) (sound_vertex ours our_quads words offsets quads) (vertex_total words) agree
