-- What is found of a mesh, from where the code's two searches end and from the counts.
-- Assumes nothing.
use Prim.Native.Nat.{ℕ, ◌≤◌, ◌<◌}
use mathlib.Core.Path.{◌≡◌, ap, sym, ◌∙◌}
use mathlib.Core.Bool.{Bool, true, false, ◌&&◌}
use mathlib.Core.List.{List}
use native.Mathlib.Omega.{arith}
use lib.Dec.{eqb}
use lib.Ieee.{Float}
use borrow.Author.Tests.{eqb-true, eq-eqb, ne_eqb}
use Rattle.laws.specs.Leading.{leading}
use Rattle.laws.proofs.Leading.{HoldsTo, leading_holds}
use Rattle.laws.proofs.Tests.{and_both}
use Rattle.block.specs.declared.Cut.{Cut}
use Rattle.block.specs.declared.Size.{Size}
use Rattle.cube_rule.specs.Decider.{loops_of}
use Rattle.mesh_rule.specs.Buffers.{mesh_words, mesh_quads}
use Rattle.mesh.specs.declared.Totals.{Totals}
use Rattle.mesh.specs.Answer.{vertex_count, quad_count, counts_of}
use Rattle.foundry_rule.specs.Distinct.{QuadsBelow}
use Rattle.foundry_rule.specs.Judged.{vertex_total, quad_total, sound_vertex, sound_quad, same, vertex_at_fault, quad_at_fault, some_missing, compared}
use Rattle.foundry_rule.proofs.Firsts.{both_ways}
use Rattle.foundry_rule.proofs.Known.{total_of_mesh}
use Rattle.foundry_rule.proofs.Ours.{our_total}
use Rattle.foundry_rule.proofs.Outcomes.{find_vertex, find_quad, find_same, find_missing}
use Rattle.foundry_vertices.specs.Steps.{spot_sound}
use Rattle.foundry_quads.specs.Steps.{quad_spot_sound}
use Rattle.foundry.specs.Answer.{compared_with}
use Rattle.foundry.proofs.SoundVertices.{vertices_found}
use Rattle.foundry.proofs.SoundQuads.{quads_found}

module _ (n : Size) (s : List ℕ) (cut : Cut) (words : List ℕ) (offsets : List Float) (quads : List ℕ) where
  abbrev our_words : List ℕ
  our_words = mesh_words loops_of n s cut

  abbrev our_quads : List ℕ
  our_quads = mesh_quads loops_of n s cut

  abbrev vertex_sound : ℕ → Bool
  vertex_sound = sound_vertex our_words our_quads words offsets quads

  abbrev quad_sound : ℕ → Bool
  quad_sound = sound_quad our_words our_quads words offsets quads

  module _ (v : ℕ) (e : v ≡ leading (spot_sound n s cut words offsets) (vertex_total words)) where
    first_vertex : v ≡ leading vertex_sound (vertex_total words)
    first_vertex = e ∙ vertices_found n s cut our_quads words offsets quads

    pub vertex_named : v < vertex_total words → vertex_at_fault v ≡ compared_with n s cut words offsets quads
    unfolding compared
    vertex_named h =
        ap vertex_at_fault first_vertex
        ∙ sym (find_vertex (vertex_total words) (quad_total quads) (vertex_total our_words) (quad_total our_quads) (leading vertex_sound (vertex_total words)) (leading quad_sound (quad_total quads)) (rw first_vertex at h))

    pub all_sound : vertex_total words ≤ v → HoldsTo vertex_sound (vertex_total words)
    all_sound g u l = leading_holds vertex_sound (vertex_total words) u (omega (arith, first_vertex, g, l))

    module _ (below : QuadsBelow (vertex_total words) quads) (g : vertex_total words ≤ v) (q : ℕ) (f : q ≡ leading (quad_spot_sound n s cut words quads) (quad_total quads)) where
      first_quad : q ≡ leading quad_sound (quad_total quads)
      first_quad = f ∙ quads_found n s cut words offsets quads (all_sound g) below

      pub quad_named : q < quad_total quads → quad_at_fault q ≡ compared_with n s cut words offsets quads
      unfolding compared
      quad_named h =
          ap quad_at_fault first_quad
          ∙ sym (find_quad (vertex_total words) (quad_total quads) (vertex_total our_words) (quad_total our_quads) (leading vertex_sound (vertex_total words)) (leading quad_sound (quad_total quads)) (rw first_vertex at g) (rw first_quad at h))

      module _ (k : quad_total quads ≤ q) (r : Bool) (c : r ≡ (eqb (vertex_total words) (vertex_count n s cut) && eqb (quad_total quads) (quad_count n s cut))) where
        pub same_named : r ≡ true → same ≡ compared_with n s cut words offsets quads
        unfolding compared
        same_named t =
            let b = and_both (eqb (vertex_total words) (vertex_count n s cut)) (eqb (quad_total quads) (quad_count n s cut)) (sym c ∙ t) in
            sym (find_same (vertex_total words) (quad_total quads) (vertex_total our_words) (quad_total our_quads) (leading vertex_sound (vertex_total words)) (leading quad_sound (quad_total quads)) (rw first_vertex at g) (rw first_quad at k)
            (eqb-true (vertex_total words) (vertex_count n s cut) b.0 ∙ sym (total_of_mesh n s cut)) (eqb-true (quad_total quads) (quad_count n s cut) b.1 ∙ sym (our_total n s cut)))

        pub missing_named : r ≡ false → some_missing ≡ compared_with n s cut words offsets quads
        unfolding compared
        missing_named t =
            sym (find_missing (vertex_total words) (quad_total quads) (vertex_total our_words) (quad_total our_quads) (leading vertex_sound (vertex_total words)) (leading quad_sound (quad_total quads)) (rw first_vertex at g) (rw first_quad at k)
            (λ a b. both_ways (both (eq-eqb (vertex_total words) (vertex_count n s cut) (a ∙ total_of_mesh n s cut)) (eq-eqb (quad_total quads) (quad_count n s cut) (b ∙ our_total n s cut))) (sym c ∙ t)))
          where
            both : {x y : Bool} → x ≡ true → y ≡ true → (x && y) ≡ true
            both p q = rw (p, q)

-- ---- as many of both

module _ (n : Size) (s : List ℕ) (cut : Cut) (vertices quads : ℕ) (ours : Totals) (e : ours ≡ counts_of n s cut) where
  pub not_as_many : (vertices ≡ ours.vertices → ⊥) → false ≡ (eqb vertices (vertex_count n s cut) && eqb quads (quad_count n s cut))
  not_as_many d = rw (ne_eqb vertices (vertex_count n s cut) (λ q. d (q ∙ sym (ap (λ (t : Totals). t.vertices) e))))

  pub as_many : vertices ≡ ours.vertices → eqb quads ours.quads ≡ (eqb vertices (vertex_count n s cut) && eqb quads (quad_count n s cut))
  as_many q = rw (eq-eqb vertices (vertex_count n s cut) (q ∙ ap (λ (t : Totals). t.vertices) e)) (ap (λ (t : Totals). eqb quads t.quads) e)
