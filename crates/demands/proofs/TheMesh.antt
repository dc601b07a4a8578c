-- Demand 2, from the very promise of `mesh`: an answer that is no refusal has the counts of the mesh, and the buffers hold its vertices, offsets and
-- quads at their front and what they held behind it.
use Prim.Native.Nat.{ℕ, ◌+◌, ◌*◌, ◌<◌}
use mathlib.Core.Path.{◌≡◌, refl, ap, ◌∙◌, subst}
use mathlib.Core.List.{List, Memᴰ}
use native.Mathlib.Omega.{arith}
use lib.Ieee.{nan}
use lib.ListN.{length, get_or, take}
use Rattle.laws.specs.Below.{over}
use Rattle.laws.proofs.Over.{over_front, over_take}
use Rattle.block.specs.declared.Cut.{Cut}
use Rattle.block.specs.declared.Size.{Size}
use Rattle.block.specs.declared.Checked.{Checked}
use Rattle.block.specs.declared.Checked.TheVariants.{Passes}
use Rattle.block.specs.Numbering.{cube_count}
use Rattle.block.specs.Rows.{axis_row}
use Rattle.block.specs.Size.{size_of, Limits}
use Rattle.block.proofs.Order.{order_first, accepted_exactly, written_passed}
use Rattle.block.proofs.Sizes.{axes_within}
use Rattle.cube_rule.specs.Decider.{joined, loops_of}
use Rattle.cube_rule.proofs.Doubtful.{divisor_some, noisy_saddle, doubtful_saddle}
use Rattle.cube_rule.proofs.Laws.{cube_laws, cube_ruled}
use Rattle.cell.specs.Answer.{word_of}
use Rattle.mesh_rule.specs.Buffers.{mesh_words, mesh_offsets, mesh_quads}
use Rattle.mesh_rule.specs.Grid.{corners_of}
use Rattle.mesh_rule.specs.Mesh.{quad, flat, cube_loops, vertices, vertex_of, quads}
use Rattle.mesh_rule.specs.Orientation.{QuadOf}
use Rattle.mesh_rule.proofs.Counts.{most_vertices, most_quads}
use Rattle.mesh_rule.proofs.Offsets.{offsets_in_unit, mesh_offsets_length}
use Rattle.mesh_rule.proofs.Orientation.{each_quad}
use Rattle.mesh_rule.proofs.Quads.{flat_length, quad_count_lem}
use Rattle.mesh_rule.proofs.Numbers.{vertex_is_loop}
use Rattle.mesh_rule.proofs.Words.{mesh_words_length, words_at_lem}
use Rattle.mesh.specs.declared.Totals.{Totals}
use Rattle.mesh.specs.Answer.{counts_of, mesh_verdict}
use Rattle.demands.specs.Answers.{MeshCall}
use Rattle.demands.specs.Given.{MeshGiven}

-- ---- an answer that is no refusal

module _ {nx ny nz : ℕ} {s : List ℕ} {cut : Cut} (a : MeshCall nx ny nz s cut) where
  abbrev size : Size
  size = size_of nx ny nz

  abbrev verdict : Checked
  verdict = mesh_verdict nx ny nz s cut (length a.words) (length a.offsets) (length a.quads)

  both : (verdict ≡ Passes) × (a.counts ≡ counts_of size s cut)
  both = (accepted_exactly verdict (counts_of size s cut) _ a.promise.answer a.counts).0 a.accepts

  pub vertices_are : a.counts.vertices ≡ length (vertices loops_of size s cut)
  vertices_are = ap (λ (x : Totals). x.vertices) both.1

  pub quads_are : a.counts.quads ≡ length (quads loops_of size s cut)
  quads_are = ap (λ (x : Totals). x.quads) both.1

  pub limits : Limits size
  limits = axes_within nx ny nz (order_first (axis_row nx ny nz) _ both.0)

  quads_in : a.quads_after ≡ over (mesh_quads loops_of size s cut) a.quads
  quads_in = a.promise.quads ∙ written_passed verdict (mesh_quads loops_of size s cut) a.quads both.0

  pub flat_long : length (mesh_quads loops_of size s cut) ≡ 4 * a.counts.quads
  unfolding mesh_quads
  flat_long = flat_length (quads loops_of size s cut) ∙ omega (arith, quads_are)

  offsets_in : a.offsets_after ≡ over (mesh_offsets loops_of size s cut) a.offsets
  offsets_in = a.promise.offsets ∙ written_passed verdict (mesh_offsets loops_of size s cut) a.offsets both.0

  offsets_long : length (mesh_offsets loops_of size s cut) ≡ 3 * a.counts.vertices
  offsets_long = mesh_offsets_length size s cut ∙ omega (arith, vertices_are)

  words_in_lem : a.words_after ≡ over (mesh_words loops_of size s cut) a.words
  words_in_lem = a.promise.words ∙ written_passed verdict (mesh_words loops_of size s cut) a.words both.0

  words_long : length (mesh_words loops_of size s cut) ≡ 2 * a.counts.vertices
  words_long = mesh_words_length size s cut ∙ omega (arith, vertices_are)

  -- the fronts of the three buffers are the mesh
  pub words_front : take (2 * a.counts.vertices) a.words_after ≡ mesh_words loops_of size s cut
  words_front = rw words_in_lem (over_take (mesh_words loops_of size s cut) a.words (2 * a.counts.vertices) words_long)

  pub offsets_front : take (3 * a.counts.vertices) a.offsets_after ≡ mesh_offsets loops_of size s cut
  offsets_front = rw offsets_in (over_take (mesh_offsets loops_of size s cut) a.offsets (3 * a.counts.vertices) offsets_long)

  pub quads_front : take (4 * a.counts.quads) a.quads_after ≡ mesh_quads loops_of size s cut
  quads_front = rw quads_in (over_take (mesh_quads loops_of size s cut) a.quads (4 * a.counts.quads) flat_long)

  -- what stands in a place of the words, the offsets and the quads
  pub word_at : (k : ℕ) → k < 2 * a.counts.vertices → get_or a.words_after k 0 ≡ get_or (mesh_words loops_of size s cut) k 0
  word_at k h = rw words_in_lem (over_front (mesh_words loops_of size s cut) a.words k 0 (rw words_long h))

  pub offset_at : (k : ℕ) → k < 3 * a.counts.vertices → get_or a.offsets_after k nan ≡ get_or (mesh_offsets loops_of size s cut) k nan
  offset_at k h = rw offsets_in (over_front (mesh_offsets loops_of size s cut) a.offsets k nan (rw offsets_long h))

  pub number_at_lem : (k : ℕ) → k < 4 * a.counts.quads → get_or a.quads_after k 0 ≡ get_or (flat (quads loops_of size s cut)) k 0
  unfolding mesh_quads
  number_at_lem k h = rw quads_in (over_front (mesh_quads loops_of size s cut) a.quads k 0 (rw flat_long h))

  -- a vertex, and what the buffer holds of it
  vertex_given : (v : ℕ) → v < a.counts.vertices
      → (get_or a.words_after (2 * v) 0 ≡ (vertex_of loops_of size s cut v).cube)
      × (get_or a.words_after (2 * v + 1) 0 ≡ word_of (corners_of size s (vertex_of loops_of size s cut v).cube) (vertex_of loops_of size s cut v).mask)
      × ((vertex_of loops_of size s cut v).cube < cube_count size)
      × Memᴰ (vertex_of loops_of size s cut v).mask (cube_loops loops_of size s cut (vertex_of loops_of size s cut v).cube)
  vertex_given v h =
      let l : v < length (vertices loops_of size s cut) = omega (arith, h, vertices_are) in
      let words = words_at_lem loops_of size s cut v l in
      let is = vertex_is_loop loops_of size s cut v l in
      (word_at (2 * v) (omega arith) ∙ words.0, word_at (2 * v + 1) (omega arith) ∙ words.1, is.0, is.1)

  -- the four numbers of a quad, as the buffer holds them
  quad_is : (q : ℕ) → q < a.counts.quads
      → quad (get_or (flat (quads loops_of size s cut)) (4 * q) 0) (get_or (flat (quads loops_of size s cut)) (4 * q + 1) 0) (get_or (flat (quads loops_of size s cut)) (4 * q + 2) 0) (get_or (flat (quads loops_of size s cut)) (4 * q + 3) 0)
      ≡ quad (get_or a.quads_after (4 * q) 0) (get_or a.quads_after (4 * q + 1) 0) (get_or a.quads_after (4 * q + 2) 0) (get_or a.quads_after (4 * q + 3) 0)
  quad_is q h = rw (number_at_lem (4 * q) (omega arith), number_at_lem (4 * q + 1) (omega arith), number_at_lem (4 * q + 2) (omega arith), number_at_lem (4 * q + 3) (omega arith)) refl

  pub mesh_given : MeshGiven a
  mesh_given = record {
    words = words_in_lem;
    vertex_count_lem = vertices_are;
    each_vertex = vertex_given;
    loops = λ c. cube_ruled joined cut (corners_of size s c);
    noisy_saddles = λ c f u w v x four along across saddle. (divisor_some cut _ _ _ _ four, noisy_saddle cut _ _ _ _ four u w v x along across saddle);
    saddles = λ none c f u w v x four. doubtful_saddle cut _ _ _ _ four none u w v x;
    offsets = offsets_in;
    in_unit = λ grey k h. rw (offset_at k h) (offsets_in_unit size s cut grey k (rw offsets_long h));
    quads = quads_in;
    quad_count_lem = quads_are ∙ quad_count_lem loops_of size s cut;
    each_quad = λ q h. subst (QuadOf loops_of size s cut) (quad_is q h) (each_quad size s cut q (omega (arith, h, quads_are)));
    most = (
      omega (arith, vertices_are, most_vertices loops_of size s cut (cube_laws joined) limits),
      omega (arith, quads_are, most_quads loops_of size s cut limits),
    );
  }
