-- From what `mesh` answers of a block of at most 8 samples an axis to what the program prints: the whole mesh, since no row refuses such a block.
-- Assumes nothing.
use Prim.Native.Nat.{ℕ, ◌*◌, ◌≤◌}
use mathlib.Core.Path.{◌≡◌, sym, ap, subst, ◌∙◌}
use mathlib.Core.List.{List}
use native.Mathlib.Omega.{arith}
use lib.Ieee.{Float}
use lib.ListN.{length, take}
use Rattle.laws.proofs.Over.{over_take}
use Rattle.block.specs.declared.Cut.{Cut}
use Rattle.block.specs.declared.Size.{Size}
use Rattle.block.specs.declared.Refusal.{Refusal}
use Rattle.block.specs.declared.Checked.{Checked}
use Rattle.block.specs.declared.Checked.TheVariants.{Passes}
use Rattle.block.specs.Answer.{decided, written}
use Rattle.block.specs.Rows.{axis_row, count_row, threshold_row}
use Rattle.block.specs.Size.{size_of}
use Rattle.block.proofs.Order.{passes_refuses, order_passes, refused_says, accepted_says}
use Rattle.block.proofs.Rows.{count_passes}
use Rattle.cube_rule.specs.Decider.{loops_of}
use Rattle.mesh_rule.specs.Buffers.{mesh_words, mesh_offsets, mesh_quads}
use Rattle.block.specs.Grey.{cut_of, SixteenBit}
use Rattle.mesh_rule.proofs.Offsets.{offset_numbers, mesh_offsets_length}
use Rattle.mesh_rule.proofs.Words.{mesh_words_length}
use Rattle.mesh_rule.proofs.Small.{few_vertices, few_quads}
use Rattle.mesh.specs.declared.Totals.{Totals}
use Rattle.mesh.specs.declared.Counted.{Counted}
use Rattle.mesh.specs.declared.Counted.TheVariants as counted
use Rattle.mesh.specs.Answer.{vertex_count, quad_count, counts_of, mesh_verdict, Meshed}
use Rattle.mesh.proofs.BufferRows.{roomy}
use Rattle.mesh.proofs.Tallies.{quads_all_length}
use Rattle.lines.specs.Output.{mesh_text, block_text}
use Rattle.lines.specs.Steps.{Numbers, Readable}
use Rattle.reading.proofs.Axes.{AtMostEight, at_most_eight}

-- ---- the mesh

written_front : {A : Type 0} (k : Checked) (xs b c : List A) (m : ℕ) → k ≡ Passes → c ≡ written k xs b → length xs ≡ m → take m c ≡ xs
unfolding decided
written_front k xs b c m e d l = rw (d, e) (over_take xs b m l)

-- what is at the front of the buffers of an accepted block
pub record Front (n : Size) (s : List ℕ) (cut : Cut) (w : List ℕ) (o : List Float) (q : List ℕ) (c : Totals) : Type 0 where
  pub few : (c.vertices ≤ 1372) × (c.quads ≤ 756)
  pub numbers : Numbers (take (3 * c.vertices) o)
  pub text : mesh_text c.vertices c.quads (take (2 * c.vertices) w) (take (3 * c.vertices) o) (take (4 * c.quads) q) ≡ block_text n s cut

module _ (nx ny nz t : ℕ) (s w : List ℕ) (o : List Float) (q : List ℕ) (r : Counted) (w' : List ℕ) (o' : List Float) (q' : List ℕ)
    (read : Readable nx ny nz t) (count : length s ≡ nx * (ny * nz)) (lw : length w ≡ 2744) (lo : length o ≡ 4116) (lq : length q ≡ 3024)
    (m : Meshed nx ny nz s (cut_of t 0) w o q r w' o' q') where
  abbrev size : Size
  size = size_of nx ny nz

  abbrev cut : Cut
  cut = cut_of t 0

  abbrev verdict : Checked
  verdict = mesh_verdict nx ny nz s cut (length w) (length o) (length q)

  eight : AtMostEight nx ny nz
  eight = at_most_eight nx ny nz read.small

  few_v : vertex_count size s cut ≤ 1372
  few_v = few_vertices size s cut eight.x eight.y eight.z

  few_q : quad_count size s cut ≤ 756
  few_q = few_quads size s cut eight.x eight.y eight.z

  passes : verdict ≡ Passes
  passes =
      order_passes (axis_row nx ny nz) _ read.axes
      ∙ order_passes (count_row size (length s)) _ (count_passes size (length s) count)
      ∙ order_passes (threshold_row cut) _ read.cut
      ∙ roomy (vertex_count size s cut) (quad_count size s cut) (length w) (length o) (length q) (omega (arith, few_v, lw)) (omega (arith, few_v, lo)) (omega (arith, few_q, lq))

  -- so the answer is no refusal
  pub no_refusal : (x : Refusal) → r ≡ counted.Refused x → ⊥
  no_refusal x e = passes_refuses (sym passes ∙ refused_says verdict (counts_of size s cut) x (rw e at m.answer))

  -- accepted
  module _ (c : Totals) (e : r ≡ counted.Counts c) where
    both : (verdict ≡ Passes) × (c ≡ counts_of size s cut)
    both = accepted_says verdict (counts_of size s cut) c (rw e at m.answer)

    vertices_are : c.vertices ≡ vertex_count size s cut
    vertices_are = ap (λ (x : Totals). x.vertices) both.1

    quads_are : c.quads ≡ quad_count size s cut
    quads_are = ap (λ (x : Totals). x.quads) both.1

    words_are : take (2 * c.vertices) w' ≡ mesh_words loops_of size s cut
    words_are = written_front verdict (mesh_words loops_of size s cut) w w' (2 * c.vertices) both.0 m.words (mesh_words_length size s cut ∙ omega (arith, vertices_are))

    offsets_are : take (3 * c.vertices) o' ≡ mesh_offsets loops_of size s cut
    offsets_are = written_front verdict (mesh_offsets loops_of size s cut) o o' (3 * c.vertices) both.0 m.offsets (mesh_offsets_length size s cut ∙ omega (arith, vertices_are))

    quad_numbers_are : take (4 * c.quads) q' ≡ mesh_quads loops_of size s cut
    quad_numbers_are = written_front verdict (mesh_quads loops_of size s cut) q q' (4 * c.quads) both.0 m.quads (quads_all_length size s cut ∙ omega (arith, quads_are))

    accepted_text : mesh_text c.vertices c.quads (take (2 * c.vertices) w') (take (3 * c.vertices) o') (take (4 * c.quads) q')
        ≡ block_text size s cut
    accepted_text = rw (words_are, offsets_are, quad_numbers_are, vertices_are, quads_are)

    pub accepted_front : SixteenBit s → Front size s cut w' o' q' c
    accepted_front grey = record {
      few = (omega (arith, vertices_are, few_v), omega (arith, quads_are, few_q));
      numbers = subst Numbers (sym offsets_are) (offset_numbers size s cut grey);
      text = accepted_text;
    }
