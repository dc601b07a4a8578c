-- A mesh from the foundry, from the very promise of `judge` (document 02, Twelve): what it refuses and accepts, which numbers it gives, when it says yes, what a no
-- names, and that what `mesh` wrote passes, in any order.
use Prim.Native.Nat.{ℕ, ◌+◌, ◌*◌, ◌/◌, ◌%◌, ◌≤◌, ◌<◌}
use mathlib.Core.Path.{◌≡◌, refl, ap, sym, subst, ◌∙◌}
use mathlib.Core.Bool.{true}
use mathlib.Core.Logic.{◌↔◌, ◌⊎◌, inl, inr}
use mathlib.Core.List.{List, [], ◌∷◌, ◌++◌}
use native.Mathlib.Nat.{add-zero}
use native.Mathlib.Omega.{arith}
use lib.ListN.{length, get_or, take}
use lib.Ieee.{Float, nan}
use Rattle.laws.specs.Filled.{filled}
use Rattle.block.specs.declared.Cut.{Cut}
use Rattle.block.specs.declared.Refusal.{Refusal}
use Rattle.block.specs.declared.Size.{Size}
use Rattle.block.specs.declared.Checked.TheVariants.{Passes, Refuses}
use Rattle.block.specs.Answer.{accepted, refused, in_order, First, judged}
use Rattle.block.specs.Block.{block_rows}
use Rattle.block.specs.Grey.{SixteenBit}
use Rattle.block.specs.Rows.{axis_row, count_row, threshold_row}
use Rattle.block.specs.Size.{size_of}
use Rattle.block.proofs.Order.{order_passes, order_first, order_rest, order_last, accepted_exactly, judged_passed, first_has}
use Rattle.block.proofs.Searches.{search_passes}
use Rattle.cube_rule.specs.Decider.{joined, loops_of}
use Rattle.cube_rule.proofs.Laws.{cube_laws}
use Rattle.lists.specs.Rows.{length_row, quad_below, number_row}
use Rattle.lists.proofs.Rows.{length_exactly}
use Rattle.mesh_rule.specs.Buffers.{mesh_words, mesh_offsets, mesh_quads}
use Rattle.mesh_rule.specs.Mesh.{vertices}
use Rattle.mesh.specs.Answer.{counts_of, buffer_rows}
use Rattle.mesh_rule.proofs.Counts.{most_vertices}
use Rattle.mesh_rule.proofs.Offsets.{mesh_offsets_length}
use Rattle.mesh_rule.proofs.Words.{mesh_words_length}
use Rattle.vertex_lists.specs.Rows.{shaped, shape_row, offset_inside}
use Rattle.vertex_lists.proofs.Rows.{shape_passes}
use Rattle.foundry_rule.specs.Distinct.{QuadsBelow}
use Rattle.foundry_rule.specs.Faults.{VertexFault, QuadFault, Missing, FirstAtFault, NoneAtFault}
use Rattle.foundry_rule.specs.Judged.{vertex_total, quad_total, Comparison, same, vertex_at_fault, quad_at_fault, some_missing, compared}
use Rattle.foundry_rule.specs.Matches.{Matches}
use Rattle.foundry_rule.specs.Shuffled.{Shuffled}
use Rattle.foundry_rule.proofs.Known.{total_of_mesh}
use Rattle.foundry_rule.proofs.Exactly.{yes_exactly}
use Rattle.foundry_rule.proofs.Names.{NoNames, no_names}
use Rattle.foundry_rule.proofs.OurQuads.{ours_distinct, ours_below}
use Rattle.foundry_rule.proofs.Passes.{shuffled_below, ours_passes, itself_shuffled}
use Rattle.foundry.specs.declared.Judgement.{Judgement}
use Rattle.foundry.specs.declared.Judgement.TheVariants as judgement
use Rattle.foundry.specs.Answer.{said_judgement, sent_rows, judge_verdict, compared_with, MeshJudged}
use Rattle.foundry.proofs.Fixed.{judgement_of, said_back, judge_fixed}
use Rattle.foundry.proofs.Rows.{sent_below}
use Rattle.parsniprow_c.specs.Told.{tell_over, JudgeTold}
use Rattle.told.specs.Numbers.{told_judgement}
use Rattle.block.specs.Grey.{cut_of}
use Rattle.demands.specs.Answers.{MeshCall, quads_written}
use Rattle.demands.specs.Foundry.{SentFrom}
use Rattle.demands.proofs.Files.{offsets_pass}
use Rattle.demands.proofs.Numbers.{axis_number_lem, count_number, threshold_number, length_number, search_number, unless_number}
use Rattle.demands.proofs.Refusals.{refuses_by}
use Rattle.demands.proofs.TheMesh.{vertices_are, limits, flat_long, words_front, offsets_front, quads_front, offset_at}

-- ---- there is an answer to every input

pub judge_allows : (nx ny nz : ℕ) (s : List ℕ) (cut : Cut) (words : List ℕ) (offsets : List Float) (quads : List ℕ) → (r : Judgement) × MeshJudged nx ny nz s cut words offsets quads r
judge_allows nx ny nz s cut words offsets quads =
    let a = judged (judge_verdict nx ny nz s cut words offsets quads) (compared_with (size_of nx ny nz) s cut words offsets quads) in (judgement_of a, said_back a)

pub judge_told_allows : (nx ny nz : ℕ) (s : List ℕ) (t noise : ℕ) (words : List ℕ) (offsets : List Float) (quads place : List ℕ)
    → (place' : List ℕ) × JudgeTold nx ny nz s t noise words offsets quads place place'
judge_told_allows nx ny nz s t noise words offsets quads place =
    let r = judge_allows nx ny nz s (cut_of t noise) words offsets quads in
    (tell_over (told_judgement (said_judgement r.0)) place, record { answer = r.0; answered = r.1; is_told = refl })

-- ---- which numbers are given

-- 1 to 3, 7, 14, 22
abbrev pub JudgeNumber : ℕ → Type 0
JudgeNumber n = ((1 ≤ n) × (n ≤ 3)) ⊎ ((n ≡ 7) ⊎ ((n ≡ 14) ⊎ (n ≡ 22)))

low : (x : Refusal) {n : ℕ} → x.number ≡ n → 1 ≤ n → n ≤ 3 → JudgeNumber x.number
low x e a b = inl (omega (arith, e, a), omega (arith, e, b))

pub judge_numbers : (nx ny nz : ℕ) (s : List ℕ) (cut : Cut) (words : List ℕ) (offsets : List Float) (quads : List ℕ) (x : Refusal)
    → judge_verdict nx ny nz s cut words offsets quads ≡ Refuses x → JudgeNumber x.number
judge_numbers nx ny nz s cut words offsets quads =
    first_has (λ (x : Refusal). JudgeNumber x.number) (axis_row nx ny nz ∷ block_rows (size_of nx ny nz) s cut ++ sent_rows words offsets quads) (
      λ x e. low x (axis_number_lem nx ny nz x e) (omega arith) (omega arith),
      (
        λ x e. low x (count_number (size_of nx ny nz) (length s) x e) (omega arith) (omega arith),
        (
          λ x e. low x (threshold_number cut x e) (omega arith) (omega arith),
          (
            λ x e. inr (inr (inr (unless_number (shaped (length words) (length offsets) (length words / 2)) 22 (length words) x e))),
            (
              λ x e. inr (inl (length_number quads x e)),
              (λ x e. inr (inr (inl (search_number 14 (quad_below (vertex_total words) quads) (length quads / 4) x e))), tt),
            ),
          ),
        ),
      ),
    )

-- ---- demand 1, and what is said where no row holds

module _ (nx ny nz : ℕ) (s : List ℕ) (cut : Cut) (words : List ℕ) (offsets : List Float) (quads : List ℕ) (r : Judgement) (promise : MeshJudged nx ny nz s cut words offsets quads r) where
  abbrev n : Size
  n = size_of nx ny nz

  abbrev our_words : List ℕ
  our_words = mesh_words loops_of n s cut

  abbrev our_quads : List ℕ
  our_quads = mesh_quads loops_of n s cut

  pub judge_refuses : (x : Refusal) → (said_judgement r ≡ refused x) ↔ First (axis_row nx ny nz ∷ block_rows (size_of nx ny nz) s cut ++ sent_rows words offsets quads) x
  judge_refuses = refuses_by _ _ _ promise

  pub judge_accepts : (c : Comparison) → (said_judgement r ≡ accepted c)
      ↔ ((judge_verdict nx ny nz s cut words offsets quads ≡ Passes) × (c ≡ compared_with (size_of nx ny nz) s cut words offsets quads))
  judge_accepts = accepted_exactly _ _ _ promise

  below : judge_verdict nx ny nz s cut words offsets quads ≡ Passes → QuadsBelow (vertex_total words) quads
  below p = sent_below n s cut words offsets quads (order_rest (axis_row nx ny nz) (block_rows n s cut ++ sent_rows words offsets quads) p)

  found : {A : Type 0} (c : Comparison) → (judge_verdict nx ny nz s cut words offsets quads ≡ Passes → (compared our_words our_quads words offsets quads ≡ c) ↔ A)
      → (said_judgement r ≡ accepted c) ↔ ((judge_verdict nx ny nz s cut words offsets quads ≡ Passes) × A)
  found c h = (
    λ e. let a = (judge_accepts c).0 e in (a.0, (h a.0).0 (sym a.1)),
    λ e. (judge_accepts c).1 (e.0, sym ((h e.0).1 e.1)),
  )

  -- yes exactly if no row holds and the mesh matches ours
  pub judge_yes : (said_judgement r ≡ accepted same) ↔ ((judge_verdict nx ny nz s cut words offsets quads ≡ Passes) × Matches our_words our_quads words offsets quads)
  judge_yes = found same (λ p. yes_exactly our_words our_quads words offsets quads (ours_distinct n s cut) (below p))

  names : judge_verdict nx ny nz s cut words offsets quads ≡ Passes → NoNames our_words our_quads words offsets quads
  names p = no_names our_words our_quads words offsets quads (ours_distinct n s cut) (below p)

  -- what a no names
  pub judge_vertex : (v : ℕ) → (said_judgement r ≡ accepted (vertex_at_fault v))
      ↔ ((judge_verdict nx ny nz s cut words offsets quads ≡ Passes) × FirstAtFault (VertexFault our_words words offsets) (vertex_total words) v)
  judge_vertex v = found (vertex_at_fault v) (λ p. (names p).vertex v)

  pub judge_quad : (q : ℕ) → (said_judgement r ≡ accepted (quad_at_fault q))
      ↔ ((judge_verdict nx ny nz s cut words offsets quads ≡ Passes)
      × (NoneAtFault (VertexFault our_words words offsets) (vertex_total words) × FirstAtFault (QuadFault our_words our_quads words offsets quads) (quad_total quads) q))
  judge_quad q = found (quad_at_fault q) (λ p. (names p).quad q)

  pub judge_missing : (said_judgement r ≡ accepted some_missing)
      ↔ ((judge_verdict nx ny nz s cut words offsets quads ≡ Passes)
      × (NoneAtFault (VertexFault our_words words offsets) (vertex_total words) × NoneAtFault (QuadFault our_words our_quads words offsets quads) (quad_total quads)
      × Missing our_words our_quads words offsets quads))
  judge_missing = found some_missing (λ p. (names p).missing)

-- ---- what `mesh` wrote

module _ {nx ny nz : ℕ} {s : List ℕ} {cut : Cut} (a : MeshCall nx ny nz s cut) (grey : SixteenBit s) (words : List ℕ) (offsets : List Float) (quads : List ℕ) (sent : SentFrom a words offsets quads) where
  abbrev size : Size
  size = size_of nx ny nz

  abbrev ours : List ℕ
  ours = mesh_words loops_of size s cut

  count_is : a.counts.vertices ≡ vertex_total ours
  count_is = vertices_are a ∙ sym (total_of_mesh size s cut)

  -- its rows pass
  blocked : in_order (axis_row nx ny nz ∷ block_rows size s cut ++ buffer_rows (counts_of size s cut) (length a.words) (length a.offsets) (length a.quads)) ≡ Passes
  blocked = ((accepted_exactly _ _ _ a.promise.answer a.counts).0 a.accepts).0

  after_axis : in_order (block_rows size s cut ++ buffer_rows (counts_of size s cut) (length a.words) (length a.offsets) (length a.quads)) ≡ Passes
  after_axis = order_rest (axis_row nx ny nz) _ blocked

  shuffle : Shuffled ours (mesh_quads loops_of size s cut) words quads
  shuffle =
      subst (λ (w : List ℕ). Shuffled w (mesh_quads loops_of size s cut) words quads) (words_front a)
      (subst (λ (q : List ℕ). Shuffled (take (2 * a.counts.vertices) a.words_after) q words quads) (quads_front a) sent.shuffled)

  sent_passes : judge_verdict nx ny nz s cut words offsets quads ≡ Passes
  sent_passes =
      order_passes (axis_row nx ny nz) _ (order_first (axis_row nx ny nz) _ blocked)
      ∙ order_passes (count_row size (length s)) _ (order_first (count_row size (length s)) _ after_axis)
      ∙ order_passes (threshold_row cut) _ (order_first (threshold_row cut) _ (order_rest (count_row size (length s)) _ after_axis))
      ∙ order_passes (shape_row (length words) (length offsets)) _ (shape_passes _ _ a.counts.vertices sent.words_long sent.offsets_long few)
      ∙ order_passes (length_row quads) _ ((length_exactly quads).1 (whole (length quads) a.counts.quads sent.quads_long))
      ∙ order_last (number_row (vertex_total words) quads)
      ∙ search_passes 14 (quad_below (vertex_total words) quads) (length quads / 4) (shuffled_below ours (mesh_quads loops_of size s cut) words quads (ours_below size s cut) shuffle)
    where
      few : a.counts.vertices ≤ 66325500
      few = rw (vertices_are a) (most_vertices loops_of size s cut (cube_laws joined) (limits a))

      whole : (l q : ℕ) → l ≡ 4 * q → l % 4 ≡ 0
      whole l q e = omega arith

  -- each vertex has the offsets that it was written with
  offsets_inside : (v : ℕ) → v < vertex_total words → offset_inside offsets v ≡ true
  offsets_inside v l = go (sent.shuffled.vertices.onto v l)
    where
      Source : Type 0
      Source = (u : ℕ) × (u < vertex_total (take (2 * a.counts.vertices) a.words_after)) × (sent.shuffled.vertex_at u ≡ v)

      go : Source → offset_inside offsets v ≡ true
      go (u, h, e) =
          let there : u < a.counts.vertices = rw (words_front a, ← count_is) at h in
          let at : (k : ℕ) → k < 3 → get_or offsets (3 * v + k) nan ≡ get_or (mesh_offsets loops_of size s cut) (3 * u + k) nan = λ k few.
          ap (λ (x : ℕ). get_or offsets (3 * x + k) nan) (sym e) ∙ sent.offsets_kept u k there few ∙ offset_at a (3 * u + k) (omega (arith, there, few)) in
          let first : get_or offsets (3 * v) nan ≡ get_or (mesh_offsets loops_of size s cut) (3 * u) nan =
          ap (λ (x : ℕ). get_or offsets x nan) (sym (add-zero (3 * v))) ∙ at 0 (omega arith) ∙ ap (λ (x : ℕ). get_or (mesh_offsets loops_of size s cut) x nan) (add-zero (3 * u)) in
          rw (first, at 1 (omega arith), at 2 (omega arith))
          (offsets_pass nx ny nz s cut grey (limits a) u (omega (arith, there, vertices_are a, mesh_offsets_length size s cut)))

  -- What our own mesher writes passes, in any order: every answer that the promise allows is yes.
  pub mesh_passes : (r : Judgement) → MeshJudged nx ny nz s cut words offsets quads r → r ≡ judgement.Same
  mesh_passes r promise =
      judge_fixed nx ny nz s cut words offsets quads r judgement.Same promise
      (judged_passed (judge_verdict nx ny nz s cut words offsets quads) same (compared_with size s cut words offsets quads) sent_passes
      (sym (ours_passes ours (mesh_quads loops_of size s cut) words quads (ours_below size s cut) shuffle (ours_distinct size s cut) offsets offsets_inside)))

  pub mesh_told_passes : (t noise : ℕ) → cut ≡ cut_of t noise → (place place' : List ℕ) → JudgeTold nx ny nz s t noise words offsets quads place place' → place' ≡ tell_over (0 ∷ 1 ∷ 0 ∷ 0 ∷ []) place
  unfolding filled
  mesh_told_passes t noise e place place' told =
      told.is_told
      ∙ ap (λ (r : Judgement). tell_over (told_judgement (said_judgement r)) place) (mesh_passes told.answer (subst (λ (c : Cut). MeshJudged nx ny nz s c words offsets quads told.answer) (sym e) told.answered))

-- and so does what it wrote, as it wrote it
pub written_sent : {nx ny nz : ℕ} {s : List ℕ} {cut : Cut} (a : MeshCall nx ny nz s cut)
    → SentFrom a (take (2 * a.counts.vertices) a.words_after) (take (3 * a.counts.vertices) a.offsets_after) (quads_written a)
unfolding itself_shuffled
written_sent {nx} {ny} {nz} {s} {cut} a = record {
  words_long = ap length (words_front a) ∙ mesh_words_length (size_of nx ny nz) s cut ∙ ap (λ (m : ℕ). 2 * m) (sym (vertices_are a));
  offsets_long = ap length (offsets_front a) ∙ mesh_offsets_length (size_of nx ny nz) s cut ∙ ap (λ (m : ℕ). 3 * m) (sym (vertices_are a));
  quads_long = ap length (quads_front a) ∙ flat_long a;
  shuffled = itself_shuffled (take (2 * a.counts.vertices) a.words_after) (quads_written a);
  offsets_kept = λ v k h few. ap (λ (l : List Float). get_or l (3 * v + k) nan) (offsets_front a) ∙ sym (offset_at a (3 * v + k) (omega (arith, h, few)));
}
