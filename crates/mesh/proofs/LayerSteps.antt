-- The rows of a layer: what noting and writing a row require is there while the layer is written.
-- Assumes nothing.
use Prim.Native.Nat.{ℕ, ◌+◌, ◌*◌, ◌-◌, ◌%◌, ◌≤◌, ◌<◌}
use mathlib.Core.Path.{◌≡◌, ap, sym, ◌∙◌, subst}
use mathlib.Core.List.{List}
use native.Mathlib.Omega.{arith}
use lib.ListN.{length, take, drop}
use lib.Ieee.{Float}
use Rattle.block.specs.declared.Cut.{Cut}
use Rattle.block.specs.declared.Size.{Size}
use Rattle.block.specs.Numbering.{cube_count}
use Rattle.cube_rule.specs.Decider.{joined, loops_of}
use Rattle.cube_rule.proofs.Laws.{cube_laws}
use Rattle.mesh_rule.specs.Layers.{layer_first, row_cube}
use Rattle.mesh_rule.proofs.Counts.{most_vertices}
use Rattle.vertices.specs.Layers.{Ready}
use Rattle.quads.specs.Writing.{RowTable}
use Rattle.layers.specs.declared.Marks.{Marks}
use Rattle.layers.specs.Steps.{half}
use Rattle.mesh.specs.Answer.{vertex_count}
use Rattle.mesh.specs.Steps.{Meshable}
use Rattle.mesh.specs.Writes.{rows_count, Writing, Roomy, Underway, BelowReady, BelowNoted, TablesReady, RowMore}
use Rattle.mesh.proofs.Belows.{part_is, first_is, rows_none}
use Rattle.mesh.proofs.Layers.{layer_first_next}
use Rattle.mesh.proofs.Rows.{vertices_le, cube_in_lem, next_cube}
use Rattle.mesh.proofs.Writings.{words_kept, offsets_kept, quads_kept, writing_row}

-- two rows further on the same half is written
pub turn : (j : ℕ) (t : List ℕ) → half j t ≡ half (j + 1 + 1) t
turn j t = ap (λ (h : ℕ). take 512 (drop (512 * h) t)) same
  where
    same : j % 2 ≡ (j + 1 + 1) % 2
    same = omega arith

-- the state before the row j of layer k, which began with the marks m and the buffers w₁, o₁, q₁
pub record RowState (n : Size) (s : List ℕ) (cut : Cut) (j k : ℕ) (m : Marks) (w₁ : List ℕ) (o₁ : List Float) (q₁ : List ℕ) (passed : ℕ) (under tab : List ℕ) (m' : Marks) (w : List ℕ) (o : List Float) (q : List ℕ) : Type 0 where
  pub under_long : length under ≡ 1024
  pub tab_long : length tab ≡ 1024
  pub passed_is : 0 < k → passed ≡ rows_count loops_of n s cut j (k - 1)
  pub below_before : 0 < j → 0 < k → RowTable loops_of n s cut (j - 1) (k - 1) (half (j + 1) under)
  pub before : 0 < j → RowTable loops_of n s cut (j - 1) k (half (j + 1) tab)
  pub writing : (w₀ : List ℕ) (o₀ : List Float) (q₀ : List ℕ) → Roomy loops_of n s cut w₀ o₀ q₀ → Writing loops_of n s cut 0 k m w₀ w₁ o₀ o₁ q₀ q₁ → Writing loops_of n s cut j k m' w₀ w o₀ o q₀ q

pub state_start : (n : Size) (s : List ℕ) (cut : Cut) (k : ℕ) (m : Marks) (w : List ℕ) (o : List Float) (q under tab : List ℕ) → length under ≡ 1024 → length tab ≡ 1024 → RowState n s cut 0 k m w o q 0 under tab m w o q
state_start n s cut k m w o q under tab eu et = record {
  under_long = eu;
  tab_long = et;
  passed_is = λ h. rows_none n s cut (k - 1);
  below_before = λ a b. absurd (omega arith);
  before = λ a. absurd (omega arith);
  writing = λ w₀ o₀ q₀ room r. r;
}

module _ {n : Size} {s : List ℕ} {cut : Cut} {a b : List ℕ} {j k : ℕ} {m : Marks} {w₁ : List ℕ} {o₁ : List Float} {q₁ : List ℕ} {passed : ℕ} {under tab : List ℕ} {m' : Marks} {w : List ℕ} {o : List Float} {q : List ℕ}
    (r : Ready n s cut a b k) (ok : Meshable n s cut) (u : Underway loops_of n s cut 0 k m w₁ o₁ q₁) (hj : j + 1 < n.ny) (st : RowState n s cut j k m w₁ o₁ q₁ passed under tab m' w o q) where
  -- the rows before are written
  now_writing : Writing loops_of n s cut j k m' u.w₀ w u.o₀ o u.q₀ q
  now_writing = st.writing u.w₀ u.o₀ u.q₀ u.room u.writing

  in_block : (j' : ℕ) → j' ≤ j → row_cube n.nx n.ny j' k ≤ cube_count n
  in_block j' l = omega (arith, next_cube n.nx n.ny j' k, cube_in_lem n.nx n.ny n.nz j' k (omega arith) r.inside)

  pub below_ready : (below : ℕ) → (0 < k → below ≡ layer_first loops_of n s cut (k - 1)) → BelowReady loops_of n s cut j k below m.v passed w under
  below_ready below el = record {
    limits = ok.limits;
    row = hj;
    layer = r.inside;
    long = st.under_long;
    order = λ h. omega (arith, el h, first_is n s cut k u.writing, layer_first_next n s cut (k - 1), ap (layer_first loops_of n s cut) (back h));
    inside = λ h. omega (arith, few, u.room.words, words_kept now_writing);
    few = λ h. omega (arith, few, most_vertices loops_of n s cut (cube_laws joined) ok.limits);
    part = λ h. part_is n s cut j (k - 1) m' u.w₀ w u.o₀ o u.q₀ q below m.v (at_layer h) u.room.words (subst (λ (x : ℕ). row_cube n.nx n.ny j x ≤ cube_count n) (sym (back h)) (in_block j (omega arith))) (el h) (first_is n s cut k u.writing ∙ ap (layer_first loops_of n s cut) (sym (back h)));
    below_is = el;
    passed_is = st.passed_is;
  }
    where
      back : 0 < k → k - 1 + 1 ≡ k
      back h = omega arith

      few : m.v ≤ vertex_count n s cut
      few = omega (arith, u.writing.marks.v_is, vertices_le n s cut (row_cube n.nx n.ny 0 k) (in_block 0 (omega arith)))

      at_layer : 0 < k → Writing loops_of n s cut j (k - 1 + 1) m' u.w₀ w u.o₀ o u.q₀ q
      at_layer h = subst (λ (x : ℕ). Writing loops_of n s cut j x m' u.w₀ w u.o₀ o u.q₀ q) (sym (back h)) now_writing

  module _ {under' : List ℕ} {passed' : ℕ} (l : BelowNoted loops_of n s cut j k under under' passed') where
    pub tables_ready : TablesReady loops_of n s cut j k under' tab
    tables_ready = record {
      row = hj;
      under_long = l.long;
      tab_long = st.tab_long;
      below = l.noted;
      below_before = λ a b. subst (RowTable loops_of n s cut (j - 1) (k - 1)) (sym l.kept) (st.below_before a b);
      before = st.before;
    }

    pub row_underway : Underway loops_of n s cut j k m' w o q
    row_underway = record { w₀ = u.w₀; o₀ = u.o₀; q₀ = u.q₀; room = u.room; writing = now_writing }

    pub state_more : {m'' : Marks} {w'' : List ℕ} {o'' : List Float} {q'' tab'' : List ℕ} → RowMore loops_of n s cut j k m' m'' w w'' o o'' q q'' tab'' → RowState n s cut (j + 1) k m w₁ o₁ q₁ passed' under' tab'' m'' w'' o'' q''
    state_more {m''} {w''} {o''} {q''} {tab''} h = record {
      under_long = l.long;
      tab_long = h.tab_long;
      passed_is = l.passed_is;
      below_before = λ a b. subst (λ (i : ℕ). RowTable loops_of n s cut i (k - 1) (half (j + 1 + 1) under')) behind (subst (RowTable loops_of n s cut j (k - 1)) (turn j under') (l.noted b));
      before = λ a. subst (λ (i : ℕ). RowTable loops_of n s cut i k (half (j + 1 + 1) tab'')) behind (subst (RowTable loops_of n s cut j k) (turn j tab'') h.noted);
      writing = λ w₀ o₀ q₀ room x. writing_row n s cut (st.writing w₀ o₀ q₀ room x) h hj r.inside;
    }
      where
        behind : j ≡ j + 1 - 1
        behind = omega arith

-- the buffers keep their lengths
module _ {n : Size} {s : List ℕ} {cut : Cut} {j k : ℕ} {m : Marks} {w₁ : List ℕ} {o₁ : List Float} {q₁ : List ℕ} {passed : ℕ} {under tab : List ℕ} {m' : Marks} {w : List ℕ} {o : List Float} {q : List ℕ}
    (u : Underway loops_of n s cut 0 k m w₁ o₁ q₁) (st : RowState n s cut j k m w₁ o₁ q₁ passed under tab m' w o q) where
  then_writing : Writing loops_of n s cut j k m' u.w₀ w u.o₀ o u.q₀ q
  then_writing = st.writing u.w₀ u.o₀ u.q₀ u.room u.writing

  pub state_words : length w ≡ length w₁
  state_words = words_kept then_writing ∙ sym (words_kept u.writing)

  pub state_offsets : length o ≡ length o₁
  state_offsets = offsets_kept then_writing ∙ sym (offsets_kept u.writing)

  pub state_quads : length q ≡ length q₁
  state_quads = quads_kept then_writing ∙ sym (quads_kept u.writing)
