-- The buffers are written on from row to row, and hold the whole mesh when the last row is written.
-- Assumes nothing.
use Prim.Native.Nat.{ℕ, ◌+◌, ◌*◌, ◌-◌, ◌<◌}
use mathlib.Core.Path.{◌≡◌, refl, ap, ap₂, sym, ◌∙◌, subst}
use mathlib.Core.List.{List, ◌++◌}
use native.Mathlib.Omega.{arith}
use lib.ListN.{length}
use lib.Seq.{sets, length-sets}
use lib.Ieee.{Float}
use Rattle.laws.specs.Below.{below, over}
use Rattle.laws.proofs.Below.{below_add}
use Rattle.laws.proofs.Stores.{sets_append, sets_over}
use Rattle.block.specs.declared.Cut.{Cut}
use Rattle.block.specs.declared.Size.{Size}
use Rattle.block.specs.Numbering.{X, Y, Z, sample_count, cube_count}
use Rattle.cube_rule.specs.Decider.{loops_of}
use Rattle.mesh_rule.specs.Buffers.{mesh_quads}
use Rattle.mesh_rule.specs.Layers.{cube_words, cube_offsets, row_cube, row_sample, run_words, run_offsets}
use Rattle.mesh_rule.proofs.Words.{words_by_cube, offsets_by_cube}
use Rattle.quads.specs.Writing.{row_quads}
use Rattle.layers.specs.declared.Marks.{Marks}
use Rattle.mesh.specs.Answer.{vertex_count}
use Rattle.mesh.specs.Steps.{quads_up_to, MarkedTo, Marking, Tallied}
use Rattle.mesh.specs.Writes.{start_y, start_z, WrittenTo, Writing, Roomy, RowMore, BlockWritten}
use Rattle.mesh.proofs.Layers.{words_length, offsets_length}
use Rattle.mesh.proofs.PlaneQuads.{mesh_quads_lem}
use Rattle.mesh.proofs.Regions.{first_more, second_more, third_more, all_full}
use Rattle.mesh.proofs.Rows.{next_cube, next_layer_cube, row_next, row_last, quads_room}
use Rattle.mesh.proofs.Tallies.{vertices_are, quads_all_length, all_cubes, all_planes, marked_start, marked_row, marked_layer}

-- a buffer with `front` at its start is written on behind it
pub store_next : {A : Type 0} (l₀ l l' front part all : List A) (i : ℕ) → l ≡ sets l₀ 0 front → i ≡ length front → l' ≡ sets l i part → all ≡ front ++ part → l' ≡ sets l₀ 0 all
store_next {A} l₀ l l' front part all i is place e whole =
    e ∙ ap₂ (λ (x : List A) (j : ℕ). sets x j part) is (place ∙ from_zero (length front)) ∙ sets_append l₀ 0 front part ∙ ap (sets l₀ 0) (sym whole)
  where
    from_zero : (x : ℕ) → x ≡ 0 + x
    from_zero x = omega arith

-- a buffer that is written over stays as long as it was
kept : {A : Type 0} (l₀ : List A) (i : ℕ) (xs : List A) {l : List A} → l ≡ sets l₀ i xs → length l ≡ length l₀
kept l₀ i xs e = ap length e ∙ length-sets l₀ i xs

module _ {n : Size} {s : List ℕ} {cut : Cut} {c p : ℕ} {m : Marks} {w₀ w : List ℕ} {o₀ o : List Float} {q₀ q : List ℕ} (r : WrittenTo loops_of n s cut c p m w₀ w o₀ o q₀ q) where
  pub words_kept : length w ≡ length w₀
  words_kept = kept w₀ 0 (below (cube_words loops_of n s cut) c) r.words

  pub offsets_kept : length o ≡ length o₀
  offsets_kept = kept o₀ 0 (below (cube_offsets loops_of n s cut) c) r.offsets

  pub quads_kept : length q ≡ length q₀
  quads_kept =
      let xs = quads_up_to loops_of n s cut X p in
      let ys = quads_up_to loops_of n s cut Y p in
      let zs = quads_up_to loops_of n s cut Z p in
      kept (sets (sets q₀ 0 xs) (start_y loops_of n s cut) ys) (start_z loops_of n s cut) zs r.quads
      ∙ kept (sets q₀ 0 xs) (start_y loops_of n s cut) ys refl
      ∙ kept q₀ 0 xs refl

module _ (n : Size) (s : List ℕ) (cut : Cut) where
  all_same : (q₀ : List ℕ) {a a' b b' c c' : List ℕ} → a ≡ a' → b ≡ b' → c ≡ c'
      → sets (sets (sets q₀ 0 a) (start_y loops_of n s cut) b) (start_z loops_of n s cut) c ≡ sets (sets (sets q₀ 0 a') (start_y loops_of n s cut) b') (start_z loops_of n s cut) c'
  all_same q₀ p q r = cc

  -- ---- before the first row

  written_none : (m : Marks) (w : List ℕ) (o : List Float) (q : List ℕ) (c p : ℕ) → MarkedTo loops_of n s cut (start_y loops_of n s cut) (start_z loops_of n s cut) c p m → 0 ≡ c → 0 ≡ p → WrittenTo loops_of n s cut c p m w w o o q q
  unfolding below
  written_none m w o q c p h ec ep = record {
    marks = h;
    words = ap (λ (c : ℕ). sets w 0 (below (cube_words loops_of n s cut) c)) ec;
    offsets = ap (λ (c : ℕ). sets o 0 (below (cube_offsets loops_of n s cut) c)) ec;
    quads = ap (λ (p : ℕ). sets (sets (sets q 0 (quads_up_to loops_of n s cut X p)) (start_y loops_of n s cut) (quads_up_to loops_of n s cut Y p)) (start_z loops_of n s cut) (quads_up_to loops_of n s cut Z p)) ep;
  }

  pub writing_start : (t : Marks) (w : List ℕ) (o : List Float) (q : List ℕ) → Tallied loops_of n s cut t → Writing loops_of n s cut 0 0 (record { v = 0; x = 0; y = t.x; z = t.x + t.y }) w w o o q q
  writing_start t w o q h =
      written_none _ w o q (row_cube n.nx n.ny 0 0) (row_sample n.nx n.ny 0 0)
      (subst (λ (y : ℕ). Marking loops_of n s cut (start_y loops_of n s cut) (start_z loops_of n s cut) 0 0 (record { v = 0; x = 0; y = y; z = t.x + t.y })) (sym h.x_is)
      (subst (λ (z : ℕ). Marking loops_of n s cut (start_y loops_of n s cut) (start_z loops_of n s cut) 0 0 (record { v = 0; x = 0; y = start_y loops_of n s cut; z = z })) (sym z_is) (marked_start n s cut (start_y loops_of n s cut) (start_z loops_of n s cut))))
      (zero_of (n.nx - 1) (n.ny - 1)) (zero_of n.nx n.ny)
    where
      zero_of : (w h : ℕ) → 0 ≡ w * (0 + h * 0)
      zero_of w h = omega arith

      z_is : t.x + t.y ≡ start_z loops_of n s cut
      z_is = omega (arith, h.x_is, h.y_is)

  -- ---- one row more

  module _ {j k : ℕ} {m m' : Marks} {w₀ w w' : List ℕ} {o₀ o o' : List Float} {q₀ q q' tab : List ℕ} (r : Writing loops_of n s cut j k m w₀ w o₀ o q₀ q) (h : RowMore loops_of n s cut j k m m' w w' o o' q q' tab)
      (hj : j + 1 < n.ny) (hk : k + 1 < n.nz) where
    abbrev c : ℕ
    c = row_cube n.nx n.ny j k

    cubes : {A : Type 0} (f : ℕ → List A) → below f (row_cube n.nx n.ny (j + 1) k) ≡ below f c ++ below (λ (x : ℕ). f (c + x)) (n.nx - 1)
    cubes f = ap (below f) (next_cube n.nx n.ny j k) ∙ below_add f c (n.nx - 1)

    quads_next : q' ≡ sets (sets (sets q₀ 0 (quads_up_to loops_of n s cut X (row_sample n.nx n.ny (j + 1) k))) (start_y loops_of n s cut) (quads_up_to loops_of n s cut Y (row_sample n.nx n.ny (j + 1) k))) (start_z loops_of n s cut) (quads_up_to loops_of n s cut Z (row_sample n.nx n.ny (j + 1) k))
    quads_next =
        let xs = quads_up_to loops_of n s cut X (row_sample n.nx n.ny j k) in
        let ys = quads_up_to loops_of n s cut Y (row_sample n.nx n.ny j k) in
        let zs = quads_up_to loops_of n s cut Z (row_sample n.nx n.ny j k) in
        let px = row_quads loops_of n s cut X k j in
        let py = row_quads loops_of n s cut Y k j in
        let pz = row_quads loops_of n s cut Z k j in
        h.quads_are
        ∙ ap (λ (l : List ℕ). sets (sets l m.y py) m.z pz) (ap₂ (λ (l : List ℕ) (i : ℕ). sets l i px) r.quads r.marks.x_is ∙ first_more q₀ (start_y loops_of n s cut) (start_z loops_of n s cut) xs ys zs px (quads_room n s cut X j k (omega arith) (omega arith)) (omega arith))
        ∙ ap (λ (l : List ℕ). sets l m.z pz) (ap (λ (i : ℕ). sets (sets (sets (sets q₀ 0 (xs ++ px)) (start_y loops_of n s cut) ys) (start_z loops_of n s cut) zs) i py) r.marks.y_is
        ∙ second_more q₀ (start_y loops_of n s cut) (start_z loops_of n s cut) (xs ++ px) ys zs py (omega (arith, quads_room n s cut Y j k (omega arith) (omega arith))))
        ∙ ap (λ (i : ℕ). sets (sets (sets (sets q₀ 0 (xs ++ px)) (start_y loops_of n s cut) (ys ++ py)) (start_z loops_of n s cut) zs) i pz) r.marks.z_is
        ∙ third_more q₀ (start_y loops_of n s cut) (start_z loops_of n s cut) (xs ++ px) (ys ++ py) zs pz
        ∙ all_same q₀ (sym (row_next n s cut X j k (omega arith))) (sym (row_next n s cut Y j k (omega arith))) (sym (row_next n s cut Z j k (omega arith)))

    pub writing_row : Writing loops_of n s cut (j + 1) k m' w₀ w' o₀ o' q₀ q'
    writing_row = record {
      marks = marked_row n s cut (start_y loops_of n s cut) (start_z loops_of n s cut) j k (omega arith) r.marks h.moved;
      words =
          store_next w₀ w w' (below (cube_words loops_of n s cut) c) (run_words loops_of n s cut c (n.nx - 1)) (below (cube_words loops_of n s cut) (row_cube n.nx n.ny (j + 1) k)) (2 * m.v)
          r.words (omega (arith, r.marks.v_is, words_length n s cut c)) h.words (cubes (cube_words loops_of n s cut));
      offsets =
          store_next o₀ o o' (below (cube_offsets loops_of n s cut) c) (run_offsets loops_of n s cut c (n.nx - 1)) (below (cube_offsets loops_of n s cut) (row_cube n.nx n.ny (j + 1) k)) (3 * m.v)
          r.offsets (omega (arith, r.marks.v_is, offsets_length n s cut c)) h.offsets (cubes (cube_offsets loops_of n s cut));
      quads = quads_next;
    }

  -- ---- one layer more

  pub writing_layer : (j k : ℕ) {m : Marks} {w₀ w : List ℕ} {o₀ o : List Float} {q₀ q : List ℕ} → j + 1 ≡ n.ny → Writing loops_of n s cut j k m w₀ w o₀ o q₀ q → Writing loops_of n s cut 0 (k + 1) m w₀ w o₀ o q₀ q
  writing_layer j k {m} {w₀} {w} {o₀} {o} {q₀} {q} e r =
      let cube = next_layer_cube n.nx n.ny j k e in
      record {
        marks = marked_layer n s cut (start_y loops_of n s cut) (start_z loops_of n s cut) j k e r.marks;
        words = r.words ∙ ap (λ (c : ℕ). sets w₀ 0 (below (cube_words loops_of n s cut) c)) cube;
        offsets = r.offsets ∙ ap (λ (c : ℕ). sets o₀ 0 (below (cube_offsets loops_of n s cut) c)) cube;
        quads = r.quads ∙ all_same q₀ (sym (row_last n s cut X j k e)) (sym (row_last n s cut Y j k e)) (sym (row_last n s cut Z j k e));
      }

  -- ---- the whole mesh

  pub block_written : (k : ℕ) {m : Marks} {w₀ w : List ℕ} {o₀ o : List Float} {q₀ q : List ℕ} → Writing loops_of n s cut 0 k m w₀ w o₀ o q₀ q → k + 1 ≡ n.nz → Roomy loops_of n s cut w₀ o₀ q₀ → BlockWritten loops_of n s cut w₀ w o₀ o q₀ q
  block_written k {m} {w₀} {w} {o₀} {o} {q₀} {q} r e room = record {
    words = r.words ∙ ap (λ (c : ℕ). sets w₀ 0 (below (cube_words loops_of n s cut) c)) (all_cubes n s cut k e) ∙ sets_over w₀ (below (cube_words loops_of n s cut) (cube_count n)) (omega (arith, words_all, room.words))
        ∙ ap (λ (l : List ℕ). over l w₀) (sym (words_by_cube loops_of n s cut));
    offsets = r.offsets ∙ ap (λ (c : ℕ). sets o₀ 0 (below (cube_offsets loops_of n s cut) c)) (all_cubes n s cut k e) ∙ sets_over o₀ (below (cube_offsets loops_of n s cut) (cube_count n)) (omega (arith, offsets_all, room.offsets))
        ∙ ap (λ (l : List Float). over l o₀) (sym (offsets_by_cube loops_of n s cut));
    quads =
        r.quads
        ∙ all_same q₀ (all_planes n s cut X k e) (all_planes n s cut Y k e) (all_planes n s cut Z k e)
        ∙ all_full q₀ (start_y loops_of n s cut) (start_z loops_of n s cut) (quads_up_to loops_of n s cut X (sample_count n)) (quads_up_to loops_of n s cut Y (sample_count n)) (quads_up_to loops_of n s cut Z (sample_count n)) refl refl
        ∙ ap (sets q₀ 0) (sym (mesh_quads_lem n s cut))
        ∙ sets_over q₀ (mesh_quads loops_of n s cut) (omega (arith, quads_all_length n s cut, room.quads));
  }
    where
      words_all : length (below (cube_words loops_of n s cut) (cube_count n)) ≡ 2 * vertex_count n s cut
      words_all = words_length n s cut (cube_count n) ∙ ap (λ (x : ℕ). 2 * x) (vertices_are n s cut)

      offsets_all : length (below (cube_offsets loops_of n s cut) (cube_count n)) ≡ 3 * vertex_count n s cut
      offsets_all = offsets_length n s cut (cube_count n) ∙ ap (λ (x : ℕ). 3 * x) (vertices_are n s cut)
