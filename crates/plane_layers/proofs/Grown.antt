-- A layer as a whole: its counts are those of every block that has its planes, rows 5 and 6 decide by them, and what is written is the layer.
-- Assumes nothing.
use Prim.Native.Nat.{ℕ, ◌+◌, ◌*◌, ◌-◌, ◌/◌, ◌≤◌, ◌<◌}
use mathlib.Core.Path.{◌≡◌, refl, ap, ap₂, sym, ◌∙◌, subst}
use mathlib.Core.List.{List, ◌++◌}
use native.Mathlib.Omega.{arith}
use lib.ListN.{length, get_or, drop, length-append}
use lib.Seq.{sets, get_or-drop}
use lib.Ieee.{Float}
use Rattle.laws.specs.Below.{over}
use Rattle.laws.proofs.Over.{over_length}
use Rattle.laws.proofs.Stores.{sets_over}
use Rattle.block.specs.declared.Cut.{Cut}
use Rattle.block.specs.declared.Size.{Size}
use Rattle.block.specs.declared.Refusal.{Refusal}
use Rattle.block.specs.declared.Checked.{Checked}
use Rattle.block.specs.declared.Checked.TheVariants.{Passes, Refuses}
use Rattle.block.specs.Answer.{in_order}
use Rattle.block.specs.Numbering.{Axis, X, Y, Z}
use Rattle.block.proofs.Order.{judged_refused, judged_passed, written_passed, written_refused, passes_refuses}
use Rattle.cube_rule.specs.Decider.{loops_of}
use Rattle.mesh_rule.specs.Mesh.{quads_before}
use Rattle.mesh_rule.specs.Layers.{plane_size, layer_words, layer_offsets, layer_count, plane_quads, layer_quads}
use Rattle.mesh_rule.proofs.Quads.{flat_length}
use Rattle.layers.specs.declared.Marks.{Marks}
use Rattle.mesh.specs.declared.Counted.TheVariants as counted
use Rattle.mesh.specs.declared.Totals.{Totals}
use Rattle.mesh.specs.Answer.{buffer_rows}
use Rattle.mesh.specs.Steps.{totals_of, quads_up_to, Few}
use Rattle.mesh.proofs.BufferRows.{buffers_pass}
use Rattle.mesh.proofs.PlaneQuads.{quads_flat, planes_quads_next}
use Rattle.mesh.proofs.Regions.{all_full}
use Rattle.plane_layers.specs.declared.Layer.{Layer}
use Rattle.plane_layers.specs.Memory.{SignedTo, sample_in, item_at, packed, table_at}
use Rattle.plane_layers.specs.Parts.{layer_totals}
use Rattle.plane_layers.specs.Layer.{RowsMarked, RowsWritten, LayerReady, SignsReady, LayerCounted, LayerRoomy, LayerWritten, Grown}
use Rattle.plane_layers.proofs.Copies.{packed_fits, packed_sample, packed_behind}
use Rattle.plane_layers.proofs.Parts.{numbered_as}
use Rattle.plane_layers.proofs.Rows.{layer_masks, layer_words_lem, layer_offsets_lem, plane_quads_lem, rows_words_length, rows_offsets_length, marked_all_few}
use Rattle.plane_layers.proofs.Shown.{made, made_shown}

-- ---- the counts

module _ (n : Size) (s : List ℕ) (cut : Cut) (k : ℕ) where
  -- four words a quad
  plane_four : (a : Axis) → length (plane_quads loops_of n s cut a k) ≡ 4 * (length (quads_before loops_of n s cut a (plane_size n * (k + 1))) - length (quads_before loops_of n s cut a (plane_size n * k)))
  plane_four a =
      omega (
        arith,
        four (plane_size n * (k + 1)),
        four (plane_size n * k),
        ap length (planes_quads_next n s cut a k),
        length-append (quads_up_to loops_of n s cut a (plane_size n * k)) (plane_quads loops_of n s cut a k),
      )
    where
      four : (m : ℕ) → length (quads_up_to loops_of n s cut a m) ≡ 4 * length (quads_before loops_of n s cut a m)
      four m = ap length (sym (quads_flat n s cut a m)) ∙ flat_length (quads_before loops_of n s cut a m)

  pub quads_length : length (layer_quads loops_of n s cut k) ≡ length (plane_quads loops_of n s cut X k) + length (plane_quads loops_of n s cut Y k) + length (plane_quads loops_of n s cut Z k)
  quads_length =
      let xs = plane_quads loops_of n s cut X k in
      let ys = plane_quads loops_of n s cut Y k in
      let zs = plane_quads loops_of n s cut Z k in
      length-append (xs ++ ys) zs ∙ ap (λ (i : ℕ). i + length zs) (length-append xs ys)

  pub quads_four : length (layer_quads loops_of n s cut k) ≡ 4 * (length (layer_quads loops_of n s cut k) / 4)
  quads_four = omega (arith, quads_length, plane_four X, plane_four Y, plane_four Z)

  module _ {t : Marks} (h : 2 ≤ n.ny) (c : RowsMarked loops_of n s cut k 0 0 (n.ny - 1) t) where
    last : n.ny - 1 + 1 ≡ n.ny
    last = omega arith

    x_is : t.x ≡ length (plane_quads loops_of n s cut X k)
    x_is = c.x_is ∙ ap length (plane_quads_lem n s cut k X (n.ny - 1) last)

    y_is : t.y ≡ length (plane_quads loops_of n s cut Y k)
    y_is = omega (arith, c.y_is, ap length (plane_quads_lem n s cut k Y (n.ny - 1) last))

    z_is : t.z ≡ length (plane_quads loops_of n s cut Z k)
    z_is = omega (arith, c.z_is, ap length (plane_quads_lem n s cut k Z (n.ny - 1) last))

    v_is : t.v ≡ layer_count loops_of n s cut k
    v_is = c.v_is ∙ layer_masks n s cut k (n.ny - 1) refl

    pub totals_are : totals_of t ≡ layer_totals loops_of n s cut k
    totals_are = ap₂ (λ (v q : ℕ). record { vertices = v; quads = q / 4 }) v_is (omega (arith, x_is, y_is, z_is, quads_length))

    -- no word is left over
    pub marks_four : t.x + t.y + t.z ≡ 4 * (totals_of t).quads
    marks_four = omega (arith, x_is, y_is, z_is, plane_four X, plane_four Y, plane_four Z)

    -- ---- what is written is the layer

    module _ {w w' : List ℕ} {o o' : List Float} {q q' : List ℕ} (room : LayerRoomy t w o q) (r : RowsWritten loops_of n s cut k t.x (t.x + t.y) (n.ny - 1) w w' o o' q q') where
      pub words_over : w' ≡ over (layer_words loops_of n s cut k) w
      words_over =
          r.words
          ∙ ap (sets w 0) (layer_words_lem n s cut k (n.ny - 1) refl)
          ∙ sets_over w (layer_words loops_of n s cut k) (omega (arith, ap length (layer_words_lem n s cut k (n.ny - 1) refl), rows_words_length n s cut k (n.ny - 1), c.v_is, room.words))

      pub offsets_over : o' ≡ over (layer_offsets loops_of n s cut k) o
      offsets_over =
          r.offsets
          ∙ ap (sets o 0) (layer_offsets_lem n s cut k (n.ny - 1) refl)
          ∙ sets_over o (layer_offsets loops_of n s cut k) (omega (arith, ap length (layer_offsets_lem n s cut k (n.ny - 1) refl), rows_offsets_length n s cut k (n.ny - 1), c.v_is, room.offsets))

      pub quads_over : q' ≡ over (layer_quads loops_of n s cut k) q
      quads_over =
          let xs = plane_quads loops_of n s cut X k in
          let ys = plane_quads loops_of n s cut Y k in
          let zs = plane_quads loops_of n s cut Z k in
          r.quads
          ∙ all_same (plane_quads_lem n s cut k X (n.ny - 1) last) (plane_quads_lem n s cut k Y (n.ny - 1) last) (plane_quads_lem n s cut k Z (n.ny - 1) last)
          ∙ all_full q t.x (t.x + t.y) xs ys zs (sym x_is) (ap (λ (i : ℕ). t.x + i) (sym y_is))
          ∙ sets_over q (layer_quads loops_of n s cut k) (omega (arith, quads_length, x_is, y_is, z_is, room.quads))
        where
          all_same : {a a' b b' d d' : List ℕ} → a ≡ a' → b ≡ b' → d ≡ d' → sets (sets (sets q 0 a) t.x b) (t.x + t.y) d ≡ sets (sets (sets q 0 a') t.x b') (t.x + t.y) d'
          all_same p e f = cc

-- ---- what a layer requires is there

module _ {layer : Layer} {work plane : List ℕ} (r : LayerReady layer work plane) where
  pub signs_ready : (nx ny : ℕ) (a b : List ℕ) → nx ≡ layer.size.nx → ny ≡ layer.size.ny → length a ≡ 1280 → length b ≡ 1280
      → SignedTo nx (sample_in work) layer.cut ny a → SignedTo nx (item_at plane) layer.cut ny b → SignsReady layer work plane a b
  signs_ready nx ny a b ex ey ea eb sa sb = record {
    a_long = ea;
    b_long = eb;
    lower = subst (λ (x : ℕ). SignedTo x (sample_in work) layer.cut layer.size.ny a) ex (subst (λ (y : ℕ). SignedTo nx (sample_in work) layer.cut y a) ey sa);
    upper = subst (λ (x : ℕ). SignedTo x (item_at plane) layer.cut layer.size.ny b) ex (subst (λ (y : ℕ). SignedTo nx (item_at plane) layer.cut y b) ey sb);
  }

  module _ {t : Marks} (c : LayerCounted loops_of layer work plane t) where
    abbrev here : RowsMarked loops_of layer.size (made layer.size layer.k work plane) layer.cut layer.k 0 0 (layer.size.ny - 1) t
    here = c (made layer.size layer.k work plane) (made_shown layer.size layer.k work plane r.inside)

    pub layer_few : Few t
    layer_few = marked_all_few layer.size (made layer.size layer.k work plane) layer.cut layer.k r.limits r.inside (less r.limits.y_low) here
      where
        less : 2 ≤ layer.size.ny → layer.size.ny - 1 < layer.size.ny
        less h = omega arith

    pub layer_four : t.x + t.y + t.z ≡ 4 * (totals_of t).quads
    layer_four = marks_four layer.size (made layer.size layer.k work plane) layer.cut layer.k r.limits.y_low here

    module _ (w : List ℕ) (o : List Float) (q : List ℕ) where
      abbrev late : Totals → Checked
      late x = in_order (buffer_rows x (length w) (length o) (length q))

      -- ---- rows 5 and 6 refuse

      pub grown_refused : (x : Totals) → x ≡ totals_of t → (y : Refusal) → late x ≡ Refuses y → Grown loops_of layer plane work w o q (counted.Refused y) work w o q
      grown_refused x e y h = record {
        counted = x;
        answer = judged_refused (late x) x y h;
        refusal_keeps = λ z f. (refl, refl, refl, refl);
        kept = λ p. absurd (passes_refuses (sym p ∙ h));
        part = λ s sh known. record {
          counts_are = e ∙ totals_are layer.size s layer.cut layer.k r.limits.y_low (c s sh);
          words = sym (written_refused (late x) _ w y h);
          offsets = sym (written_refused (late x) _ o y h);
          quads = sym (written_refused (late x) _ q y h);
          front = λ p. absurd (passes_refuses (sym p ∙ h));
          noted = λ p. absurd (passes_refuses (sym p ∙ h));
        };
      }

      -- ---- they pass

      pub layer_roomy : (x : Totals) → x ≡ totals_of t → late x ≡ Passes → LayerRoomy t w o q
      layer_roomy x e h =
          let p = buffers_pass x.vertices x.quads (length w) (length o) (length q) h in
          let v : x.vertices ≡ t.v = ap (λ (y : Totals). y.vertices) e in
          let f : x.quads ≡ (totals_of t).quads = ap (λ (y : Totals). y.quads) e in
          record { words = omega (arith, p.0); offsets = omega (arith, p.1); quads = omega (arith, p.2, layer_four) }

      pub grown_passed : (x : Totals) → x ≡ totals_of t → late x ≡ Passes → (work' work'' w' : List ℕ) (o' : List Float) (q' : List ℕ) → LayerWritten loops_of layer t plane work work' w w' o o' q q' → work'' ≡ over (packed plane) work'
          → Grown loops_of layer plane work w o q (counted.Counts x) work'' w' o' q'
      grown_passed x e h work' work'' w' o' q' l f = record {
        counted = x;
        answer = judged_passed (late x) x x h refl;
        refusal_keeps = λ y g. absurd (passes_refuses (sym h ∙ g));
        kept = λ p.
            let v : x.vertices ≡ t.v = ap (λ (z : Totals). z.vertices) e in
            let u : x.quads ≡ (totals_of t).quads = ap (λ (z : Totals). z.quads) e in
            record {
              words_long = l.kept.words_long;
              offsets_long = l.kept.offsets_long;
              quads_long = l.kept.quads_long;
              work_long = ap length f ∙ over_length (packed plane) work' (packed_fits plane work' fits) ∙ l.kept.work_long;
              words_behind = λ i b. l.kept.words_behind i (omega arith);
              offsets_behind = λ i b. l.kept.offsets_behind i (omega arith);
              quads_behind = λ i b. l.kept.quads_behind i (omega (arith, layer_four));
              work_behind = λ i b. behind i (omega arith) ∙ l.kept.work_behind i b;
            };
        part = λ s sh known.
            let m = c s sh in
            record {
              counts_are = e ∙ totals_are layer.size s layer.cut layer.k r.limits.y_low m;
              words = words_over layer.size s layer.cut layer.k r.limits.y_low m (layer_roomy x e h) (l.written s sh known) ∙ sym (written_passed (late x) _ w h);
              offsets = offsets_over layer.size s layer.cut layer.k r.limits.y_low m (layer_roomy x e h) (l.written s sh known) ∙ sym (written_passed (late x) _ o h);
              quads = quads_over layer.size s layer.cut layer.k r.limits.y_low m (layer_roomy x e h) (l.written s sh known) ∙ sym (written_passed (late x) _ q h);
              front = λ p grey i b. ap (λ (z : List ℕ). sample_in z i) f ∙ packed_sample plane work' grey i (omega (arith, r.plane_long));
              noted = λ p j b. numbered_as (drop (table_at layer.size j) work') (drop (table_at layer.size j) work'')
                  (λ i d. get_or-drop (table_at layer.size j) work'' i 0 ∙ behind (table_at layer.size j + i) (omega arith) ∙ sym (get_or-drop (table_at layer.size j) work' i 0)) (l.noted s sh known j b);
            };
      }
        where
          fits : length plane ≤ length work'
          fits = omega (arith, r.plane_long, r.room, l.kept.work_long)

          behind : (i : ℕ) → plane_size layer.size ≤ i → get_or work'' i 0 ≡ get_or work' i 0
          behind i b = ap (λ (z : List ℕ). get_or z i 0) f ∙ packed_behind plane work' i (omega (arith, r.plane_long))
