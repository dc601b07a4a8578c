-- A plane that is taken: refused by a row that needs no count, the first of its block, or one that finishes a layer.
-- Assumes nothing.
use Rattle.std.proofs.Common.{◌≡◌, ℕ, suc, ◌+◌, ◌-◌, ◌*◌, ◌<◌, ◌≤◌, ◌⊎◌, List, [], length, get_or, drop, sym, refl, ap, ◌∙◌, subst, ap₂, inl, inr, add-zero, mod-eq_of_lt, add-one, arith, length-append, get_or-drop, get_or-take}
use lib.Ieee.{Float}
use lib.ListN.{get_or-eq_default}
use Rattle.laws.specs.Below.{over}
use Rattle.laws.proofs.Over.{over_length}
use Rattle.laws.proofs.Tests.{lt_or_ge}
use Rattle.block.specs.declared.Checked.{Checked}
use Rattle.block.specs.declared.Checked.TheVariants.{Passes, Refuses}
use Rattle.block.specs.declared.Refusal.{Refusal}
use Rattle.block.specs.declared.Size.{Size}
use Rattle.block.specs.Answer.{in_order, written}
use Rattle.block.specs.Grey.{SixteenBit}
use Rattle.block.specs.Numbering.{Axis, X, Y, Z}
use Rattle.block.specs.Size.{Limits}
use Rattle.block.proofs.Order.{orders_refuse, orders_pass, judged_refused, judged_passed, written_passed, passes_refuses, accepted_refused, refused_says, accepted_says}
use Rattle.cube_rule.specs.Decider.{joined, loops_of}
use Rattle.cube_rule.proofs.Laws.{cube_laws}
use Rattle.mesh_rule.specs.Layers.{plane_size, layer_size, layer_first, plane_quads}
use Rattle.mesh_rule.proofs.Counts.{most_vertices, most_quads}
use Rattle.mesh.specs.declared.Counted.{Counted}
use Rattle.mesh.specs.declared.Counted.TheVariants as counted
use Rattle.mesh.specs.declared.Totals.{Totals}
use Rattle.mesh.specs.Answer.{said_counts, buffer_rows}
use Rattle.mesh.specs.Steps.{quads_up_to}
use Rattle.mesh.proofs.BufferRows.{roomy}
use Rattle.mesh.proofs.Layers.{layer_first_next}
use Rattle.mesh.proofs.PlaneQuads.{planes_quads_next}
use Rattle.mesh.proofs.Rows.{vertices_le}
use Rattle.mesh.proofs.Tallies.{all_quads_lem}
use Rattle.plane_layers.specs.Memory.{sample_in, packed, Shown, LayerTables}
use Rattle.plane_layers.specs.Parts.{layer_totals, KeptBehind}
use Rattle.plane_layers.specs.Layer.{LayerReady, Known, PartGrown, Grown}
use Rattle.plane_layers.proofs.Copies.{packed_fits, packed_sample, packed_behind}
use Rattle.plane_layers.proofs.Grown.{quads_length, quads_four}
use Rattle.by_planes.specs.declared.Stream.{Stream}
use Rattle.by_planes.specs.declared.Growth.{Growth}
use Rattle.by_planes.specs.declared.Taken.TheVariants as taken
use Rattle.by_planes.specs.Answer.{size_in, plane_of, part_words, part_offsets, part_quads, part_totals, further, grown_by, call_rows, take_verdict}
use Rattle.by_planes.specs.Left.{Left, PartTaken, PlaneTaken}
use Rattle.by_planes.specs.Steps.{Sizes, first_of}
use Rattle.by_planes.proofs.Lefts.{in_cubes, some_quads, left_early, left_few}
use Rattle.by_planes.proofs.Rows.{plane_is, later_rows, passed, first_small}

none_over : {A : Type 0} (b : List A) → b ≡ over [] b
unfolding over
none_over b = refl

abbrev nothing : Totals
nothing = record { vertices = 0; quads = 0 }

-- ---- a row that needs no count refuses

module _ (st : Stream) (plane work w : List ℕ) (o : List Float) (q : List ℕ) where
  abbrev early : Checked
  early = in_order (call_rows st (length plane) (length work))

  pub taken_refused : (x : Refusal) → early ≡ Refuses x → PlaneTaken st plane work w o q (taken.Refused x) work w o q
  taken_refused x e =
      let k : take_verdict st (length plane) (length work) nothing (length w) (length o) (length q) ≡ Refuses x = orders_refuse (call_rows st (length plane) (length work)) _ x e in
      record {
        counted = nothing;
        answer = judged_refused _ _ x k;
        first = λ z. refl;
        refusal_keeps = λ y f. (refl, refl, refl, refl);
        kept = λ g f. absurd (accepted_refused (sym f));
        part = λ s left more is. absurd (passes_refuses (sym (left_early left more plane is) ∙ e));
      }

  -- ---- they pass

  module _ (ok : early ≡ Passes) (count : length plane ≡ st.nx * st.ny) (room : 6 * (st.nx * st.ny) ≤ length work) (inside : st.planes < st.nz) where
    -- then rows 5 and 6 decide
    late_decides : (c : Totals) → take_verdict st (length plane) (length work) c (length w) (length o) (length q) ≡ in_order (buffer_rows c (length w) (length o) (length q))
    late_decides c = orders_pass (call_rows st (length plane) (length work)) _ ok

    -- ---- of a block whose planes are handed over

    module _ {s : List ℕ} (left : Left s st work) (is : plane ≡ plane_of (size_in st) s st.planes) where
      abbrev n : Size
      n = size_in st

      item : (i : ℕ) → i < plane_size n → get_or plane i 0 ≡ get_or s (plane_size n * st.planes + i) 0
      item i h = ap (λ (l : List ℕ). get_or l i 0) is ∙ get_or-take (plane_size n) (drop (plane_size n * st.planes) s) i 0 h ∙ get_or-drop (plane_size n * st.planes) s i 0

      -- its samples are the block's, so they are of 16 bits
      plane_grey : SixteenBit plane
      plane_grey i = go (lt_or_ge i (plane_size n))
        where
          past : plane_size n ≤ i → ◌≡◌ {A = ℕ} (get_or plane i 0) 0
          past g = get_or-eq_default plane 0 (omega arith)

          go : (i < plane_size n) ⊎ (plane_size n ≤ i) → get_or plane i 0 < 65536
          go (inl l) = omega (arith, item i l, left.grey (plane_size n * st.planes + i))
          go (inr g) = omega (arith, past g)

      few : (st.vertices ≤ 66325500) × (st.quads ≤ 49354740)
      few = left_few left

      -- nothing is cut
      growth_is : (c : Totals) → c.vertices ≤ 66325500 → c.quads ≤ 49354740 → grown_by st c ≡ record { stream = further st c; counts = c }
      growth_is c hv hq =
          ap₂ (λ (v u : ℕ). record { stream = record { nx = st.nx; ny = st.ny; nz = st.nz; cut = st.cut; vertices = v; quads = u; planes = st.planes + 1 }; counts = c })
          (mod-eq_of_lt (omega (arith, few))) (mod-eq_of_lt (omega (arith, few)))

    -- ---- the first plane

    module _ (none : st.planes ≡ 0) (work' : List ℕ) (keeps : work' ≡ over (packed plane) work) where
      fits : length plane ≤ length work
      fits = omega arith

      first_kept : KeptBehind 0 (4 * 0) (6 * (st.nx * st.ny)) w w o o q q work work'
      first_kept = record {
        words_long = refl;
        offsets_long = refl;
        quads_long = refl;
        work_long = ap length keeps ∙ over_length (packed plane) work (packed_fits plane work fits);
        words_behind = λ i l. refl;
        offsets_behind = λ i l. refl;
        quads_behind = λ i l. refl;
        work_behind = λ i l. ap (λ (b : List ℕ). get_or b i 0) keeps ∙ packed_behind plane work i (omega arith);
      }

      pub taken_first : PlaneTaken st plane work w o q (taken.Wrote (grown_by st nothing)) work' w o q
      taken_first =
          let k : take_verdict st (length plane) (length work) nothing (length w) (length o) (length q) ≡ Passes = late_decides nothing ∙ roomy 0 0 (length w) (length o) (length q) (omega arith) (omega arith) (omega arith) in
          record {
            counted = nothing;
            answer = judged_passed _ (grown_by st nothing) _ k refl;
            first = λ z. refl;
            refusal_keeps = λ x e. absurd (accepted_refused e);
            kept = λ g e. first_kept;
            part = λ s left more is. first_part k left is;
          }
        where
          first_part : take_verdict st (length plane) (length work) nothing (length w) (length o) (length q) ≡ Passes → {s : List ℕ} → Left s st work → plane ≡ plane_of (size_in st) s st.planes
              → PartTaken (take_verdict st (length plane) (length work) nothing (length w) (length o) (length q)) s st nothing w o q work' w o q
          first_part k {s} left is =
              record {
                counts_are = ap (part_totals (size_in st) s st.cut) (sym none);
                words = over_nothing w (ap (part_words (size_in st) s st.cut) none) ∙ sym (written_passed _ _ w k);
                offsets = over_nothing o (ap (part_offsets (size_in st) s st.cut) none) ∙ sym (written_passed _ _ o k);
                quads = over_nothing q (ap (part_quads (size_in st) s st.cut) none) ∙ sym (written_passed _ _ q k);
                uncut = growth_is left is nothing (omega arith) (omega arith);
                left = λ p. first_left left is;
              }
            where
              over_nothing : {A : Type 0} (b : List A) {xs : List A} → xs ≡ [] → b ≡ over xs b
              over_nothing b h = rw h (none_over b)

              first_left : Left s st work → plane ≡ plane_of (size_in st) s st.planes → Left s (further st nothing) work'
              first_left left is = record {
                block = left.block;
                grey = left.grey;
                threshold = left.threshold;
                room = omega (arith, first_kept.work_long);
                in_block = omega arith;
                vertices_are = add-zero st.vertices ∙ left.vertices_are ∙ ap (layer_first loops_of (size_in st) s st.cut) before;
                quads_are = ap (λ (x : ℕ). 4 * x) (add-zero st.quads) ∙ left.quads_are ∙ ap (λ (k : ℕ). length (quads_up_to loops_of (size_in st) s st.cut X (plane_size (size_in st) * k)) + length (quads_up_to loops_of (size_in st) s st.cut Y (plane_size (size_in st) * k)) + length (quads_up_to loops_of (size_in st) s st.cut Z (plane_size (size_in st) * k))) before;
                plane = λ h i l. ap (λ (b : List ℕ). sample_in b i) keeps ∙ packed_sample plane work (plane_grey left is) i (omega arith) ∙ item left is i l ∙ ap (λ (k : ℕ). get_or s (plane_size (size_in st) * k + i) 0) here;
                tables = λ h. absurd (omega arith);
              }
                where
                  before : st.planes - 1 ≡ st.planes + 1 - 1
                  before = omega arith

                  here : st.planes ≡ st.planes + 1 - 1
                  here = omega arith

    -- ---- a further plane

    module _ (k : ℕ) (some : k + 1 ≡ st.planes) {r : Counted} {work' w' : List ℕ} {o' : List Float} {q' : List ℕ}
        (grown : Grown loops_of (record { size = size_in st; cut = st.cut; first = first_of st.vertices; k = k }) plane work w o q r work' w' o' q') where
      -- what is at hand is the block's
      module _ {s : List ℕ} (left : Left s st work) (is : plane ≡ plane_of (size_in st) s st.planes) where
        back : st.planes - 1 ≡ k
        back = omega arith

        shown : Shown (size_in st) k work plane s
        shown = record {
          samples = left.block.samples;
          lower = λ i h. sym (left.plane (omega arith) i h ∙ ap (λ (z : ℕ). get_or s (plane_size (size_in st) * z + i) 0) back);
          upper = λ i h. sym (item left is i h ∙ ap (λ (z : ℕ). get_or s (plane_size (size_in st) * z + i) 0) (sym some));
        }

        known : Known loops_of (size_in st) s st.cut k (first_of st.vertices) work
        known = record {
          first_is = sym (first_small st.vertices (left_few left).0) ∙ left.vertices_are ∙ ap (layer_first loops_of (size_in st) s st.cut) back;
          tables = λ h. subst (λ (z : ℕ). LayerTables loops_of (size_in st) s st.cut z work) (two h) (left.tables (omega arith));
        }
          where
            two : 0 < k → st.planes - 2 ≡ k - 1
            two h = omega arith

        abbrev layer : PartGrown loops_of (in_order (buffer_rows grown.counted (length w) (length o) (length q))) (size_in st) s st.cut k plane work' grown.counted w o q w' o' q'
        layer = grown.part s shown known

        next : suc k ≡ st.planes
        next = sym (add-one k) ∙ some

        -- the part is some of the mesh
        part_v : (layer_totals loops_of (size_in st) s st.cut k).vertices ≤ 66325500
        part_v =
            omega (
              arith,
              layer_first_next (size_in st) s st.cut k,
              vertices_le (size_in st) s st.cut (layer_size (size_in st) * (k + 1)) (in_cubes (st.nx - 1) (st.ny - 1) (st.nz - 1) (k + 1) (omega arith)),
              most_vertices loops_of (size_in st) s st.cut (cube_laws joined) left.block.limits,
            )

        plane_more : (a : Axis) → length (quads_up_to loops_of (size_in st) s st.cut a (plane_size (size_in st) * (k + 1))) ≡ length (quads_up_to loops_of (size_in st) s st.cut a (plane_size (size_in st) * k)) + length (plane_quads loops_of (size_in st) s st.cut a k)
        plane_more a = ap length (planes_quads_next (size_in st) s st.cut a k) ∙ length-append (quads_up_to loops_of (size_in st) s st.cut a (plane_size (size_in st) * k)) (plane_quads loops_of (size_in st) s st.cut a k)

        part_q : (layer_totals loops_of (size_in st) s st.cut k).quads ≤ 49354740
        part_q =
            omega (
              arith,
              quads_length (size_in st) s st.cut k,
              plane_more X,
              plane_more Y,
              plane_more Z,
              some_quads (size_in st) s st.cut X (k + 1) (omega arith),
              some_quads (size_in st) s st.cut Y (k + 1) (omega arith),
              some_quads (size_in st) s st.cut Z (k + 1) (omega arith),
              all_quads_lem (size_in st) s st.cut,
              most_quads loops_of (size_in st) s st.cut left.block.limits,
            )

        new_left : in_order (buffer_rows grown.counted (length w) (length o) (length q)) ≡ Passes → length work' ≡ length work → Left s (further st grown.counted) work'
        new_left p long = subst (λ (c : Totals). Left s (further st c) work') (sym layer.counts_are) (record {
          block = left.block;
          grey = left.grey;
          threshold = left.threshold;
          room = omega arith;
          in_block = omega arith;
          vertices_are = omega (arith, left.vertices_are, ap (layer_first loops_of (size_in st) s st.cut) back, layer_first_next (size_in st) s st.cut k, ap (layer_first loops_of (size_in st) s st.cut) here);
          quads_are = omega (arith, left.quads_are, ap before back, ap before here, quads_four (size_in st) s st.cut k, quads_length (size_in st) s st.cut k, plane_more X, plane_more Y, plane_more Z);
          plane = λ h i l. layer.front p (plane_grey left is) i l ∙ item left is i l ∙ ap (λ (z : ℕ). get_or s (plane_size (size_in st) * z + i) 0) there;
          tables = λ h. subst (λ (z : ℕ). LayerTables loops_of (size_in st) s st.cut z work') two (layer.noted p);
        })
          where
            here : k + 1 ≡ st.planes + 1 - 1
            here = omega arith

            there : st.planes ≡ st.planes + 1 - 1
            there = omega arith

            two : k ≡ st.planes + 1 - 2
            two = omega arith

            before : ℕ → ℕ
            before z =
                length (quads_up_to loops_of (size_in st) s st.cut X (plane_size (size_in st) * z)) + length (quads_up_to loops_of (size_in st) s st.cut Y (plane_size (size_in st) * z)) + length (quads_up_to loops_of (size_in st) s st.cut Z (plane_size (size_in st) * z))

      abbrev verdict : Checked
      verdict = take_verdict st (length plane) (length work) grown.counted (length w) (length o) (length q)

      decides : verdict ≡ in_order (buffer_rows grown.counted (length w) (length o) (length q))
      decides = late_decides grown.counted

      further_part : {s : List ℕ} → Left s st work → plane ≡ plane_of (size_in st) s st.planes → (verdict ≡ Passes → length work' ≡ length work) → PartTaken verdict s st grown.counted w o q work' w' o' q'
      further_part {s} left is long =
          let g = layer left is in
          record {
            counts_are = g.counts_are ∙ ap (part_totals (size_in st) s st.cut) (next left is);
            words = g.words ∙ ap₂ (λ (v : Checked) (z : ℕ). written v (part_words (size_in st) s st.cut z) w) (sym decides) (next left is);
            offsets = g.offsets ∙ ap₂ (λ (v : Checked) (z : ℕ). written v (part_offsets (size_in st) s st.cut z) o) (sym decides) (next left is);
            quads = g.quads ∙ ap₂ (λ (v : Checked) (z : ℕ). written v (part_quads (size_in st) s st.cut z) q) (sym decides) (next left is);
            uncut = growth_is left is grown.counted (omega (arith, ap (λ (t : Totals). t.vertices) g.counts_are, part_v left is)) (omega (arith, ap (λ (t : Totals). t.quads) g.counts_are, part_q left is));
            left = λ p. new_left left is (sym decides ∙ p) (long p);
          }

      -- rows 5 and 6 refuse
      pub taken_short : (x : Refusal) → r ≡ counted.Refused x → PlaneTaken st plane work w o q (taken.Refused x) work' w' o' q'
      taken_short x e =
          let v = refused_says _ _ x (sym (ap said_counts e) ∙ grown.answer) in
          record {
            counted = grown.counted;
            answer = judged_refused _ _ x (decides ∙ v);
            first = λ z. absurd (omega arith);
            refusal_keeps = λ y f. grown.refusal_keeps x v;
            kept = λ g f. absurd (accepted_refused (sym f));
            part = λ s left more is. further_part left is (λ p. absurd (passes_refuses (sym p ∙ decides ∙ v)));
          }

      -- they pass
      pub taken_further : (c : Totals) → r ≡ counted.Counts c → PlaneTaken st plane work w o q (taken.Wrote (grown_by st c)) work' w' o' q'
      taken_further c e =
          let a = accepted_says _ _ c (sym (ap said_counts e) ∙ grown.answer) in
          record {
            counted = grown.counted;
            answer = judged_passed _ (grown_by st c) _ (decides ∙ a.0) (ap (grown_by st) a.1);
            first = λ z. absurd (omega arith);
            refusal_keeps = λ x f. absurd (accepted_refused f);
            kept = λ g f. deeper (grown.kept a.0);
            part = λ s left more is. further_part left is (λ p. (grown.kept a.0).work_long);
          }
        where
          deeper : KeptBehind grown.counted.vertices (4 * grown.counted.quads) (3 * plane_size (size_in st)) w w' o o' q q' work work' → KeptBehind grown.counted.vertices (4 * grown.counted.quads) (6 * (st.nx * st.ny)) w w' o o' q q' work work'
          deeper h = record {
            words_long = h.words_long;
            offsets_long = h.offsets_long;
            quads_long = h.quads_long;
            work_long = h.work_long;
            words_behind = h.words_behind;
            offsets_behind = h.offsets_behind;
            quads_behind = h.quads_behind;
            work_behind = λ i l. h.work_behind i (omega arith);
          }

-- ---- what a layer requires is there

pub layer_ready : {st : Stream} {n : Size} → Sizes st n → (plane work : List ℕ) → in_order (later_rows st (length plane) (length work)) ≡ Passes → (first k : ℕ) → first ≤ 66325500 → k + 1 ≡ st.planes
    → LayerReady (record { size = n; cut = st.cut; first = first; k = k }) work plane
layer_ready {st} {n} z plane work e first k h some =
    let p = passed st (length plane) (length work) e in
    let all : plane_size n ≡ st.nx * st.ny = plane_is z refl refl in
    record {
      limits = z.limits;
      inside = omega (arith, p.1, ap (λ (m : Size). m.nz) z.is);
      threshold = p.0;
      few = h;
      plane_long = p.2 ∙ sym all;
      room = omega (arith, p.3);
    }

-- as the code makes it, the layer is the state's
pub grown_as : {st : Stream} {n : Size} → Sizes st n → {plane work w : List ℕ} {o : List Float} {q : List ℕ} {r : Counted} {work' w' : List ℕ} {o' : List Float} {q' : List ℕ} (first k : ℕ) → first ≡ first_of st.vertices
    → Grown loops_of (record { size = n; cut = st.cut; first = first; k = k }) plane work w o q r work' w' o' q'
    → Grown loops_of (record { size = size_in st; cut = st.cut; first = first_of st.vertices; k = k }) plane work w o q r work' w' o' q'
grown_as {st} {n} z {plane} {work} {w} {o} {q} {r} {work'} {w'} {o'} {q'} first k e h =
    subst (λ (m : Size). Grown loops_of (record { size = m; cut = st.cut; first = first_of st.vertices; k = k }) plane work w o q r work' w' o' q') z.is
    (subst (λ (f : ℕ). Grown loops_of (record { size = n; cut = st.cut; first = f; k = k }) plane work w o q r work' w' o' q') e h)

pub sized_limits : {st : Stream} {n : Size} → Sizes st n → Limits (size_in st)
sized_limits z = subst Limits z.is z.limits

-- the growth, told in another way
pub wrote_as : {st : Stream} {plane work w : List ℕ} {o : List Float} {q : List ℕ} {work' w' : List ℕ} {o' : List Float} {q' : List ℕ} {g h : Growth} → h ≡ g → PlaneTaken st plane work w o q (taken.Wrote g) work' w' o' q' → PlaneTaken st plane work w o q (taken.Wrote h) work' w' o' q'
wrote_as {st} {plane} {work} {w} {o} {q} {work'} {w'} {o'} {q'} e p = subst (λ (x : Growth). PlaneTaken st plane work w o q (taken.Wrote x) work' w' o' q') (sym e) p
