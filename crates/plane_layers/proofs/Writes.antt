-- The rows of a layer that are written one by one: the state before a row gives what the row requires, and the row leaves the state before the next.
-- Assumes nothing.
use Prim.Native.Nat.{ℕ, ◌+◌, ◌*◌, ◌-◌, ◌/◌, ◌%◌, ◌≤◌, ◌<◌}
use mathlib.Core.Path.{◌≡◌, refl, ap, ap₂, sym, ◌∙◌, subst}
use mathlib.Core.Logic.{◌⊎◌, inl, inr}
use mathlib.Core.List.{List, ◌++◌}
use native.Mathlib.Nat.{eq-or-lt_of_le, mul-le-mul, mul-le-mul_left}
use native.Mathlib.Omega.{arith}
use borrow.Rule.Slice.PartMut.{put_mid}
use lib.ListN.{length, get_or, take, drop}
use lib.Seq.{sets, get_or-take, get_or-drop}
use lib.Ieee.{Float}
use Rattle.laws.specs.Below.{below}
use Rattle.laws.proofs.Below.{length-below}
use Rattle.laws.proofs.Tests.{lt_or_ge}
use Rattle.block.specs.declared.Cut.{Cut}
use Rattle.block.specs.declared.Size.{Size}
use Rattle.block.specs.Numbering.{X, Y, Z}
use Rattle.cube_rule.specs.Decider.{loops_of}
use Rattle.mesh_rule.specs.Mesh.{vertices_before}
use Rattle.mesh_rule.specs.Layers.{plane_size, row_cube, run_masks}
use Rattle.quads.specs.Writing.{RowTable, row_quads}
use Rattle.layers.specs.declared.Marks.{Marks}
use Rattle.layers.specs.Steps.{half}
use Rattle.mesh.specs.Writes.{TablesReady, RowMore}
use Rattle.mesh.proofs.LayerSteps.{turn}
use Rattle.mesh.proofs.Regions.{first_more, second_more, third_more}
use Rattle.mesh.proofs.Writings.{store_next}
use Rattle.plane_layers.specs.declared.Layer.{Layer}
use Rattle.plane_layers.specs.Memory.{half_of, sample_in, Shown, table_at}
use Rattle.plane_layers.specs.Layer.{rows_masks, rows_words, rows_offsets, rows_x, rows_y, rows_z, RowsMarked, RowsWritten, Known, LayerReady, SignsReady, LayerCounted, StepReady, RowTaken, LayerRoomy, RowsDone, RowsState, LayerWritten}
use Rattle.plane_layers.proofs.Parts.{put_length, put_before, put_behind, put_in, part_at, part_long, numbered_as}
use Rattle.plane_layers.proofs.Rows.{below_next, rows_first, rows_words_length, rows_offsets_length, marked_none, marked_more, marked_all_few}
use Rattle.plane_layers.proofs.Shown.{made, made_shown}
use Rattle.plane_layers.proofs.Signed.{signed_same}

-- ---- a block's rows in the three buffers

module _ (n : Size) (s : List ℕ) (cut : Cut) (k : ℕ) where
  pub written_none : (y₀ z₀ : ℕ) (w : List ℕ) (o : List Float) (q : List ℕ) → RowsWritten loops_of n s cut k y₀ z₀ 0 w w o o q q
  unfolding below
  written_none y₀ z₀ w o q = record { words = refl; offsets = refl; quads = refl }

  pub written_more : {y₀ z₀ j : ℕ} {m m' : Marks} {w₀ w w' : List ℕ} {o₀ o o' : List Float} {q₀ q q' tab : List ℕ} → RowsMarked loops_of n s cut k y₀ z₀ j m
      → length (rows_x loops_of n s cut k j) + length (row_quads loops_of n s cut X k j) ≤ y₀ → y₀ + (length (rows_y loops_of n s cut k j) + length (row_quads loops_of n s cut Y k j)) ≤ z₀
      → RowsWritten loops_of n s cut k y₀ z₀ j w₀ w o₀ o q₀ q → RowMore loops_of n s cut j k m m' w w' o o' q q' tab → RowsWritten loops_of n s cut k y₀ z₀ (j + 1) w₀ w' o₀ o' q₀ q'
  written_more {y₀} {z₀} {j} {m} {m'} {w₀} {w} {w'} {o₀} {o} {o'} {q₀} {q} {q'} r hx hy done h = record {
    words = store_next w₀ w w' (rows_words loops_of n s cut k j) _ _ (2 * m.v) done.words (omega (arith, r.v_is, rows_words_length n s cut k j)) h.words (below_next _ j);
    offsets = store_next o₀ o o' (rows_offsets loops_of n s cut k j) _ _ (3 * m.v) done.offsets (omega (arith, r.v_is, rows_offsets_length n s cut k j)) h.offsets (below_next _ j);
    quads =
        h.quads_are
        ∙ ap (λ (l : List ℕ). sets (sets l m.y py) m.z pz) (ap₂ (λ (l : List ℕ) (i : ℕ). sets l i px) done.quads r.x_is ∙ first_more q₀ y₀ z₀ xs ys zs px hx (omega arith))
        ∙ ap (λ (l : List ℕ). sets l m.z pz) (ap (λ (i : ℕ). sets (sets (sets (sets q₀ 0 (xs ++ px)) y₀ ys) z₀ zs) i py) r.y_is ∙ second_more q₀ y₀ z₀ (xs ++ px) ys zs py (omega arith))
        ∙ ap (λ (i : ℕ). sets (sets (sets (sets q₀ 0 (xs ++ px)) y₀ (ys ++ py)) z₀ zs) i pz) r.z_is
        ∙ third_more q₀ y₀ z₀ (xs ++ px) (ys ++ py) zs pz
        ∙ all_same (sym (below_next _ j)) (sym (below_next _ j)) (sym (below_next _ j));
  }
    where
      xs : List ℕ
      xs = rows_x loops_of n s cut k j

      ys : List ℕ
      ys = rows_y loops_of n s cut k j

      zs : List ℕ
      zs = rows_z loops_of n s cut k j

      px : List ℕ
      px = row_quads loops_of n s cut X k j

      py : List ℕ
      py = row_quads loops_of n s cut Y k j

      pz : List ℕ
      pz = row_quads loops_of n s cut Z k j

      all_same : {a a' b b' c c' : List ℕ} → a ≡ a' → b ≡ b' → c ≡ c' → sets (sets (sets q₀ 0 a) y₀ b) z₀ c ≡ sets (sets (sets q₀ 0 a') y₀ b') z₀ c'
      all_same p q r = cc

-- ---- the place of a row's numbers

module _ (n : Size) (j : ℕ) where
  -- it is inside what is remembered
  pub table_in : j + 1 < n.ny → table_at n j + 2 * n.nx ≤ 3 * plane_size n
  table_in h = omega (arith, mul-le-mul_left n.nx (next h))
    where
      next : j + 1 < n.ny → j + 1 ≤ n.ny
      next q = omega arith

  pub table_later : (i : ℕ) → i < j → table_at n i + 2 * n.nx ≤ table_at n j
  table_later i h = omega (arith, mul-le-mul_left n.nx (next h))
    where
      next : i < j → i + 1 ≤ j
      next q = omega arith

-- ---- what was remembered, with some rows replaced

module _ (layer : Layer) (work₀ work : List ℕ) (long : length work ≡ length work₀) (front : (i : ℕ) → i < plane_size layer.size → get_or work i 0 ≡ get_or work₀ i 0) where
  pub ready_same : {plane : List ℕ} → LayerReady layer work₀ plane → LayerReady layer work plane
  ready_same r = record { limits = r.limits; inside = r.inside; threshold = r.threshold; few = r.few; plane_long = r.plane_long; room = omega (arith, r.room) }

  low_same : (i : ℕ) → i < plane_size layer.size → sample_in work i ≡ sample_in work₀ i
  low_same i h = ap (λ (x : ℕ). half_of x (i % 2)) (front (i / 2) (omega arith))

  pub signs_same : {plane a b : List ℕ} → SignsReady layer work₀ plane a b → SignsReady layer work plane a b
  signs_same {plane} {a} g = record {
    a_long = g.a_long;
    b_long = g.b_long;
    lower = signed_same layer.size.nx layer.size.ny (sample_in work₀) (sample_in work) layer.cut a (λ i h. sym (low_same i h)) g.lower;
    upper = g.upper;
  }

  pub shown_same : {plane s : List ℕ} → Shown layer.size layer.k work₀ plane s → Shown layer.size layer.k work plane s
  shown_same h = record { samples = h.samples; lower = λ i l. h.lower i l ∙ sym (low_same i l); upper = h.upper }

-- ---- the state before the first row

pub state_none : {layer : Layer} (y₀ z₀ : ℕ) {plane work w : List ℕ} {o : List Float} {q : List ℕ} (under tab : List ℕ) → length under ≡ 1024 → length tab ≡ 1024
    → RowsState loops_of layer y₀ z₀ plane work w o q under tab work w o q (record { v = 0; x = 0; y = y₀; z = z₀ }) 0
state_none {layer} y₀ z₀ {plane} {work} {w} {o} {q} under tab eu et = record {
  under_long = eu;
  tab_long = et;
  kept = record {
    words_long = refl;
    offsets_long = refl;
    quads_long = refl;
    work_long = refl;
    words_behind = λ i l. refl;
    offsets_behind = λ i l. refl;
    quads_behind = λ i l. refl;
    work_behind = λ i l. refl;
  };
  front = λ i l. refl;
  marked = λ s h. marked_none layer.size s layer.cut layer.k y₀ z₀;
  done = λ s h known. record {
    written = written_none layer.size s layer.cut layer.k y₀ z₀ w o q;
    below_before = λ a b. absurd (omega arith);
    before = λ a. absurd (omega arith);
    noted = λ i l. absurd (omega arith);
  };
}

-- ---- one row

module _ {layer : Layer} {t : Marks} {plane work₀ w₀ : List ℕ} {o₀ : List Float} {q₀ under tab work w : List ℕ} {o : List Float} {q : List ℕ} {m : Marks} {j : ℕ}
    (r : LayerReady layer work₀ plane) (counted : LayerCounted loops_of layer work₀ plane t) (room : LayerRoomy t w₀ o₀ q₀)
    (st : RowsState loops_of layer t.x (t.x + t.y) plane work₀ w₀ o₀ q₀ under tab work w o q m j) (hj : j + 1 < layer.size.ny) where
  abbrev n : Size
  n = layer.size

  abbrev rows : ℕ
  rows = layer.size.ny - 1

  abbrev some : List ℕ
  some = made layer.size layer.k work₀ plane

  shown₀ : Shown layer.size layer.k work₀ plane some
  shown₀ = made_shown layer.size layer.k work₀ plane r.inside

  -- how much a block's row has, by what was counted
  module _ {s : List ℕ} (h : Shown layer.size layer.k work₀ plane s) where
    v_room : m.v + length (run_masks loops_of n s layer.cut (row_cube n.nx n.ny j layer.k) (n.nx - 1)) ≤ t.v
    v_room = omega (arith, (st.marked s h).v_is, (counted s h).v_is, length-below (λ (i : ℕ). run_masks loops_of n s layer.cut (row_cube n.nx n.ny i layer.k) (n.nx - 1)) rows j (omega arith))

    x_room : length (rows_x loops_of n s layer.cut layer.k j) + length (row_quads loops_of n s layer.cut X layer.k j) ≤ t.x
    x_room = omega (arith, (counted s h).x_is, length-below (row_quads loops_of n s layer.cut X layer.k) rows j (omega arith))

    y_room : length (rows_y loops_of n s layer.cut layer.k j) + length (row_quads loops_of n s layer.cut Y layer.k j) ≤ t.y
    y_room = omega (arith, (counted s h).y_is, length-below (row_quads loops_of n s layer.cut Y layer.k) rows j (omega arith))

    z_room : length (rows_z loops_of n s layer.cut layer.k j) + length (row_quads loops_of n s layer.cut Z layer.k j) ≤ t.z
    z_room = omega (arith, (counted s h).z_is, length-below (row_quads loops_of n s layer.cut Z layer.k) rows j (omega arith))

  -- ---- the numbers below are fetched

  module _ (nx ny : ℕ) (ex : nx ≡ layer.size.nx) (ey : ny ≡ layer.size.ny) where
    abbrev at : ℕ
    at = nx * ny + 2 * (nx * j)

    abbrev h : ℕ
    h = 512 * (j % 2)

    abbrev p : ℕ
    p = 2 * nx

    ea : at ≡ table_at layer.size j
    ea = ap₂ (λ (x y : ℕ). x * y + 2 * (x * j)) ex ey

    pub in_work : at + p ≤ length work
    in_work = omega (arith, ea, table_in layer.size j hj, r.room, st.kept.work_long)

    pub in_half : h + p ≤ 1024
    in_half = omega (arith, r.limits.x_high)

    -- the code's numbers fit
    pub small : (nx * ny ≤ 65536) × (nx * j ≤ 65536) × (nx ≤ 256) × (at + p ≤ length work) × (h + p ≤ 1024)
    small =
        let x : nx ≤ 256 = omega (arith, r.limits.x_high) in
        let y : ny ≤ 256 = omega (arith, r.limits.y_high) in
        let z : j ≤ 256 = omega arith in
        (mul-le-mul x y, mul-le-mul x z, x, in_work, in_half)

    -- the part that is lent to be filled is as long as the part that is copied
    pub fetch_fits : length (take (at + p - at) (drop at work)) ≡ length (take (h + p - h) (drop h under))
    fetch_fits = part_long work at p in_work ∙ sym (part_long under h p (omega (arith, in_half, st.under_long)))

    pub keep_fits : (tab' : List ℕ) → length tab' ≡ 1024 → length (take (h + p - h) (drop h tab')) ≡ length (take (at + p - at) (drop at work))
    keep_fits tab' e = part_long tab' h p (omega (arith, in_half)) ∙ sym (part_long work at p in_work)

    module _ (fetched : List ℕ) (ef : fetched ≡ take (at + p - at) (drop at work)) where
      abbrev under' : List ℕ
      under' = put_mid h (h + p - h) under fetched

      fetched_long : length fetched ≡ p
      fetched_long = ap length ef ∙ part_long work at p in_work

      fits : length fetched ≡ h + p - h
      fits = omega (arith, fetched_long)

      pub under_long : length under' ≡ 1024
      under_long = put_length h (h + p) under fetched (omega arith) (omega (arith, in_half, st.under_long)) fits ∙ st.under_long

      -- in its half stand the numbers of row j of the layer below, and the other half is kept
      here : (x : ℕ) → x < 2 * (layer.size.nx - 1) → get_or (half j under') x 0 ≡ get_or (drop (table_at layer.size j) work₀) x 0
      here x l =
          get_or-take 512 (drop (512 * (j % 2)) under') x 0 (omega (arith, r.limits.x_high))
          ∙ get_or-drop (512 * (j % 2)) under' x 0
          ∙ put_in h (h + p) under fetched (omega arith) (omega (arith, in_half, st.under_long)) fits x (omega arith)
          ∙ ap (λ (l : List ℕ). get_or l x 0) ef
          ∙ part_at work at p x (omega arith)
          ∙ st.kept.work_behind (at + x) (omega (arith, ea))
          ∙ ap (λ (i : ℕ). get_or work₀ (i + x) 0) ea
          ∙ sym (get_or-drop (table_at layer.size j) work₀ x 0)

      there : (x : ℕ) → x < 2 * (layer.size.nx - 1) → get_or (half (j + 1) under') x 0 ≡ get_or (half (j + 1) under) x 0
      there x l =
          get_or-take 512 (drop (512 * ((j + 1) % 2)) under') x 0 (omega (arith, r.limits.x_high))
          ∙ get_or-drop (512 * ((j + 1) % 2)) under' x 0
          ∙ other (lt_or_ge (j % 2) 1)
          ∙ sym (get_or-drop (512 * ((j + 1) % 2)) under x 0)
          ∙ sym (get_or-take 512 (drop (512 * ((j + 1) % 2)) under) x 0 (omega (arith, r.limits.x_high)))
        where
          other : (j % 2 < 1) ⊎ (1 ≤ j % 2) → get_or under' (512 * ((j + 1) % 2) + x) 0 ≡ get_or under (512 * ((j + 1) % 2) + x) 0
          other (inl e) = put_behind h (h + p) under fetched (omega arith) (omega (arith, in_half, st.under_long)) fits (512 * ((j + 1) % 2) + x) (omega (arith, r.limits.x_high))
          other (inr e) = put_before h (h + p) under fetched (omega arith) (omega (arith, in_half, st.under_long)) fits (512 * ((j + 1) % 2) + x) (omega (arith, r.limits.x_high))

      -- what the row requires
      pub row_ready : StepReady loops_of layer work plane j m w o q under' tab
      row_ready = record {
        row = hj;
        under_long = under_long;
        tab_long = st.tab_long;
        block = some;
        shown = shown_same layer work₀ work st.kept.work_long st.front shown₀;
        room = record {
          words = omega (arith, v_room shown₀, room.words, st.kept.words_long);
          offsets = omega (arith, v_room shown₀, room.offsets, st.kept.offsets_long);
          few = omega (arith, v_room shown₀, r.few, marked_all_few n some layer.cut layer.k r.limits r.inside (less hj) (counted some shown₀));
          quads_x = omega (arith, (st.marked some shown₀).x_is, x_room shown₀, room.quads, st.kept.quads_long);
          quads_y = omega (arith, (st.marked some shown₀).y_is, y_room shown₀, room.quads, st.kept.quads_long);
          quads_z = omega (arith, (st.marked some shown₀).z_is, z_room shown₀, room.quads, st.kept.quads_long);
        };
      }
        where
          less : j + 1 < layer.size.ny → layer.size.ny - 1 < layer.size.ny
          less a = omega arith

      -- ---- the row is written, and its numbers are put back

      module _ {m' : Marks} {w' : List ℕ} {o' : List Float} {q' tab' : List ℕ} (taken : RowTaken loops_of layer work plane j m m' w w' o o' q q' under' tab tab')
          (own : List ℕ) (eo : own ≡ take (h + p - h) (drop h tab')) where
        abbrev work' : List ℕ
        work' = put_mid at (at + p - at) work own

        own_long : length own ≡ p
        own_long = ap length eo ∙ part_long tab' h p (omega (arith, in_half, taken.tab_long))

        own_fits : length own ≡ at + p - at
        own_fits = omega (arith, own_long)

        before_kept : (x : ℕ) → x < at → get_or work' x 0 ≡ get_or work x 0
        before_kept x l = put_before at (at + p) work own (omega arith) in_work own_fits x l

        -- a block's marks
        module _ {s : List ℕ} (sh : Shown layer.size layer.k work₀ plane s) where
          next_marked : RowsMarked loops_of n s layer.cut layer.k t.x (t.x + t.y) (j + 1) m'
          next_marked = marked_more n s layer.cut layer.k (st.marked s sh) (taken.moved s (shown_same layer work₀ work st.kept.work_long st.front sh))

          module _ (known : Known loops_of n s layer.cut layer.k layer.first work₀) where
            number : layer.first + m.v ≡ length (vertices_before loops_of n s layer.cut (row_cube n.nx n.ny j layer.k))
            number = omega (arith, known.first_is, (st.marked s sh).v_is, rows_first n s layer.cut layer.k j)

            tables : TablesReady loops_of n s layer.cut j layer.k under' tab
            tables = record {
              row = hj;
              under_long = under_long;
              tab_long = st.tab_long;
              below = λ lk. numbered_as (drop (table_at n j) work₀) (half j under') here (known.tables lk j hj);
              below_before = λ lj lk. numbered_as (half (j + 1) under) (half (j + 1) under') there ((st.done s sh known).below_before lj lk);
              before = (st.done s sh known).before;
            }

            more : RowMore loops_of n s layer.cut j layer.k m m' w w' o o' q q' tab'
            more = taken.more s (shown_same layer work₀ work st.kept.work_long st.front sh) number tables

            noted_here : RowTable loops_of n s layer.cut j layer.k (drop (table_at n j) work')
            noted_here = numbered_as (half j tab') (drop (table_at n j) work') same more.noted
              where
                same : (x : ℕ) → x < 2 * (layer.size.nx - 1) → get_or (drop (table_at n j) work') x 0 ≡ get_or (half j tab') x 0
                same x l =
                    get_or-drop (table_at n j) work' x 0
                    ∙ ap (λ (i : ℕ). get_or work' (i + x) 0) (sym ea)
                    ∙ put_in at (at + p) work own (omega arith) in_work own_fits x (omega arith)
                    ∙ ap (λ (l : List ℕ). get_or l x 0) eo
                    ∙ part_at tab' h p x (omega arith)
                    ∙ sym (get_or-drop (512 * (j % 2)) tab' x 0)
                    ∙ sym (get_or-take 512 (drop (512 * (j % 2)) tab') x 0 (omega (arith, r.limits.x_high)))

            noted_all : (i : ℕ) → i < j + 1 → RowTable loops_of n s layer.cut i layer.k (drop (table_at n i) work')
            noted_all i l = go (eq-or-lt_of_le (le_of l))
              where
                le_of : i < j + 1 → i ≤ j
                le_of a = omega arith

                same : i < j → (x : ℕ) → x < 2 * (layer.size.nx - 1) → get_or (drop (table_at n i) work') x 0 ≡ get_or (drop (table_at n i) work) x 0
                same a x b = get_or-drop (table_at n i) work' x 0 ∙ before_kept (table_at n i + x) (omega (arith, ea, table_later n j i a)) ∙ sym (get_or-drop (table_at n i) work x 0)

                go : (i ≡ j) ⊎ (i < j) → RowTable loops_of n s layer.cut i layer.k (drop (table_at n i) work')
                go (inl e) = subst (λ (y : ℕ). RowTable loops_of n s layer.cut y layer.k (drop (table_at n y) work')) (sym e) noted_here
                go (inr a) = numbered_as (drop (table_at n i) work) (drop (table_at n i) work') (same a) ((st.done s sh known).noted i a)

            behind : j ≡ j + 1 - 1
            behind = omega arith

            next_done : RowsDone loops_of layer s t.x (t.x + t.y) w₀ o₀ q₀ under' tab' work' w' o' q' (j + 1)
            next_done = record {
              written = written_more n s layer.cut layer.k (st.marked s sh) (x_room sh) (omega (arith, y_room sh)) (st.done s sh known).written more;
              below_before = λ a lk. subst (λ (i : ℕ). RowTable loops_of n s layer.cut i (layer.k - 1) (half (j + 1 + 1) under')) behind (subst (RowTable loops_of n s layer.cut j (layer.k - 1)) (turn j under') (tables.below lk));
              before = λ a. subst (λ (i : ℕ). RowTable loops_of n s layer.cut i layer.k (half (j + 1 + 1) tab')) behind (subst (RowTable loops_of n s layer.cut j layer.k) (turn j tab') more.noted);
              noted = noted_all;
            }

        -- the marks of some block, for what stands behind them
        grown : m.v ≤ m'.v
        grown = omega (arith, (taken.moved some (shown_same layer work₀ work st.kept.work_long st.front shown₀)).v_is)

        pub state_more : length w' ≡ length w → length o' ≡ length o → length q' ≡ length q → RowsState loops_of layer t.x (t.x + t.y) plane work₀ w₀ o₀ q₀ under' tab' work' w' o' q' m' (j + 1)
        state_more lw lo lq = record {
          under_long = under_long;
          tab_long = taken.tab_long;
          kept = record {
            words_long = lw ∙ st.kept.words_long;
            offsets_long = lo ∙ st.kept.offsets_long;
            quads_long = lq ∙ st.kept.quads_long;
            work_long = put_length at (at + p) work own (omega arith) in_work own_fits ∙ st.kept.work_long;
            words_behind = λ i l. taken.words_behind i l ∙ st.kept.words_behind i (omega (arith, grown));
            offsets_behind = λ i l. taken.offsets_behind i l ∙ st.kept.offsets_behind i (omega (arith, grown));
            quads_behind = λ i l.
                taken.quads_behind i (omega (arith, moved_x, moved_z)) (omega (arith, moved_y, moved_z)) l
                ∙ st.kept.quads_behind i (omega (arith, further));
            work_behind = λ i l. put_behind at (at + p) work own (omega arith) in_work own_fits i (omega (arith, ea)) ∙ st.kept.work_behind i (omega arith);
          };
          front = λ i l. before_kept i (omega (arith, ea)) ∙ st.front i l;
          marked = λ s sh. next_marked sh;
          done = λ s sh known. next_done sh known;
        }
          where
            moved_x : m'.x ≤ t.x
            moved_x = omega (arith, (taken.moved some (shown_same layer work₀ work st.kept.work_long st.front shown₀)).x_is, (st.marked some shown₀).x_is, x_room shown₀)

            moved_y : m'.y ≤ t.x + t.y
            moved_y = omega (arith, (taken.moved some (shown_same layer work₀ work st.kept.work_long st.front shown₀)).y_is, (st.marked some shown₀).y_is, y_room shown₀)

            moved_z : t.x + t.y ≤ m'.z
            moved_z = omega (arith, (next_marked shown₀).z_is)

            further : m.z ≤ m'.z
            further = omega (arith, (taken.moved some (shown_same layer work₀ work st.kept.work_long st.front shown₀)).z_is)

-- ---- all rows

pub state_all : {layer : Layer} {t : Marks} {plane work₀ w₀ : List ℕ} {o₀ : List Float} {q₀ under tab work w : List ℕ} {o : List Float} {q : List ℕ} {m : Marks} {j : ℕ}
    → LayerReady layer work₀ plane → LayerCounted loops_of layer work₀ plane t → j ≡ layer.size.ny - 1 → RowsState loops_of layer t.x (t.x + t.y) plane work₀ w₀ o₀ q₀ under tab work w o q m j
    → LayerWritten loops_of layer t plane work₀ work w₀ w o₀ o q₀ q
state_all {layer} {t} {plane} {work₀} {w₀} {o₀} {q₀} {under} {tab} {work} {w} {o} {q} {m} {j} r counted e st = record {
  kept = record {
    words_long = st.kept.words_long;
    offsets_long = st.kept.offsets_long;
    quads_long = st.kept.quads_long;
    work_long = st.kept.work_long;
    words_behind = λ i l. st.kept.words_behind i (omega (arith, all_v));
    offsets_behind = λ i l. st.kept.offsets_behind i (omega (arith, all_v));
    quads_behind = λ i l. st.kept.quads_behind i (omega (arith, all_z));
    work_behind = λ i l. st.kept.work_behind i (omega (arith, last));
  };
  written = λ s h known. subst (λ (i : ℕ). RowsWritten loops_of layer.size s layer.cut layer.k t.x (t.x + t.y) i w₀ w o₀ o q₀ q) e (st.done s h known).written;
  noted = λ s h known i l. (st.done s h known).noted i (omega arith);
}
  where
    shown : Shown layer.size layer.k work₀ plane (made layer.size layer.k work₀ plane)
    shown = made_shown layer.size layer.k work₀ plane r.inside

    all_v : m.v ≡ t.v
    all_v = (st.marked _ shown).v_is ∙ ap (λ (i : ℕ). length (rows_masks loops_of layer.size (made layer.size layer.k work₀ plane) layer.cut layer.k i)) e ∙ sym (counted _ shown).v_is

    counted_z : t.z ≡ length (rows_z loops_of layer.size (made layer.size layer.k work₀ plane) layer.cut layer.k (layer.size.ny - 1))
    counted_z = omega (arith, (counted _ shown).z_is)

    all_z : m.z ≡ t.x + t.y + t.z
    all_z = (st.marked _ shown).z_is ∙ ap (λ (i : ℕ). t.x + t.y + length (rows_z loops_of layer.size (made layer.size layer.k work₀ plane) layer.cut layer.k i)) e ∙ ap (λ (i : ℕ). t.x + t.y + i) (sym (counted_z))

    last : table_at layer.size j ≤ 3 * plane_size layer.size
    last = omega (arith, mul-le-mul_left layer.size.nx (less e))
      where
        less : j ≡ layer.size.ny - 1 → j ≤ layer.size.ny
        less q = omega arith
