-- A row without an active cube starts no quad and has no vertex, so nothing is written and no mark is moved. Assumes nothing.
use Prim.Native.Nat.{ℕ, ◌+◌, ◌*◌, ◌-◌, ◌/◌, ◌%◌, ◌^◌, ◌<◌}
use mathlib.Core.Path.{◌≡◌, refl, ap, sym, ◌∙◌}
use mathlib.Core.Bool.{Bool, true, false, cond}
use mathlib.Core.List.{List, []}
use native.Mathlib.Nat.{zero-add}
use native.Mathlib.Omega.{arith}
use lib.Bits.{bit_and, and_zero_l}
use lib.ListN.{length, get_or}
use lib.Seq.{sets}
use lib.Ieee.{Float}
use Rattle.laws.specs.Below.{below}
use Rattle.laws.specs.Bits.{bit, holds}
use Rattle.laws.proofs.Visit.{below_skip, below_none}
use Rattle.laws.proofs.Words.{or_quiet, and_digit, digit_holds}
use Rattle.block.specs.declared.Cut.{Cut}
use Rattle.cube_rule.specs.Laws.{CubeLaws}
use Rattle.cube_rule.specs.Links.{Decider}
use Rattle.planes.specs.Planes.{eight_of, active_of, unlike, along_x, along_y, along_z, limit_of, inner_of}
use Rattle.rows.specs.declared.Row.{Row}
use Rattle.rows.specs.Quiet.{quiet_row}
use Rattle.rows.specs.Rows.{loops_at, picked, row_masks, RowReady}
use Rattle.rows.proofs.Quiets.{quiet_bit, quiet_loops, quiet_all}
use Rattle.rows.proofs.Visits.{bits_of, picked_unset}
use Rattle.quads.specs.declared.Along.{Along}
use Rattle.quads.specs.declared.Along.TheVariants.{AxisX, AxisY, AxisZ}
use Rattle.quads.specs.Edges.{edges_of}
use Rattle.quads.specs.Writing.{edge_of, back_of, order_sign, word_by, row_by}
use Rattle.quads.proofs.RowQuads.{edge_in}
use Rattle.cube_vertices.specs.Cubes.{names_at, words_at, offsets_at}
use Rattle.vertices.specs.Layers.{row_words, row_offsets}
use Rattle.layers.specs.declared.Marks.{Marks}
use Rattle.layers.specs.Steps.{half, has_quads, step_by, RowStepped, RowCounted}

-- nothing at any place is nothing
nothing : {A : Type 0} {f : ℕ → List A} {m : ℕ} → ((x : ℕ) → x < m → f x ≡ []) → below f m ≡ []
nothing {A} {f} {m} e = ap (below f) (sym (zero-add m)) ∙ below_skip f 0 m (λ x l. ap f (zero-add x) ∙ e x l) ∙ below_none f

-- and so is nothing picked by a word without a bit
nothing_picked : {A : Type 0} (d : ℕ) (f : ℕ → List A) → ((i : ℕ) → i < 64 → bits_of d i ≡ 0) → below (picked d f) 64 ≡ []
nothing_picked d f e = nothing (λ i h. picked_unset d f i (e i h))

-- no list, no place more, and nothing stored
none : {A : Type 0} (n : ℕ) {xs : List A} → xs ≡ [] → n ≡ n + length xs
none n e = rw e (omega arith)

unset : {A : Type 0} (l : List A) (i : ℕ) {xs : List A} → xs ≡ [] → l ≡ sets l i xs
unset l i e = rw e

-- ---- the quads

module _ (a b : List ℕ) (nx j : ℕ) (q : quiet_row a b nx j ≡ true) where
  -- the plane that holds the upper ends of the edges along an axis
  abbrev upper : Along → List ℕ
  upper AxisX = a
  upper AxisY = a
  upper AxisZ = b

  -- the corner of a cube at the other end of the edge along an axis from corner 0
  abbrev ahead : Along → ℕ
  ahead AxisX = 1
  ahead AxisY = 2
  ahead AxisZ = 4

  -- both ends are alike where the cube is not active
  alike : (along : Along) (e : List ℕ) (i : ℕ) → active_of e / 2 ^ i % 2 ≡ 0 → unlike e (ahead along) / 2 ^ i % 2 ≡ 0
  unfolding active_of
  alike AxisX e i z = (or_quiet (unlike e 1) _ i z).0
  alike AxisY e i z = (or_quiet (unlike e 2) _ i (or_quiet (unlike e 1) _ i z).1).0
  alike AxisZ e i z = (or_quiet (unlike e 4) _ i (or_quiet (unlike e 3) _ i (or_quiet (unlike e 2) _ i (or_quiet (unlike e 1) _ i z).1).1).1).0

  -- an edge whose ends are alike is not crossed
  masked : (d m i : ℕ) → d / 2 ^ i % 2 ≡ 0 → bit_and d m / 2 ^ i % 2 ≡ 0
  masked d m i z = and_digit d m i ∙ ap (λ (x : ℕ). bit_and x (m / 2 ^ i % 2)) z ∙ and_zero_l (m / 2 ^ i % 2)

  uncrossed : (along : Along) (w i : ℕ) → unlike (eight_of a b (5 * j + w)) (ahead along) / 2 ^ i % 2 ≡ 0 → bits_of (edges_of along a (upper along) nx j w) i ≡ 0
  unfolding edges_of eight_of
  uncrossed AxisX w i z = masked (along_x a (5 * j + w)) (limit_of (nx - 1) w) i z
  uncrossed AxisY w i z = masked (along_y a (5 * j + w)) (inner_of nx w) i z
  uncrossed AxisZ w i z = masked (along_z a b (5 * j + w)) (inner_of nx w) i z

  no_edge : (along : Along) (w i : ℕ) → i < 64 → bits_of (edges_of along a (upper along) nx j w) i ≡ 0
  no_edge along w i h = go (holds (edges_of along a (upper along) nx j w) i) refl
    where
      go : (t : Bool) → holds (edges_of along a (upper along) nx j w) i ≡ t → bits_of (edges_of along a (upper along) nx j w) i ≡ 0
      go true t = uncrossed along w i (alike along (eight_of a b (5 * j + w)) i (quiet_bit a b nx j q w i h (omega (arith, (edge_in along a (upper along) nx j w i h t).1))))
      go false t = digit_holds (edges_of along a (upper along) nx j w) i ∙ ap bit t

  no_word : (along : Along) (n0 n1 n2 n3 : List ℕ) (w : ℕ)
      → word_by (edge_of along) (back_of along) (order_sign along) n0 n1 n2 n3 (edges_of along a (upper along) nx j w) (get_or a (5 * j + w) 0) (64 * w) ≡ []
  no_word along n0 n1 n2 n3 w = nothing_picked (edges_of along a (upper along) nx j w) _ (no_edge along w)

  no_row : (along : Along) (n0 n1 n2 n3 : List ℕ) → row_by along a (upper along) nx j n0 n1 n2 n3 ≡ []
  no_row along n0 n1 n2 n3 = nothing (λ w l. no_word along n0 n1 n2 n3 w)

  -- so the row starts none
  pub no_step : (along : Along) (lower : Bool) (n0 n1 n2 n3 : List ℕ) → step_by along a (upper along) nx j lower n0 n1 n2 n3 ≡ []
  no_step along lower n0 n1 n2 n3 = go (has_quads along j lower)
    where
      go : (t : Bool) → cond t (row_by along a (upper along) nx j n0 n1 n2 n3) [] ≡ []
      go true = no_row along n0 n1 n2 n3
      go false = refl

-- ---- the row

module _ {D : Decider} {loops_of : Cut → List ℕ → List ℕ} (laws : CubeLaws D loops_of) {lo hi : List ℕ} (row : Row) {a b : List ℕ} (ready : RowReady lo hi row.cut a b row.nx row.j)
    (q : true ≡ quiet_row a b row.nx row.j) where
  -- a cube without a loop has no word and no offset
  no_names : (x : ℕ) → x < row.nx - 1 → names_at loops_of lo hi row.cut row.nx x ≡ []
  no_names x l = rw (quiet_loops laws ready (sym q) x l)

  no_masks : row_masks loops_of lo hi row.cut row.nx ≡ []
  no_masks = quiet_all laws ready (sym q) (loops_at loops_of lo hi row.cut row.nx) (λ x e. e)

  no_words : row_words loops_of lo hi row.cut row.nx row.c ≡ []
  no_words = quiet_all laws ready (sym q) (λ (x : ℕ). words_at loops_of lo hi row.cut row.nx (row.c + x) x) (λ x e. rw e)

  no_offsets : row_offsets loops_of lo hi row.cut row.nx ≡ []
  no_offsets = quiet_all laws ready (sym q) (offsets_at loops_of lo hi row.cut row.nx) (λ x e. rw e)

  -- no mark is moved
  pub quiet_counted : (m : Marks) → RowCounted loops_of lo hi row a b m m
  quiet_counted m = record {
    v_is = none m.v no_masks;
    x_is = none m.x (no_step a b row.nx row.j (sym q) AxisX row.lower [] [] [] []);
    y_is = none m.y (no_step a b row.nx row.j (sym q) AxisY row.lower [] [] [] []);
    z_is = none m.z (no_step a b row.nx row.j (sym q) AxisZ row.lower [] [] [] []);
  }

  -- nothing is written
  pub quiet_stepped : (below : List ℕ) (m : Marks) (words : List ℕ) (offsets : List Float) (quads here : List ℕ) → length here ≡ 1024
      → RowStepped loops_of lo hi row a b below m words words offsets offsets quads quads here here m
  quiet_stepped below m words offsets quads here long =
      let j = row.j in
      let xs = no_step a b row.nx j (sym q) AxisX row.lower (half (j + 1) below) (half j below) (half j here) (half (j + 1) here) in
      let ys = no_step a b row.nx j (sym q) AxisY row.lower (half j below) (half j below) (half j here) (half j here) in
      let zs = no_step a b row.nx j (sym q) AxisZ row.lower (half (j + 1) here) (half (j + 1) here) (half j here) (half j here) in
      record {
        long = long;
        prev_kept = refl;
        written = record {
          stored = record {
            number = none m.v no_masks;
            words_are = unset words (2 * m.v) no_words;
            offsets_are = unset offsets (3 * m.v) no_offsets;
            two = rw (no_words, no_masks);
            three = rw (no_offsets, no_masks);
          };
          noted = record {
            long = refl;
            before = λ p l. refl;
            behind = λ p l. refl;
            first = λ y l. rw (no_names y l);
            which = λ y l. rw (no_names y l);
          };
        };
        more = record {
          x_is = none m.x xs;
          y_is = none m.y ys;
          z_is = none m.z zs;
          quads_are = rw (xs, ys, zs);
        };
      }
