-- One row of one layer of a block: what counting and writing it require is there, and what they give is what the block has there.
-- Assumes nothing.
use Prim.Native.Nat.{ℕ, ◌+◌, ◌*◌, ◌-◌, ◌≤◌, ◌<◌}
use mathlib.Core.Path.{◌≡◌, refl, ap, sym, ◌∙◌, subst}
use mathlib.Core.Logic.{◌⊎◌, inl, inr}
use mathlib.Core.Bool.{Bool, true, false, true≢false, cond, ◌&&◌}
use mathlib.Core.List.{List, []}
use native.Mathlib.Omega.{arith}
use borrow.Author.Tests.{ltb-true, lt-ltb}
use lib.Dec.{ltb}
use lib.ListN.{length}
use lib.Seq.{sets}
use lib.Ieee.{Float}
use Rattle.laws.proofs.Tests.{and_both, lt_or_ge}
use Rattle.block.specs.declared.Cut.{Cut}
use Rattle.block.specs.declared.Size.{Size}
use Rattle.block.specs.declared.Checked.TheVariants.{Passes}
use Rattle.block.specs.Numbering.{Axis, X, Y, Z}
use Rattle.block.specs.Rows.{threshold_row}
use Rattle.block.specs.Size.{Limits}
use Rattle.cube_rule.specs.Decider.{joined, loops_of}
use Rattle.cube_rule.proofs.Laws.{cube_laws}
use Rattle.mesh_rule.specs.Layers.{row_cube, run_masks}
use Rattle.mesh_rule.specs.Grid.{corners_of, between}
use Rattle.mesh_rule.specs.Mesh.{cube_loops, vertices_before}
use Rattle.mesh_rule.proofs.Counts.{most_vertices}
use Rattle.cube_vertices.specs.Cubes.{names_by}
use Rattle.vertices.specs.Layers.{Ready, RowRoom}
use Rattle.rows.specs.Rows.{RowReady}
use Rattle.notes.specs.Tables.{Numbered}
use Rattle.notes.proofs.Notes.{numbered}
use Rattle.vertices.proofs.CubeCorners.{Windows}
use Rattle.vertices.proofs.Layers.{row_bounds, row_ready, masks_are, words_are, offsets_are, numbers_are}
use Rattle.quads.specs.declared.Along.{Along}
use Rattle.quads.specs.declared.Along.TheVariants.{AxisX, AxisY, AxisZ}
use Rattle.quads.specs.Edges.{along_axis, first_row, RowIn, Planes}
use Rattle.quads.specs.Writing.{RowTable, RingTables, row_by, row_quads}
use Rattle.quads.proofs.Crossed.{crossed_first, planes_x, planes_y, planes_z}
use Rattle.quads.proofs.RowQuads.{row_count, row_is}
use Rattle.layers.specs.declared.Marks.{Marks}
use Rattle.rows.specs.declared.Row.{Row}
use Rattle.layers.specs.Steps.{half, has_quads, step_by, RowFits, QuadsReady, RowStepped, RowFew, RowCounted}
use Rattle.layers.proofs.Halves.{half_long}
use Rattle.layers.proofs.Steps.{step_counts}
use Rattle.mesh.specs.Answer.{vertex_count}
use Rattle.mesh.specs.Steps.{row_of, Counting, RowMoved}
use Rattle.mesh.specs.Writes.{TablesReady, Underway, RowRoomy, RowMore}
use Rattle.mesh.proofs.Planes.{Outer, outer_inner, end_first}
use Rattle.mesh.proofs.Rows.{row_empty, quads_room, vertices_room}
use Rattle.mesh.proofs.Tallies.{all_quads_lem, marked_row, counting_few}
use Rattle.mesh.proofs.Writings.{words_kept, offsets_kept, quads_kept}

zero_of : (n : ℕ) → ltb 0 n ≡ false → n ≡ 0
zero_of n e = go (lt_or_ge 0 n)
  where
    go : (0 < n) ⊎ (n ≤ 0) → n ≡ 0
    go (inl l) = absurd (true≢false (sym (lt-ltb 0 n l) ∙ e))
    go (inr g) = omega arith

-- ---- the quads of a row, along each axis

module _ {n : Size} {s : List ℕ} {cut : Cut} {a b : List ℕ} {k : ℕ} (r : Ready n s cut a b k) (j : ℕ) (hj : j + 1 < n.ny) where
  -- the signs of the plane above where the edges run up to it
  abbrev above : Along → List ℕ
  above AxisX = a
  above AxisY = a
  above AxisZ = b

  -- there are inner edges from the row
  has_planes : (along : Along) → has_quads along j (ltb 0 k) ≡ true → Planes n s cut (along_axis along) k a (above along) × RowIn n along j
  has_planes AxisX e =
      let t = and_both (ltb 0 j) (ltb 0 k) e in
      (planes_x n s cut k a r.limits (ltb-true 0 k t.1) r.inside r.lower, (ltb-true 0 j t.0, hj))
  has_planes AxisY e = (planes_y n s cut k a r.limits (ltb-true 0 k e) r.inside r.lower, (omega arith, hj))
  has_planes AxisZ e = (planes_z n s cut k a r.limits b r.inside r.lower r.upper, (ltb-true 0 j e, hj))

  -- none from the first row and the first plane
  none_row : (along : Along) → 1 ≤ first_row along → ltb 0 j ≡ false → row_quads loops_of n s cut (along_axis along) k j ≡ []
  none_row along f e = row_empty n s cut (along_axis along) j k (λ x. crossed_first n s cut along x j k (omega (arith, zero_of j e)))

  none_plane : (axis : Axis) → Outer n s cut axis k → row_quads loops_of n s cut axis k j ≡ []
  none_plane axis o = row_empty n s cut axis j k (λ x. rw (outer_inner n s cut axis x j k o))

  outer_first : ltb 0 k ≡ false → between n.nz k ≡ false
  outer_first e = rw (zero_of k e) (end_first n.nz)

  has_none : (along : Along) → has_quads along j (ltb 0 k) ≡ false → row_quads loops_of n s cut (along_axis along) k j ≡ []
  has_none AxisX e = go (ltb 0 j) refl
    where
      go : (p : Bool) → ltb 0 j ≡ p → row_quads loops_of n s cut X k j ≡ []
      go false f = none_row AxisX (omega arith) f
      go true f = none_plane X (outer_first (ap (λ (t : Bool). t && ltb 0 k) (sym f) ∙ e))
  has_none AxisY e = none_plane Y (outer_first e)
  has_none AxisZ e = none_row AxisZ (omega arith) e

  -- how many there are, whatever the tables say
  pub step_count : (along : Along) → length (step_by along a (above along) n.nx j (ltb 0 k) [] [] [] []) ≡ length (row_quads loops_of n s cut (along_axis along) k j)
  step_count along = go (has_quads along j (ltb 0 k)) refl
    where
      go : (t : Bool) → has_quads along j (ltb 0 k) ≡ t → length (cond t (row_by along a (above along) n.nx j [] [] [] []) []) ≡ length (row_quads loops_of n s cut (along_axis along) k j)
      go true e = let p = has_planes along e in row_count loops_of n s cut along j k a (above along) p.0 p.1 [] [] [] []
      go false e = sym (ap length (has_none along e))

  -- and what they are
  pub step_is : (along : Along) {n0 n1 n2 n3 : List ℕ} → (has_quads along j (ltb 0 k) ≡ true → RingTables loops_of n s cut along j k n0 n1 n2 n3)
      → step_by along a (above along) n.nx j (ltb 0 k) n0 n1 n2 n3 ≡ row_quads loops_of n s cut (along_axis along) k j
  step_is along {n0} {n1} {n2} {n3} ring = go (has_quads along j (ltb 0 k)) refl
    where
      go : (t : Bool) → has_quads along j (ltb 0 k) ≡ t → cond t (row_by along a (above along) n.nx j n0 n1 n2 n3) [] ≡ row_quads loops_of n s cut (along_axis along) k j
      go true e = let p = has_planes along e in row_is (cube_laws joined) n s cut along j k a (above along) p.0 p.1 n0 n1 n2 n3 (ring e)
      go false e = sym (has_none along e)

  -- ---- the row

  pub row_fits : (first : ℕ) → RowFits (row_of n cut first j k) a b
  row_fits first = record {
    short = r.limits.x_low;
    long = r.limits.x_high;
    inside = omega (arith, r.limits.y_high);
    a_long = r.lower.room;
    b_long = r.upper.room;
  }

  -- its counts are those that the block has there
  pub row_moved : (first : ℕ) {lo hi : List ℕ} → Windows n s j k lo hi → {m m' : Marks} → RowCounted loops_of lo hi (row_of n cut first j k) a b m m' → RowMoved loops_of n s cut j k m m'
  row_moved first p {m} h = record {
    v_is = h.v_is ∙ ap (λ (ms : List ℕ). m.v + length ms) (masks_are loops_of p cut hj);
    x_is = h.x_is ∙ ap (λ (l : ℕ). m.x + l) (step_count AxisX);
    y_is = h.y_is ∙ ap (λ (l : ℕ). m.y + l) (step_count AxisY);
    z_is = h.z_is ∙ ap (λ (l : ℕ). m.z + l) (step_count AxisZ);
  }

  module _ {lo hi : List ℕ} (p : Windows n s j k lo hi) {first : ℕ} (row : Row) (e : row ≡ row_of n cut first j k) {m : Marks} (c : Counting loops_of n s cut j k m) where
    pub counts_ready : RowReady lo hi row.cut a b row.nx row.j × RowFits row a b × RowFew m
    counts_ready =
        subst (λ (x : Row). RowReady lo hi x.cut a b x.nx x.j × RowFits x a b × RowFew m) (sym e)
        (row_ready r hj p, row_fits first, counting_few n s cut j k r.limits hj r.inside c)

    pub counts_next : {m' : Marks} → RowCounted loops_of lo hi row a b m m' → Counting loops_of n s cut (j + 1) k m'
    counts_next {m'} h = marked_row n s cut 0 0 j k (omega arith) c (row_moved first p (subst (λ (x : Row). RowCounted loops_of lo hi x a b m m') e h))

-- ---- a row that is written, where the vertex with the number `first` stands first in the buffers

-- what it requires: room for it, whatever the tables say
module _ {n : Size} {s : List ℕ} {cut : Cut} {a b : List ℕ} {j k : ℕ} (r : Ready n s cut a b k) (hj : j + 1 < n.ny) (ok : threshold_row cut ≡ Passes)
    {first : ℕ} {m : Marks} {w : List ℕ} {o : List Float} {q : List ℕ} (room : RowRoomy loops_of n s cut j k first m w o q)
    (under tab : List ℕ) (under_long : length under ≡ 1024) (tab_long : length tab ≡ 1024) where
  vertex_room : {lo hi : List ℕ} → Windows n s j k lo hi → RowRoom loops_of lo hi cut n.nx (row_cube n.nx n.ny j k) first m.v w o (half j tab)
  vertex_room {lo} {hi} p =
      let count = ap length (masks_are loops_of p cut hj) in
      record {
        small = omega (arith, row_bounds n n.nx n.ny j k r.limits refl refl hj r.inside);
        threshold = ok;
        words_room = omega (arith, count, room.words);
        offsets_room = omega (arith, count, room.offsets);
        numbers_room = half_long j tab tab_long;
        few = omega (arith, count, room.few);
      }

  quad_room : QuadsReady (row_of n cut first j k) a b under m (length q)
  quad_room = record {
    fits = row_fits r j hj first;
    below_long = under_long;
    room_x = omega (arith, step_count r j hj AxisX, room.quads_x);
    room_y = omega (arith, step_count r j hj AxisY, room.quads_y);
    room_z = omega (arith, step_count r j hj AxisZ, room.quads_z);
  }

  pub step_ready : {lo hi : List ℕ} → Windows n s j k lo hi → (row : Row) → row ≡ row_of n cut first j k
      → RowReady lo hi row.cut a b row.nx row.j × RowRoom loops_of lo hi row.cut row.nx row.c row.first m.v w o (half row.j tab) × QuadsReady row a b under m (length q) × (length tab ≡ 1024)
  step_ready {lo} {hi} p row e =
      subst (λ (x : Row). RowReady lo hi x.cut a b x.nx x.j × RowRoom loops_of lo hi x.cut x.nx x.c x.first m.v w o (half x.j tab) × QuadsReady x a b under m (length q) × (length tab ≡ 1024)) (sym e)
      (row_ready r hj p, vertex_room p, quad_room, tab_long)

module _ {n : Size} {s : List ℕ} {cut : Cut} {a b : List ℕ} {j k : ℕ} {under tab : List ℕ} (r : Ready n s cut a b k) (t : TablesReady loops_of n s cut j k under tab) where
  abbrev cube : ℕ
  cube = row_cube n.nx n.ny j k

  -- what it leaves, if its first vertex has the number that the block gives it
  module _ {first : ℕ} {m m' : Marks} {w w' : List ℕ} {o o' : List Float} {q q' tab' : List ℕ} (number : first + m.v ≡ length (vertices_before loops_of n s cut cube)) {lo hi : List ℕ} (p : Windows n s j k lo hi)
      (row : Row) (er : row ≡ row_of n cut first j k) (stepped : RowStepped loops_of lo hi row a b under m w w' o o' q q' tab tab' m') where
    h : RowStepped loops_of lo hi (row_of n cut first j k) a b under m w w' o o' q q' tab tab' m'
    h = subst (λ (x : Row). RowStepped loops_of lo hi x a b under m w w' o o' q q' tab tab' m') er stepped

    row_noted : RowTable loops_of n s cut j k (half j tab')
    row_noted =
        subst (λ (v : ℕ). Numbered (λ (x : ℕ). cube_loops loops_of n s cut (cube + x)) (λ (x : ℕ). names_by loops_of cut (corners_of n s (cube + x))) (n.nx - 1) v (half j tab')) number
        (numbers_are loops_of p cut t.row (numbered h.written.noted))

    prev : 0 < j → RowTable loops_of n s cut (j - 1) k (half (j + 1) tab')
    prev l = subst (RowTable loops_of n s cut (j - 1) k) (sym h.prev_kept) (t.before l)

    x_ring : has_quads AxisX j (ltb 0 k) ≡ true → RingTables loops_of n s cut AxisX j k (half (j + 1) under) (half j under) (half j tab') (half (j + 1) tab')
    x_ring e =
        let c = and_both (ltb 0 j) (ltb 0 k) e in
        let lj = ltb-true 0 j c.0 in
        let lk = ltb-true 0 k c.1 in
        record { t0 = t.below_before lj lk; t1 = t.below lk; t2 = row_noted; t3 = prev lj }

    y_ring : has_quads AxisY j (ltb 0 k) ≡ true → RingTables loops_of n s cut AxisY j k (half j under) (half j under) (half j tab') (half j tab')
    y_ring e = let lk = ltb-true 0 k e in record { t0 = t.below lk; t1 = t.below lk; t2 = row_noted; t3 = row_noted }

    z_ring : has_quads AxisZ j (ltb 0 k) ≡ true → RingTables loops_of n s cut AxisZ j k (half (j + 1) tab') (half (j + 1) tab') (half j tab') (half j tab')
    z_ring e = let lj = ltb-true 0 j e in record { t0 = prev lj; t1 = prev lj; t2 = row_noted; t3 = row_noted }

    pub row_more : RowMore loops_of n s cut j k m m' w w' o o' q q' tab'
    row_more = record {
      moved = row_moved r j t.row first p (step_counts loops_of lo hi (row_of n cut first j k) a b under m w w' o o' q q' tab tab' m' h);
      words = h.written.stored.words_are ∙ ap (sets w (2 * m.v)) (words_are loops_of p cut t.row);
      offsets = h.written.stored.offsets_are ∙ ap (sets o (3 * m.v)) (offsets_are loops_of p cut t.row);
      quads_are = rw (← step_is r j t.row AxisX x_ring, ← step_is r j t.row AxisY y_ring, ← step_is r j t.row AxisZ z_ring) h.more.quads_are;
      tab_long = h.long;
      noted = row_noted;
    }

-- ---- a row of buffers that have room for the whole mesh: the vertex 0 stands first in them

module _ {n : Size} {s : List ℕ} {cut : Cut} {j k : ℕ} {m : Marks} {w : List ℕ} {o : List Float} {q : List ℕ} (u : Underway loops_of n s cut j k m w o q) where
  pub underway_number : 0 + m.v ≡ length (vertices_before loops_of n s cut (row_cube n.nx n.ny j k))
  underway_number = omega (arith, u.writing.marks.v_is)

  module _ (l : Limits n) (hj : j + 1 < n.ny) (hk : k + 1 < n.nz) where
    -- the vertices of the row are some of all
    few : m.v + length (run_masks loops_of n s cut (row_cube n.nx n.ny j k) (n.nx - 1)) ≤ vertex_count n s cut
    few = omega (arith, u.writing.marks.v_is, vertices_room n s cut j k hj hk)

    pub underway_roomy : RowRoomy loops_of n s cut j k 0 m w o q
    underway_roomy = record {
      words = omega (arith, few, u.room.words, words_kept u.writing);
      offsets = omega (arith, few, u.room.offsets, offsets_kept u.writing);
      few = omega (arith, few, most_vertices loops_of n s cut (cube_laws joined) l);
      quads_x = omega (arith, u.writing.marks.x_is, quads_room n s cut X j k (omega arith) (omega arith), all_quads_lem n s cut, u.room.quads, quads_kept u.writing);
      quads_y = omega (arith, u.writing.marks.y_is, quads_room n s cut Y j k (omega arith) (omega arith), all_quads_lem n s cut, u.room.quads, quads_kept u.writing);
      quads_z = omega (arith, u.writing.marks.z_is, quads_room n s cut Z j k (omega arith) (omega arith), all_quads_lem n s cut, u.room.quads, quads_kept u.writing);
    }
