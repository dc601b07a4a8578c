-- The marks go on from row to row, and count the whole mesh when the last row is behind them.
-- Assumes nothing.
use Prim.Native.Nat.{ℕ, ◌+◌, ◌*◌, ◌-◌, ◌/◌, ◌≤◌, ◌<◌}
use mathlib.Core.Path.{◌≡◌, refl, ap, ap₂, sym, ◌∙◌, subst}
use mathlib.Core.List.{List, ◌++◌}
use native.Mathlib.Nat.{add-zero, mul_assoc}
use native.Mathlib.Omega.{arith}
use lib.ListN.{length, length-append}
use Rattle.laws.specs.Below.{below}
use Rattle.block.specs.declared.Cut.{Cut}
use Rattle.block.specs.declared.Size.{Size}
use Rattle.block.specs.Numbering.{Axis, X, Y, Z, sample_count, cube_count}
use Rattle.block.specs.Size.{Limits}
use Rattle.cube_rule.specs.Decider.{joined, loops_of}
use Rattle.cube_rule.proofs.Laws.{cube_laws}
use Rattle.mesh_rule.specs.Buffers.{mesh_quads}
use Rattle.mesh_rule.specs.Layers.{row_cube, row_sample}
use Rattle.mesh_rule.specs.Mesh.{vertices_before, vertices, quads}
use Rattle.mesh_rule.proofs.Counts.{most_vertices, most_quads}
use Rattle.quads.specs.Writing.{row_quads}
use Rattle.layers.specs.declared.Marks.{Marks}
use Rattle.layers.specs.Steps.{RowFew}
use Rattle.mesh.specs.Answer.{vertex_count, quad_count, counts_of}
use Rattle.mesh.specs.Steps.{totals_of, Few, quads_up_to, MarkedTo, Marking, Counting, Tallied, RowMoved}
use Rattle.mesh.proofs.Layers.{layers_all}
use Rattle.mesh_rule.proofs.Quads.{flat_length}
use Rattle.mesh.proofs.PlaneQuads.{mesh_quads_lem, planes_quads_all}
use Rattle.mesh.proofs.Rows.{next_cube, next_layer_cube, cube_in_lem, row_next, row_last, quads_room, row_vertices, vertices_le}

module _ (n : Size) (s : List ℕ) (cut : Cut) where
  -- ---- all of them

  pub vertices_are : length (vertices_before loops_of n s cut (cube_count n)) ≡ vertex_count n s cut
  unfolding vertices
  vertices_are = refl

  pub quads_all_length : length (mesh_quads loops_of n s cut) ≡ 4 * quad_count n s cut
  unfolding mesh_quads
  quads_all_length = flat_length (quads loops_of n s cut)

  pub all_quads_lem : length (quads_up_to loops_of n s cut X (sample_count n)) + length (quads_up_to loops_of n s cut Y (sample_count n)) + length (quads_up_to loops_of n s cut Z (sample_count n)) ≡ 4 * quad_count n s cut
  all_quads_lem =
      let xs = quads_up_to loops_of n s cut X (sample_count n) in
      let ys = quads_up_to loops_of n s cut Y (sample_count n) in
      let zs = quads_up_to loops_of n s cut Z (sample_count n) in
      omega (arith, quads_all_length, ap length (mesh_quads_lem n s cut), length-append (xs ++ ys) zs, length-append xs ys)

  -- those before the last layer are all
  layers : (k w h : ℕ) → w * (0 + h * k) ≡ w * h * k
  layers k w h = omega (arith, mul_assoc w h k)

  pub all_cubes : (k : ℕ) → k + 1 ≡ n.nz → row_cube n.nx n.ny 0 k ≡ cube_count n
  all_cubes k e = layers k (n.nx - 1) (n.ny - 1) ∙ layers_all n k e

  pub all_planes : (a : Axis) (k : ℕ) → k + 1 ≡ n.nz → quads_up_to loops_of n s cut a (row_sample n.nx n.ny 0 k) ≡ quads_up_to loops_of n s cut a (sample_count n)
  all_planes a k e = ap (quads_up_to loops_of n s cut a) (layers k n.nx n.ny) ∙ planes_quads_all n s cut a k e

  module _ (y₀ z₀ : ℕ) where
    -- ---- before the first row

    abbrev start : Marks
    start = record { v = 0; x = 0; y = y₀; z = z₀ }

    marked_none : MarkedTo loops_of n s cut y₀ z₀ 0 0 start
    unfolding below vertices_before
    marked_none = record { v_is = refl; x_is = refl; y_is = sym (add-zero y₀); z_is = sym (add-zero z₀) }

    pub marked_start : Marking loops_of n s cut y₀ z₀ 0 0 start
    marked_start =
        subst (λ (c : ℕ). MarkedTo loops_of n s cut y₀ z₀ c (row_sample n.nx n.ny 0 0) start) (zero_of (n.nx - 1) (n.ny - 1))
        (subst (λ (p : ℕ). MarkedTo loops_of n s cut y₀ z₀ 0 p start) (zero_of n.nx n.ny) marked_none)
      where
        zero_of : (w h : ℕ) → 0 ≡ w * (0 + h * 0)
        zero_of w h = omega arith

    -- ---- one row more

    lengths : (a : Axis) (j k : ℕ) → j < n.ny
        → length (quads_up_to loops_of n s cut a (row_sample n.nx n.ny j k)) + length (row_quads loops_of n s cut a k j) ≡ length (quads_up_to loops_of n s cut a (row_sample n.nx n.ny (j + 1) k))
    lengths a j k h = sym (length-append (quads_up_to loops_of n s cut a (row_sample n.nx n.ny j k)) (row_quads loops_of n s cut a k j)) ∙ ap length (sym (row_next n s cut a j k h))

    pub marked_row : (j k : ℕ) {m m' : Marks} → j < n.ny → Marking loops_of n s cut y₀ z₀ j k m → RowMoved loops_of n s cut j k m m' → Marking loops_of n s cut y₀ z₀ (j + 1) k m'
    marked_row j k {m} {m'} hj r h = record {
      v_is = omega (arith, h.v_is, r.v_is, row_vertices n s cut j k);
      x_is = omega (arith, h.x_is, r.x_is, lengths X j k hj);
      y_is = omega (arith, h.y_is, r.y_is, lengths Y j k hj);
      z_is = omega (arith, h.z_is, r.z_is, lengths Z j k hj);
    }

    -- ---- one layer more

    pub marked_layer : (j k : ℕ) {m : Marks} → j + 1 ≡ n.ny → Marking loops_of n s cut y₀ z₀ j k m → Marking loops_of n s cut y₀ z₀ 0 (k + 1) m
    marked_layer j k {m} e r = record {
      v_is = r.v_is ∙ ap (λ (c : ℕ). length (vertices_before loops_of n s cut c)) (next_layer_cube n.nx n.ny j k e);
      x_is = r.x_is ∙ ap length (sym (row_last n s cut X j k e));
      y_is = omega (arith, r.y_is, ap length (row_last n s cut Y j k e));
      z_is = omega (arith, r.z_is, ap length (row_last n s cut Z j k e));
    }

    -- ---- the whole block

    pub marked_all : (k : ℕ) {m : Marks} → k + 1 ≡ n.nz → Marking loops_of n s cut y₀ z₀ 0 k m → MarkedTo loops_of n s cut y₀ z₀ (cube_count n) (sample_count n) m
    marked_all k {m} e r = record {
      v_is = r.v_is ∙ ap (λ (c : ℕ). length (vertices_before loops_of n s cut c)) (all_cubes k e);
      x_is = r.x_is ∙ ap length (all_planes X k e);
      y_is = omega (arith, r.y_is, ap length (all_planes Y k e));
      z_is = omega (arith, r.z_is, ap length (all_planes Z k e));
    }

  -- ---- while the block is counted

  -- the counts so far are some of all
  pub counting_few : (j k : ℕ) {m : Marks} → Limits n → j + 1 < n.ny → k + 1 < n.nz → Counting loops_of n s cut j k m → RowFew m
  counting_few j k {m} l hj hk r = record {
    few_v = omega (arith, r.v_is, vertices_le n s cut (row_cube n.nx n.ny j k) (omega (arith, next_cube n.nx n.ny j k, cube_in_lem n.nx n.ny n.nz j k hj hk)), most_vertices loops_of n s cut (cube_laws joined) l);
    few_x = omega (arith, r.x_is, quads_room n s cut X j k (omega arith) (omega arith), all_quads_lem, most_quads loops_of n s cut l);
    few_y = omega (arith, r.y_is, quads_room n s cut Y j k (omega arith) (omega arith), all_quads_lem, most_quads loops_of n s cut l);
    few_z = omega (arith, r.z_is, quads_room n s cut Z j k (omega arith) (omega arith), all_quads_lem, most_quads loops_of n s cut l);
  }

  -- ---- a whole tally gives the counts, and they fit

  tallied_quads : (m : Marks) → Tallied loops_of n s cut m → m.x + m.y + m.z ≡ 4 * quad_count n s cut
  tallied_quads m c = omega (arith, c.x_is, c.y_is, c.z_is, all_quads_lem)

  pub tallied_few : (m : Marks) → Limits n → Tallied loops_of n s cut m → Few m
  tallied_few m l c =
      (omega (arith, c.v_is, vertices_are, most_vertices loops_of n s cut (cube_laws joined) l), omega (arith, tallied_quads m c, most_quads loops_of n s cut l))

  pub tallied_counts : (m : Marks) → Tallied loops_of n s cut m → totals_of m ≡ counts_of n s cut
  tallied_counts m c = ap₂ (λ (v q : ℕ). record { vertices = v; quads = q }) (c.v_is ∙ vertices_are) (quarter (tallied_quads m c))
    where
      quarter : {x q : ℕ} → x ≡ 4 * q → x / 4 ≡ q
      quarter h = omega arith
