-- The rows of one layer, one behind the other: how many they are, that they are some of the block's, and that all of them are the layer.
-- Assumes nothing.
use Prim.Native.Nat.{ℕ, zero, suc, ◌+◌, ◌*◌, ◌-◌, ◌≤◌, ◌<◌}
use mathlib.Core.Path.{◌≡◌, refl, ap, sym, ◌∙◌}
use mathlib.Core.List.{List, ◌++◌, append-nil, append_assoc}
use native.Mathlib.Nat.{add-zero, mul-add, mul_assoc, mul-le-mul_left}
use native.Mathlib.Numerals.{add-one}
use native.Mathlib.Omega.{arith}
use lib.ListN.{length, drop, length-append}
use lib.Seq.{drop-append_seam}
use Rattle.laws.specs.Below.{below}
use Rattle.laws.proofs.Below.{below_mul, below_same}
use Rattle.block.specs.declared.Cut.{Cut}
use Rattle.block.specs.declared.Size.{Size}
use Rattle.block.specs.Numbering.{Axis, X, Y, Z, sample_count}
use Rattle.block.specs.Size.{Limits}
use Rattle.cube_rule.specs.Decider.{joined, loops_of}
use Rattle.cube_rule.proofs.Laws.{cube_laws}
use Rattle.mesh_rule.specs.Mesh.{cube_loops, vertices_before}
use Rattle.mesh_rule.specs.Layers.{plane_size, layer_size, row_cube, row_sample, cube_words, cube_offsets, run_masks, run_words, run_offsets, layer_words, layer_offsets, layer_count, layer_first, plane_quads}
use Rattle.mesh_rule.proofs.Counts.{most_vertices, most_quads}
use Rattle.quads.specs.Writing.{row_quads}
use Rattle.quads.proofs.Numbers.{number_run}
use Rattle.layers.specs.declared.Marks.{Marks}
use Rattle.layers.specs.Steps.{RowFew}
use Rattle.mesh.specs.Steps.{quads_up_to, Few, RowMoved}
use Rattle.mesh.proofs.PlaneQuads.{planes_quads_next}
use Rattle.mesh.proofs.Layers.{length_scaled, words_of_cube, offsets_of_cube}
use Rattle.mesh.proofs.Rows.{row_next, row_last, quads_room, vertices_le}
use Rattle.mesh.proofs.Tallies.{all_quads_lem}
use Rattle.plane_layers.specs.Layer.{rows_masks, rows_words, rows_offsets, RowsMarked}

-- one list more
pub below_next : {A : Type 0} (f : ℕ → List A) (j : ℕ) → below f (j + 1) ≡ below f j ++ f j
unfolding below
below_next f j = ap (below f) (add-one j)

-- rows of w in layers of h, one behind the other
pub rows_run : {A : Type 0} (f : ℕ → List A) (w h k j : ℕ) → below (λ (i : ℕ). below (λ (x : ℕ). f (w * (i + h * k) + x)) w) j ≡ below (λ (x : ℕ). f (w * h * k + x)) (w * j)
rows_run f w h k j = sym (below_mul (λ (x : ℕ). f (w * h * k + x)) w j ∙ below_same _ _ j (λ i l. below_same _ _ w (λ x m. ap f (at i x))))
  where
    at : (i x : ℕ) → w * h * k + (w * i + x) ≡ w * (i + h * k) + x
    at i x = rw (mul-add w i (h * k), ← mul_assoc w h k) (omega arith)

-- two words and three offsets a vertex
module _ (n : Size) (s : List ℕ) (cut : Cut) (c m : ℕ) where
  pub run_words_length : length (run_words loops_of n s cut c m) ≡ 2 * length (run_masks loops_of n s cut c m)
  run_words_length = length_scaled _ _ 2 m (λ x. words_of_cube n s cut (c + x))

  pub run_offsets_length : length (run_offsets loops_of n s cut c m) ≡ 3 * length (run_masks loops_of n s cut c m)
  run_offsets_length = length_scaled _ _ 3 m (λ x. offsets_of_cube n s cut (c + x))

cancel : {A : Type 0} (a b c : List A) → a ++ b ≡ a ++ c → b ≡ c
cancel a b c e = sym (drop-append_seam a b) ∙ ap (drop (length a)) e ∙ drop-append_seam a c

module _ (n : Size) (s : List ℕ) (cut : Cut) (k : ℕ) where
  abbrev w : ℕ
  w = n.nx - 1

  -- ---- the vertices

  masks_run : (j : ℕ) → rows_masks loops_of n s cut k j ≡ run_masks loops_of n s cut (layer_size n * k) (w * j)
  masks_run j = rows_run (cube_loops loops_of n s cut) w (n.ny - 1) k j

  -- those before row j are those below the layer, and those of its rows
  pub rows_first : (j : ℕ) → length (vertices_before loops_of n s cut (row_cube n.nx n.ny j k)) ≡ layer_first loops_of n s cut k + length (rows_masks loops_of n s cut k j)
  rows_first j =
      ap (λ (c : ℕ). length (vertices_before loops_of n s cut c)) (at w (n.ny - 1))
      ∙ number_run loops_of n s cut (layer_size n * k) (w * j)
      ∙ ap (λ (l : List ℕ). layer_first loops_of n s cut k + length l) (sym (masks_run j))
    where
      at : (w h : ℕ) → w * (j + h * k) ≡ w * h * k + w * j
      at w h = rw (mul-add w j (h * k), ← mul_assoc w h k) (omega arith)

  -- two words and three offsets a vertex
  pub rows_words_length : (j : ℕ) → length (rows_words loops_of n s cut k j) ≡ 2 * length (rows_masks loops_of n s cut k j)
  rows_words_length j = length_scaled _ _ 2 j (λ i. run_words_length n s cut (row_cube n.nx n.ny i k) w)

  pub rows_offsets_length : (j : ℕ) → length (rows_offsets loops_of n s cut k j) ≡ 3 * length (rows_masks loops_of n s cut k j)
  rows_offsets_length j = length_scaled _ _ 3 j (λ i. run_offsets_length n s cut (row_cube n.nx n.ny i k) w)

  -- all rows are the layer
  module _ (j : ℕ) (e : j ≡ n.ny - 1) where
    size_of : w * j ≡ layer_size n
    size_of = ap (λ (h : ℕ). w * h) e

    pub layer_masks : length (rows_masks loops_of n s cut k j) ≡ layer_count loops_of n s cut k
    layer_masks = ap length (masks_run j ∙ ap (run_masks loops_of n s cut (layer_size n * k)) size_of)

    pub layer_words_lem : rows_words loops_of n s cut k j ≡ layer_words loops_of n s cut k
    layer_words_lem = rows_run (cube_words loops_of n s cut) w (n.ny - 1) k j ∙ ap (run_words loops_of n s cut (layer_size n * k)) size_of

    pub layer_offsets_lem : rows_offsets loops_of n s cut k j ≡ layer_offsets loops_of n s cut k
    layer_offsets_lem = rows_run (cube_offsets loops_of n s cut) w (n.ny - 1) k j ∙ ap (run_offsets loops_of n s cut (layer_size n * k)) size_of

  -- ---- the quads along an axis

  module _ (a : Axis) where
    pub rows_quads : (j : ℕ) → j ≤ n.ny → quads_up_to loops_of n s cut a (row_sample n.nx n.ny j k) ≡ quads_up_to loops_of n s cut a (plane_size n * k) ++ below (row_quads loops_of n s cut a k) j
    unfolding below
    rows_quads zero h = ap (quads_up_to loops_of n s cut a) (start n.nx n.ny) ∙ sym (append-nil (quads_up_to loops_of n s cut a (plane_size n * k)))
      where
        start : (x y : ℕ) → x * (0 + y * k) ≡ x * y * k
        start x y = omega (arith, mul_assoc x y k)
    rows_quads (suc j) h =
        ap (λ (i : ℕ). quads_up_to loops_of n s cut a (row_sample n.nx n.ny i k)) (sym (add-one j))
        ∙ row_next n s cut a j k (omega arith)
        ∙ ap (λ (l : List ℕ). l ++ row_quads loops_of n s cut a k j) (rows_quads j (omega arith))
        ∙ append_assoc (quads_up_to loops_of n s cut a (plane_size n * k)) (below (row_quads loops_of n s cut a k) j) (row_quads loops_of n s cut a k j)

    -- the last row of samples has none, so all rows are the plane
    pub plane_quads_lem : (j : ℕ) → j + 1 ≡ n.ny → below (row_quads loops_of n s cut a k) j ≡ plane_quads loops_of n s cut a k
    plane_quads_lem j e =
        cancel (quads_up_to loops_of n s cut a (plane_size n * k)) _ _
        (sym (rows_quads j (omega arith)) ∙ sym (row_last n s cut a j k e) ∙ ap (quads_up_to loops_of n s cut a) (start n.nx n.ny) ∙ planes_quads_next n s cut a k)
      where
        start : (x y : ℕ) → x * (0 + y * (k + 1)) ≡ x * y * (k + 1)
        start x y = omega (arith, mul_assoc x y (k + 1))

    -- a row more is some of all
    pub rows_le : (j : ℕ) → j < n.ny → k < n.nz
        → length (quads_up_to loops_of n s cut a (plane_size n * k)) + (length (below (row_quads loops_of n s cut a k) j) + length (row_quads loops_of n s cut a k j)) ≤ length (quads_up_to loops_of n s cut a (sample_count n))
    rows_le j hj hk =
        omega (
          arith,
          quads_room n s cut a j k hj hk,
          ap length (rows_quads j (omega arith)),
          length-append (quads_up_to loops_of n s cut a (plane_size n * k)) (below (row_quads loops_of n s cut a k) j),
        )

  -- ---- the marks

  pub marked_none : (y₀ z₀ : ℕ) → RowsMarked loops_of n s cut k y₀ z₀ 0 (record { v = 0; x = 0; y = y₀; z = z₀ })
  unfolding below
  marked_none y₀ z₀ = record { v_is = refl; x_is = refl; y_is = sym (add-zero y₀); z_is = sym (add-zero z₀) }

  pub marked_more : {y₀ z₀ j : ℕ} {m m' : Marks} → RowsMarked loops_of n s cut k y₀ z₀ j m → RowMoved loops_of n s cut j k m m' → RowsMarked loops_of n s cut k y₀ z₀ (j + 1) m'
  marked_more {y₀} {z₀} {j} {m} {m'} r h = record {
    v_is = omega (arith, r.v_is, h.v_is, more (λ (i : ℕ). run_masks loops_of n s cut (row_cube n.nx n.ny i k) w));
    x_is = omega (arith, r.x_is, h.x_is, more (row_quads loops_of n s cut X k));
    y_is = omega (arith, r.y_is, h.y_is, more (row_quads loops_of n s cut Y k));
    z_is = omega (arith, r.z_is, h.z_is, more (row_quads loops_of n s cut Z k));
  }
    where
      more : (f : ℕ → List ℕ) → length (below f (j + 1)) ≡ length (below f j) + length (f j)
      more f = ap length (below_next f j) ∙ length-append (below f j) (f j)

  module _ (l : Limits n) (hk : k + 1 < n.nz) where
    most_v : (j : ℕ) → j < n.ny → layer_first loops_of n s cut k + length (rows_masks loops_of n s cut k j) ≤ 66325500
    most_v j hj = omega (arith, rows_first j, vertices_le n s cut (row_cube n.nx n.ny j k) (in_block (n.nx - 1) (n.ny - 1) (n.nz - 1) (omega (arith, l.y_low)) (omega arith)), most_vertices loops_of n s cut (cube_laws joined) l)
      where
        in_block : (x y z : ℕ) → j ≤ y → k < z → x * (j + y * k) ≤ x * (y * z)
        in_block x y z a b = mul-le-mul_left x (omega (arith, mul-le-mul_left y (next b)))
          where
            next : k < z → k + 1 ≤ z
            next q = omega arith

    -- so they are few
    pub marked_few : {j : ℕ} {m : Marks} → j < n.ny → RowsMarked loops_of n s cut k 0 0 j m → RowFew m
    marked_few {j} {m} hj r = record {
      few_v = omega (arith, r.v_is, most_v j hj);
      few_x = omega (arith, r.x_is, rows_le X j hj (omega arith), all_quads_lem n s cut, most_quads loops_of n s cut l);
      few_y = omega (arith, r.y_is, rows_le Y j hj (omega arith), all_quads_lem n s cut, most_quads loops_of n s cut l);
      few_z = omega (arith, r.z_is, rows_le Z j hj (omega arith), all_quads_lem n s cut, most_quads loops_of n s cut l);
    }

    pub marked_all_few : {j : ℕ} {m : Marks} → j < n.ny → RowsMarked loops_of n s cut k 0 0 j m → Few m
    marked_all_few {j} {m} hj r = (
      omega (arith, r.v_is, most_v j hj),
      omega (arith, r.x_is, r.y_is, r.z_is, rows_le X j hj (omega arith), rows_le Y j hj (omega arith), rows_le Z j hj (omega arith), all_quads_lem n s cut, most_quads loops_of n s cut l),
    )
