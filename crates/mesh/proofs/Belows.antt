-- The layer below, row by row: the part of the words buffer that it fills, and the table of a row read back from it.
-- Assumes nothing.
use Prim.Native.Nat.{ℕ, ◌+◌, ◌*◌, ◌-◌, ◌≤◌, ◌<◌}
use mathlib.Core.Path.{◌≡◌, ap, ap₂, sym, ◌∙◌, subst}
use mathlib.Core.List.{List, ◌++◌}
use native.Mathlib.Nat.{mul-add, mul_assoc, mul-le-mul_left}
use native.Mathlib.Omega.{arith}
use lib.ListN.{length, take, drop, length-append, length-map}
use lib.Seq.{sets}
use lib.Ieee.{Float}
use Rattle.laws.specs.Below.{below}
use Rattle.laws.proofs.Below.{below_add}
use Rattle.laws.proofs.Stores.{sets_part}
use Rattle.block.specs.declared.Cut.{Cut}
use Rattle.block.specs.declared.Size.{Size}
use Rattle.block.specs.Numbering.{cube_count}
use Rattle.cell.specs.Answer.{word_of}
use Rattle.cube_rule.specs.Decider.{joined, loops_of}
use Rattle.cube_rule.proofs.Laws.{cube_laws}
use Rattle.mesh_rule.specs.Grid.{corners_of}
use Rattle.mesh_rule.specs.Layers.{cube_words, layer_size, layer_words, layer_count, layer_first, row_cube, run_masks}
use Rattle.mesh_rule.specs.Mesh.{cube_loops, vertices_before}
use Rattle.cube_vertices.specs.Cubes.{names_by}
use Rattle.notes.specs.Tables.{which_of, RowOf, RowRead}
use Rattle.vertices.proofs.Layers.{rows_next}
use Rattle.quads.specs.Writing.{RowTable}
use Rattle.quads.proofs.Numbers.{number_run}
use Rattle.quads.proofs.RowQuads.{same_below}
use Rattle.layers.specs.declared.Marks.{Marks}
use Rattle.mesh.specs.Answer.{vertex_count}
use Rattle.mesh.specs.Writes.{rows_count, Writing}
use Rattle.mesh.proofs.Layers.{layer_next, layer_first_next, layer_words_length, words_length}
use Rattle.mesh.proofs.ReadRows.{row_of_lem}
use Rattle.mesh.proofs.Rows.{vertices_le}

module _ (n : Size) (s : List ℕ) (cut : Cut) where
  -- the words of the vertices of the cube c
  abbrev names : ℕ → List ℕ
  names c = names_by loops_of cut (corners_of n s c)

  names_count : (c : ℕ) → length (names c) ≡ length (cube_loops loops_of n s cut c)
  names_count c = length-map (cube_loops loops_of n s cut c) (word_of (corners_of n s c))

  abbrev w : ℕ
  w = n.nx - 1

  abbrev base : ℕ → ℕ
  base z = layer_size n * z

  -- the first cube of a row, in its layer
  row_first : (j z : ℕ) → row_cube n.nx n.ny j z ≡ base z + w * j
  row_first j z = mul-add w j ((n.ny - 1) * z) ∙ ap (λ (x : ℕ). w * j + x) (sym (mul_assoc w (n.ny - 1) z)) ∙ swap (w * j) (base z)
    where
      swap : (a b : ℕ) → a + b ≡ b + a
      swap a b = omega arith

  -- the numbers of vertices before a row, in its layer and of all
  pub rows_first : (j z : ℕ) → length (vertices_before loops_of n s cut (row_cube n.nx n.ny j z)) ≡ layer_first loops_of n s cut z + rows_count loops_of n s cut j z
  rows_first j z = ap (λ (c : ℕ). length (vertices_before loops_of n s cut c)) (row_first j z) ∙ number_run loops_of n s cut (base z) (w * j)

  pub rows_none : (z : ℕ) → 0 ≡ rows_count loops_of n s cut 0 z
  unfolding below
  rows_none z = ap (λ (m : ℕ). length (below (λ (x : ℕ). cube_loops loops_of n s cut (base z + x)) m)) (zero_of w)
    where
      zero_of : (x : ℕ) → 0 ≡ x * 0
      zero_of x = omega arith

  rows_more : (j z : ℕ) → rows_count loops_of n s cut (j + 1) z ≡ rows_count loops_of n s cut j z + length (run_masks loops_of n s cut (row_cube n.nx n.ny j z) w)
  rows_more j z =
      ap length (rows_next (cube_loops loops_of n s cut) w (n.ny - 1) j z)
      ∙ length-append (run_masks loops_of n s cut (base z) (w * j)) (run_masks loops_of n s cut (row_cube n.nx n.ny j z) w)

  pub rows_le : (j z : ℕ) → j < n.ny → rows_count loops_of n s cut j z ≤ layer_count loops_of n s cut z
  rows_le j z h =
      omega (
        arith,
        ap (λ (m : ℕ). length (run_masks loops_of n s cut (base z) m)) parts,
        ap length (below_add (λ (x : ℕ). cube_loops loops_of n s cut (base z + x)) (w * j) (layer_size n - w * j)),
        length-append (run_masks loops_of n s cut (base z) (w * j)) (below (λ (x : ℕ). cube_loops loops_of n s cut (base z + (w * j + x))) (layer_size n - w * j)),
      )
    where
      parts : layer_size n ≡ w * j + (layer_size n - w * j)
      parts = omega (arith, mul-le-mul_left w (less h))
        where
          less : j < n.ny → j ≤ n.ny - 1
          less q = omega arith

  -- ---- a row read back

  module _ (j z c : ℕ) (hj : j + 1 < n.ny) (ec : c ≡ row_cube n.nx n.ny j z) where
    abbrev row : ℕ
    row = row_cube n.nx n.ny j z

    at : (x : ℕ) → base z + (w * j + x) ≡ row + x
    at x = omega (arith, row_first j z)

    inside : w * j + w ≤ layer_size n
    inside = omega (arith, mul-le-mul_left w (less hj))
      where
        less : j + 1 < n.ny → j + 1 ≤ n.ny - 1
        less q = omega arith

    count : (x : ℕ) → length (below (λ (y : ℕ). names (base z + y)) x) ≡ length (run_masks loops_of n s cut (base z) x)
    count x = same_below _ _ x (λ y l. names_count (base z + y))

    row_there : RowOf (λ (x : ℕ). names (base z + (w * j + x))) w c (rows_count loops_of n s cut j z) (layer_words loops_of n s cut z)
    unfolding cube_words
    row_there =
        subst (λ (v : ℕ). RowOf (λ (x : ℕ). names (base z + (w * j + x))) w c v (layer_words loops_of n s cut z)) (count (w * j))
        (subst (λ (v : ℕ). RowOf (λ (x : ℕ). names (base z + (w * j + x))) w v (length (below (λ (y : ℕ). names (base z + y)) (w * j))) (layer_words loops_of n s cut z)) (sym (ec ∙ row_first j z))
        (row_of_lem (λ (y : ℕ). names (base z + y)) (base z) (layer_size n) (w * j) w inside (λ x. omega (arith, names_count (base z + x), (cube_laws joined).four cut (corners_of n s (base z + x))))))

    row_count : length (below (λ (x : ℕ). names (base z + (w * j + x))) w) ≡ length (run_masks loops_of n s cut row w)
    row_count = same_below _ _ w (λ x l. ap (λ (c : ℕ). length (names c)) (at x) ∙ names_count (row + x))

    module _ (first r : ℕ) (table : List ℕ) (h : RowRead w c (rows_count loops_of n s cut j z) first (layer_words loops_of n s cut z) table r) (ef : first ≡ layer_first loops_of n s cut z) where
      pub read_passed : r ≡ rows_count loops_of n s cut (j + 1) z
      read_passed = (h _ row_there).0 ∙ ap (λ (x : ℕ). rows_count loops_of n s cut j z + x) row_count ∙ sym (rows_more j z)

      pub read_table : RowTable loops_of n s cut j z table
      read_table =
          let t = (h _ row_there).1 in
          record {
            first = λ x l some.
                t.first x l (there x some)
                ∙ ap₂ (λ (a b : ℕ). a + b) (ap (λ (f : ℕ). f + rows_count loops_of n s cut j z) ef ∙ sym (rows_first j z))
                (same_below _ _ x (λ y k. ap (λ (c : ℕ). length (names c)) (at y) ∙ names_count (row + y)));
            which = λ x l some. t.which x l (there x some) ∙ ap (λ (c : ℕ). which_of (names c)) (at x);
          }
        where
          there : (x : ℕ) → 0 < length (names (row + x)) → 0 < length (names (base z + (w * j + x)))
          there x h = subst (λ (c : ℕ). 0 < length (names c)) (sym (at x)) h

  -- as the code reads it
  pub read_row : (j z nx ny passed low r : ℕ) (part table : List ℕ) → nx ≡ n.nx → ny ≡ n.ny → passed ≡ rows_count loops_of n s cut j z → part ≡ layer_words loops_of n s cut z → low ≡ layer_first loops_of n s cut z → j + 1 < n.ny
      → RowRead (nx - 1) ((nx - 1) * (j + (ny - 1) * z)) passed low part table r → (r ≡ rows_count loops_of n s cut (j + 1) z) × RowTable loops_of n s cut j z table
  read_row j z nx ny passed low r part table ex ey ep et el hj h = (read_passed j z c hj ec low r table h' el, read_table j z c hj ec low r table h' el)
    where
      c : ℕ
      c = (nx - 1) * (j + (ny - 1) * z)

      ec : c ≡ row_cube n.nx n.ny j z
      ec = ap₂ (λ (x y : ℕ). (x - 1) * (j + (y - 1) * z)) ex ey

      h' : RowRead w c (rows_count loops_of n s cut j z) low (layer_words loops_of n s cut z) table r
      h' = subst (λ (x : ℕ). RowRead (x - 1) c (rows_count loops_of n s cut j z) low (layer_words loops_of n s cut z) table r) ex
          (subst (λ (p : ℕ). RowRead (nx - 1) c p low (layer_words loops_of n s cut z) table r) ep (subst (λ (p : List ℕ). RowRead (nx - 1) c passed low p table r) et h))

  -- ---- the part of the words buffer that a layer fills

  -- the number of the first vertex of a layer
  pub first_is : (k : ℕ) {m : Marks} {w₀ ws : List ℕ} {o₀ o : List Float} {q₀ q : List ℕ} → Writing loops_of n s cut 0 k m w₀ ws o₀ o q₀ q → m.v ≡ layer_first loops_of n s cut k
  first_is k r = omega (arith, r.marks.v_is, rows_first 0 k, rows_none k)

  -- while the next layer is written
  pub part_is : (j z : ℕ) (m : Marks) (w₀ ws : List ℕ) (o₀ o : List Float) (q₀ q : List ℕ) (low high : ℕ) → Writing loops_of n s cut j (z + 1) m w₀ ws o₀ o q₀ q → 2 * vertex_count n s cut ≤ length w₀
      → row_cube n.nx n.ny j (z + 1) ≤ cube_count n → low ≡ layer_first loops_of n s cut z → high ≡ layer_first loops_of n s cut (z + 1)
      → take (2 * high - 2 * low) (drop (2 * low) ws) ≡ layer_words loops_of n s cut z
  part_is j z m w₀ ws o₀ o q₀ q low high r room inside el eh =
      ap₂ (λ (i k : ℕ). take i (drop k ws)) size_of (ap (λ (x : ℕ). 2 * x) el ∙ sym (words_length n s cut (base z)))
      ∙ ap (λ (l : List ℕ). take (length (layer_words loops_of n s cut z)) (drop (length front) l)) (r.words ∙ ap (sets w₀ 0) all)
      ∙ sets_part w₀ front (layer_words loops_of n s cut z) rest (subst (λ (l : List ℕ). length l ≤ length w₀) all (omega (arith, words_length n s cut (row_cube n.nx n.ny j (z + 1)), vertices_le n s cut (row_cube n.nx n.ny j (z + 1)) inside)))
    where
      front : List ℕ
      front = below (cube_words loops_of n s cut) (base z)

      rest : List ℕ
      rest = below (λ (x : ℕ). cube_words loops_of n s cut (base (z + 1) + x)) (w * j)

      all : below (cube_words loops_of n s cut) (row_cube n.nx n.ny j (z + 1)) ≡ front ++ layer_words loops_of n s cut z ++ rest
      all =
          ap (below (cube_words loops_of n s cut)) (row_first j (z + 1))
          ∙ below_add (cube_words loops_of n s cut) (base (z + 1)) (w * j)
          ∙ ap (λ (l : List ℕ). l ++ rest) (layer_next (cube_words loops_of n s cut) (layer_size n) z)

      size_of : 2 * high - 2 * low ≡ length (layer_words loops_of n s cut z)
      size_of = omega (arith, el, eh, layer_words_length n s cut z, layer_first_next n s cut z)
