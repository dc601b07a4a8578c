-- The mark in the program's text: the fields of a vertex's line are read back as they were written, so the word's bit 12 says what it says in the mesh.
-- So are the fields of the first line: the number of vertices, and whether the mesh is closed.
use Prim.Native.Nat.{ℕ, zero, suc, ◌+◌, ◌*◌, ◌-◌, ◌%◌, ◌^◌, ◌≤◌, ◌<◌}
use mathlib.Core.Path.{◌≡◌, refl, sym, ap, ap₂, ◌∙◌, subst}
use mathlib.Core.Bool.{true, false}
use mathlib.Core.Logic.{◌↔◌}
use mathlib.Core.List.{List, [], ◌∷◌, ◌++◌}
use native.Mathlib.Nat.{add_assoc}
use native.Mathlib.Omega.{arith}
use lib.Ieee.{Float, nan, to_bits, binary64}
use lib.ListN.{length, get_or, length-append, get_or-append}
use lib.Seq.{get_or-append-add}
use Rattle.laws.specs.Below.{below, over}
use Rattle.laws.proofs.Below.{get_or-below, length_constant}
use Rattle.laws.proofs.Over.{over_front}
use Rattle.block.specs.declared.Checked.{Checked}
use Rattle.block.specs.declared.Checked.TheVariants.{Passes, Refuses}
use Rattle.block.specs.declared.Cut.{Cut}
use Rattle.block.specs.declared.Size.{Size}
use Rattle.block.specs.Answer.{decided}
use Rattle.block.specs.Ceilings.{AtCeiling}
use Rattle.block.specs.Grey.{has_ceiling}
use Rattle.block.specs.Numbering.{cube_count}
use Rattle.block.specs.Rows.{axis_row}
use Rattle.block.proofs.Order.{order_first, order_rest}
use Rattle.block.proofs.Products.{product_le}
use Rattle.cube_rule.specs.Decider.{loops_of}
use Rattle.mesh_rule.specs.Buffers.{mesh_words, mesh_offsets, mesh_quads}
use Rattle.mesh_rule.specs.Grid.{corners_of}
use Rattle.mesh_rule.proofs.Small.{few_vertices}
use Rattle.mesh.specs.Answer.{vertex_count, quad_count}
use Rattle.closed.specs.Closed.{Finding, all_sound, open_at, finding_of}
use Rattle.reading.specs.Text.{ended, read_at, digit_of, number_at, hex_of, LF}
use Rattle.reading.specs.Input.{first_line_row, size_read, cut_read, samples_read, input_verdict}
use Rattle.reading.proofs.Axes.{AtMostEight, at_most_eight}
use Rattle.reading.proofs.Rules.{hex_length, number_back}
use Rattle.lines.specs.Output.{refusal_line, closed_field, head_line, vertex_line, quad_line, mesh_text, block_text, output_of, Ran}
use Rattle.lines.proofs.Texts.{refusal_length, head_length, vertex_line_length, mesh_length}
use Rattle.demands.specs.Marks.{has_mark, vertex_place, BothSigns}
use Rattle.demands.proofs.RefusalText.{refusal_first}
use Rattle.demands.proofs.Marks.{told_by, word_bit, word_short, cube_short, words_clear}

-- ---- a number is read by its digits

number_same : (a b : List ℕ) (p q k : ℕ) → ((i : ℕ) → i < k → read_at a (p + i) ≡ read_at b (q + i)) → number_at a p k ≡ number_at b q k
unfolding number_at
number_same a b p q zero h = refl
number_same a b p q (suc k) h = ap₂ (λ (x y : ℕ). x * 16 + digit_of y % 16) (number_same a b p q k (λ i l. h i (omega (arith, l)))) (h k (omega arith))

-- what stands behind its digits does not count, nor what stands before them
number_before : (xs ys : List ℕ) (p k : ℕ) → p + k ≤ length xs → number_at (xs ++ ys) p k ≡ number_at xs p k
number_before xs ys p k h = number_same (xs ++ ys) xs p p k (λ i l. get_or-append xs ys ended (p + i) (omega (arith, h, l)))

number_behind : (xs ys : List ℕ) (m p k : ℕ) → length xs ≡ m → number_at (xs ++ ys) (m + p) k ≡ number_at ys p k
number_behind xs ys m p k e =
    number_same (xs ++ ys) ys (m + p) p k
    (λ i l. ap (read_at (xs ++ ys)) (add_assoc m p i ∙ ap (λ (q : ℕ). q + (p + i)) (sym e)) ∙ get_or-append-add xs ys (p + i) ended)

-- a number that is written behind some others
number_there : (xs : List ℕ) (m k v : ℕ) → length xs ≡ m → v < 16 ^ k → number_at (xs ++ hex_of k v) (m + 0) k ≡ v
number_there xs m k v e h = number_behind xs (hex_of k v) m 0 k e ∙ number_back k v h

-- in the line m of many
number_line : (f : ℕ → List ℕ) (n m p k : ℕ) → m < n → p + k ≤ length (f m) → number_at (below f n) (length (below f m) + p) k ≡ number_at (f m) p k
number_line f n m p k l h =
    number_same (below f n) (f m) (length (below f m) + p) p k
    (λ i j. ap (read_at (below f n)) (add_assoc (length (below f m)) p i) ∙ get_or-below f ended n m (p + i) l (omega (arith, h, j)))

-- ---- the line of a vertex

module _ (words : List ℕ) (offsets : List Float) (v : ℕ) where
  abbrev cube : ℕ
  cube = get_or words (2 * v) 0

  abbrev word : ℕ
  word = get_or words (2 * v + 1) 0

  -- up to the cube, and up to the word
  to_cube : length (hex_of 2 1 ++ hex_of 8 cube) ≡ 10
  to_cube = simp (length-append, hex_length)

  to_word : length (hex_of 2 1 ++ hex_of 8 cube ++ hex_of 4 word) ≡ 14
  to_word = simp (length-append, hex_length)

  front : (p k : ℕ) → p + k ≤ 14 → number_at (vertex_line words offsets v) p k ≡ number_at (hex_of 2 1 ++ hex_of 8 cube ++ hex_of 4 word) p k
  unfolding vertex_line
  front p k h =
      number_before (hex_of 2 1 ++ hex_of 8 cube ++ hex_of 4 word ++ places) (LF ∷ []) p k (omega (arith, h, to_word, length-append (hex_of 2 1 ++ hex_of 8 cube ++ hex_of 4 word) places))
      ∙ number_before (hex_of 2 1 ++ hex_of 8 cube ++ hex_of 4 word) places p k (omega (arith, h, to_word))
    where
      places : List ℕ
      places = below (λ (a : ℕ). hex_of 16 (to_bits binary64 (get_or offsets (3 * v + a) nan))) 3

  line_cube : cube < 16 ^ 8 → number_at (vertex_line words offsets v) 2 8 ≡ cube
  line_cube h =
      front 2 8 (omega arith) ∙ number_before (hex_of 2 1 ++ hex_of 8 cube) (hex_of 4 word) 2 8 (omega (arith, to_cube)) ∙ number_there (hex_of 2 1) 2 8 cube (hex_length 2 1) h

  line_word : word < 16 ^ 4 → number_at (vertex_line words offsets v) 10 4 ≡ word
  line_word h = front 10 4 (omega arith) ∙ number_there (hex_of 2 1 ++ hex_of 8 cube) 10 4 word to_cube h

-- ---- the text of a mesh

module _ (vs qs : ℕ) (words : List ℕ) (offsets : List Float) (quads : List ℕ) where
  abbrev head : List ℕ
  head = head_line vs qs (closed_field (finding_of quads))

  abbrev lines : List ℕ
  lines = below (vertex_line words offsets) vs

  abbrev closed : ℕ
  closed = closed_field (finding_of quads)

  -- up to the vertices, up to the quads, and up to the last field
  to_quads : length (hex_of 2 0 ++ hex_of 8 vs) ≡ 10
  to_quads = simp (length-append, hex_length)

  to_closed : length (hex_of 2 0 ++ hex_of 8 vs ++ hex_of 8 qs) ≡ 18
  to_closed = simp (length-append, hex_length)

  to_end : length (hex_of 2 0 ++ hex_of 8 vs ++ hex_of 8 qs ++ hex_of 2 closed) ≡ 20
  to_end = simp (length-append, hex_length)

  -- a field of the first line
  head_field : (p k : ℕ) → p + k ≤ 20 → number_at (mesh_text vs qs words offsets quads) p k ≡ number_at (hex_of 2 0 ++ hex_of 8 vs ++ hex_of 8 qs ++ hex_of 2 closed) p k
  unfolding mesh_text head_line
  head_field p k h =
      number_before (head ++ lines) (below (quad_line quads) qs) p k (omega (arith, h, head_length vs qs closed, length-append head lines))
      ∙ number_before head lines p k (omega (arith, h, head_length vs qs closed))
      ∙ number_before (hex_of 2 0 ++ hex_of 8 vs ++ hex_of 8 qs ++ hex_of 2 closed) (LF ∷ []) p k (omega (arith, h, to_end))

  -- the number of vertices, and whether the mesh is closed
  text_count : vs < 16 ^ 8 → number_at (mesh_text vs qs words offsets quads) 2 8 ≡ vs
  text_count h =
      head_field 2 8 (omega arith)
      ∙ number_before (hex_of 2 0 ++ hex_of 8 vs ++ hex_of 8 qs) (hex_of 2 closed) 2 8 (omega (arith, to_closed))
      ∙ number_before (hex_of 2 0 ++ hex_of 8 vs) (hex_of 8 qs) 2 8 (omega (arith, to_quads))
      ∙ number_there (hex_of 2 0) 2 8 vs (hex_length 2 0) h

  text_closed : number_at (mesh_text vs qs words offsets quads) 18 2 ≡ closed
  text_closed = head_field 18 2 (omega arith) ∙ number_there (hex_of 2 0 ++ hex_of 8 vs ++ hex_of 8 qs) 18 2 closed to_closed (small (finding_of quads))
    where
      small : (f : Finding) → closed_field f < 16 ^ 2
      small all_sound = omega arith
      small (open_at q s) = omega arith

  -- a field of the line of vertex v
  text_field : (v p k : ℕ) → v < vs → p + k ≤ 63 → number_at (mesh_text vs qs words offsets quads) (vertex_place v + p) k ≡ number_at (vertex_line words offsets v) p k
  unfolding mesh_text
  text_field v p k l h =
      number_before (head ++ lines) (below (quad_line quads) qs) (vertex_place v + p) k
      (omega (arith, h, l, head_length vs qs closed, length-append head lines, length_constant (vertex_line words offsets) 63 vs (λ i l. vertex_line_length words offsets i)))
      ∙ ap (λ (m : ℕ). number_at (head ++ lines) m k) (place v)
      ∙ number_behind head lines 21 (length (below (vertex_line words offsets) v) + p) k (head_length vs qs closed)
      ∙ number_line (vertex_line words offsets) vs v p k l (omega (arith, h, vertex_line_length words offsets v))
    where
      place : (v : ℕ) → 21 + 63 * v + p ≡ 21 + (length (below (vertex_line words offsets) v) + p)
      place v = omega (arith, length_constant (vertex_line words offsets) 63 v (λ i l. vertex_line_length words offsets i))

-- ---- what the program wrote: a text that does not begin with F is no refusal's line, so no row refused

wrote_mesh : (bytes out : List ℕ) (r : ℕ) (out' : List ℕ) → Ran bytes out r out' → (get_or out' 0 0 ≡ 70 → ⊥) → input_verdict bytes ≡ Passes
unfolding output_of decided
wrote_mesh bytes out r out' promise h = go (input_verdict bytes) refl
  where
    go : (k : Checked) → input_verdict bytes ≡ k → k ≡ Passes
    go Passes e = refl
    go (Refuses x) e =
        absurd (h (ap (λ (l : List ℕ). get_or l 0 0) (promise.text ∙ ap (λ (k : Checked). over (decided k (block_text (size_read bytes) (samples_read bytes (size_read bytes)) (cut_read bytes)) refusal_line) out) e)
        ∙ over_front (refusal_line x) out 0 0 (rw (refusal_length x) (omega arith)) ∙ refusal_first x))

module _ (bytes out : List ℕ) (r : ℕ) (out' : List ℕ) (promise : Ran bytes out r out') (mesh : get_or out' 0 0 ≡ 70 → ⊥) where
  abbrev n : Size
  n = size_read bytes

  abbrev s : List ℕ
  s = samples_read bytes n

  abbrev cut : Cut
  cut = cut_read bytes

  passes : input_verdict bytes ≡ Passes
  passes = wrote_mesh bytes out r out' promise mesh

  written : out' ≡ over (block_text n s cut) out
  unfolding output_of decided
  written = promise.text ∙ ap (λ (k : Checked). over (decided k (block_text n s cut) refusal_line) out) passes

  -- a number in the text is read off the buffer
  read : (p k : ℕ) → p + k ≤ 21 + 63 * vertex_count n s cut → number_at out' p k ≡ number_at (block_text n s cut) p k
  unfolding over
  read p k h =
      ap (λ (o : List ℕ). number_at o p k) written
      ∙ number_before (block_text n s cut) _ p k
      (omega (arith, h, mesh_length (vertex_count n s cut) (quad_count n s cut) (mesh_words loops_of n s cut) (mesh_offsets loops_of n s cut) (mesh_quads loops_of n s cut)))

  eight : AtMostEight n.nx n.ny n.nz
  eight = at_most_eight n.nx n.ny n.nz (order_first _ _ (order_rest (axis_row n.nx n.ny n.nz) _ (order_rest (first_line_row bytes) _ passes)))

  few : vertex_count n s cut ≤ 1372
  few = few_vertices n s cut eight.x eight.y eight.z

  pub run_counts : number_at out' 2 8 ≡ vertex_count n s cut
  run_counts =
      read 2 8 (omega arith) ∙ text_count (vertex_count n s cut) (quad_count n s cut) (mesh_words loops_of n s cut) (mesh_offsets loops_of n s cut) (mesh_quads loops_of n s cut) (omega (arith, few))

  -- the last field of the first line says whether the mesh is closed
  pub run_field : number_at out' 18 2 ≡ closed_field (finding_of (mesh_quads loops_of n s cut))
  run_field = read 18 2 (omega arith) ∙ text_closed (vertex_count n s cut) (quad_count n s cut) (mesh_words loops_of n s cut) (mesh_offsets loops_of n s cut) (mesh_quads loops_of n s cut)

  module _ (v : ℕ) (h : v < number_at out' 2 8) where
    there : v < vertex_count n s cut
    there = subst (λ (m : ℕ). v < m) run_counts h

    field : (p k : ℕ) → p + k ≤ 63 → number_at out' (vertex_place v + p) k ≡ number_at (vertex_line (mesh_words loops_of n s cut) (mesh_offsets loops_of n s cut) v) p k
    field p k l =
        read (vertex_place v + p) k (omega (arith, l, there))
        ∙ text_field (vertex_count n s cut) (quad_count n s cut) (mesh_words loops_of n s cut) (mesh_offsets loops_of n s cut) (mesh_quads loops_of n s cut) v p k there l

    cubes_few : cube_count n ≤ 512
    cubes_few = product_le (n.nx - 1) (n.ny - 1) (n.nz - 1) 8 8 8 (omega (arith, eight.x)) (omega (arith, eight.y)) (omega (arith, eight.z))

    cube_read : number_at out' (vertex_place v + 2) 8 ≡ get_or (mesh_words loops_of n s cut) (2 * v) 0
    cube_read =
        field 2 8 (omega arith)
        ∙ line_cube (mesh_words loops_of n s cut) (mesh_offsets loops_of n s cut) v (omega (arith, cube_short n s cut v there, cubes_few))

    word_read : number_at out' (vertex_place v + 10) 4 ≡ get_or (mesh_words loops_of n s cut) (2 * v + 1) 0
    word_read =
        field 10 4 (omega arith) ∙ line_word (mesh_words loops_of n s cut) (mesh_offsets loops_of n s cut) v (omega (arith, word_short n s cut v there))

    -- the four digits of a vertex's word have the mark exactly if a corner of the cube, whose number stands before them, is at the ceiling
    pub run_marked : (has_mark (number_at out' (vertex_place v + 10) 4) ≡ true) ↔ AtCeiling (corners_of n s (number_at out' (vertex_place v + 2) 8))
    run_marked =
        told_by (number_at out' (vertex_place v + 10) 4) (corners_of n s (number_at out' (vertex_place v + 2) 8))
        (ap has_mark word_read ∙ word_bit n s cut v there ∙ ap (λ (c : ℕ). has_ceiling (corners_of n s c)) (sym cube_read))

  -- and where no vertex of the text is marked, no cube with corners of both signs has such a corner
  pub run_clear : ((v : ℕ) → v < number_at out' 2 8 → has_mark (number_at out' (vertex_place v + 10) 4) ≡ false)
      → (c : ℕ) → c < cube_count n → BothSigns cut (corners_of n s c) → AtCeiling (corners_of n s c) → ⊥
  run_clear none = words_clear n s cut (λ v h. let l = subst (λ (m : ℕ). v < m) (sym run_counts) h in ap has_mark (sym (word_read v l)) ∙ none v l)
