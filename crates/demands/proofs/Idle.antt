-- Idle versions, which the promises exclude for every block (document 01, "How much each promise says"): one that refuses all blocks, one that gives a
-- single mesh for all blocks, one that answers and writes nothing, and one with an invented vertex or quad number.
use Prim.Native.Nat.{ℕ, ◌*◌, ◌<◌}
use mathlib.Core.Path.{◌≡◌, sym, ap, ◌∙◌}
use mathlib.Core.Bool.{true}
use mathlib.Core.List.{List, ◌∷◌}
use native.Mathlib.Nat.{mul-pos}
use native.Mathlib.Omega.{arith}
use lib.Dec.{leb}
use lib.Ieee.{Float, nan}
use lib.ListN.{length, get_or, replicate, length-replicate}
use borrow.Author.Tests.{le-leb}
use Rattle.block.specs.declared.Cut.{Cut}
use Rattle.block.specs.declared.Size.{Size}
use Rattle.block.specs.declared.Checked.TheVariants.{Passes}
use Rattle.block.specs.Grey.{cut_of}
use Rattle.block.specs.Numbering.{cube_count}
use Rattle.block.specs.Rows.{axis_row, count_row, threshold_row}
use Rattle.block.specs.Size.{size_of, Limits}
use Rattle.block.proofs.Order.{passes_refuses, order_passes, order_last, orders_pass, refused_exactly}
use Rattle.block.proofs.Rows.{count_passes}
use Rattle.block.proofs.Sizes.{within_axes}
use Rattle.cube_rule.specs.Decider.{loops_of}
use Rattle.mesh_rule.specs.Buffers.{mesh_words, mesh_offsets}
use Rattle.mesh_rule.specs.Grid.{metal, OffEdges, AtLeastThree}
use Rattle.mesh_rule.specs.Mesh.{flat, quads}
use Rattle.mesh_rule.specs.Boards.{board, hollow}
use Rattle.mesh_rule.proofs.Checkerboard.{hollow_vertices, hollow_length, board_vertices, board_length}
use Rattle.mesh.specs.declared.Totals.{Totals}
use Rattle.mesh.specs.declared.Counted.{Counted}
use Rattle.block.specs.Block.{block_rows, block_verdict}
use Rattle.mesh.specs.Answer.{vertex_count, quad_count, vertex_row, quad_row, said_counts, CountsAnswered, mesh_verdict, Meshed}
use Rattle.demands.specs.Answers.{NotRefused, MeshCall, SameMesh}
use Rattle.demands.proofs.Allowed.{mesh_call}
use Rattle.demands.proofs.TheMesh.{mesh_given, quads_are, word_at, offset_at, number_at_lem}
use Rattle.demands.proofs.StandIn.{no_quad_alike, same_mesh_alike}

-- ---- one that refuses all blocks: where the checks pass, no refusal is allowed

pub refusing_counts_fall : (nx ny nz : ℕ) (s : List ℕ) (cut : Cut) (r : Counted) → CountsAnswered nx ny nz s cut r → block_verdict nx ny nz s cut ≡ Passes → NotRefused (said_counts r)
refusing_counts_fall nx ny nz s cut r m e x h = passes_refuses (sym e ∙ (refused_exactly _ _ _ m x).0 h)

pub refusing_mesh_falls : (nx ny nz : ℕ) (s : List ℕ) (cut : Cut) (w : List ℕ) (o : List Float) (q : List ℕ) (r : Counted) (w' : List ℕ) (o' : List Float) (q' : List ℕ)
    → Meshed nx ny nz s cut w o q r w' o' q' → mesh_verdict nx ny nz s cut (length w) (length o) (length q) ≡ Passes → NotRefused (said_counts r)
refusing_mesh_falls nx ny nz s cut w o q r w' o' q' m e x h = passes_refuses (sym e ∙ (refused_exactly _ _ _ m.answer x).0 h)

module _ {nx ny nz : ℕ} {s : List ℕ} {cut : Cut} (a : MeshCall nx ny nz s cut) where
  abbrev size : Size
  size = size_of nx ny nz

  -- ---- an invented number of vertices or quads, an invented vertex, offset or quad

  pub other_vertex_count_falls : (a.counts.vertices ≡ vertex_count size s cut → ⊥) → ⊥
  other_vertex_count_falls h = h (mesh_given a).vertex_count_lem

  pub other_quad_count_falls : (a.counts.quads ≡ quad_count size s cut → ⊥) → ⊥
  other_quad_count_falls h = h (quads_are a)

  pub other_word_falls : (k : ℕ) → k < 2 * vertex_count size s cut → (get_or a.words_after k 0 ≡ get_or (mesh_words loops_of size s cut) k 0 → ⊥) → ⊥
  other_word_falls k l h = h (word_at a k (omega (arith, l, (mesh_given a).vertex_count_lem)))

  pub other_offset_falls : (k : ℕ) → k < 3 * vertex_count size s cut → (get_or a.offsets_after k nan ≡ get_or (mesh_offsets loops_of size s cut) k nan → ⊥) → ⊥
  other_offset_falls k l h = h (offset_at a k (omega (arith, l, (mesh_given a).vertex_count_lem)))

  pub other_quad_falls : (k : ℕ) → k < 4 * quad_count size s cut → (get_or a.quads_after k 0 ≡ get_or (flat (quads loops_of size s cut)) k 0 → ⊥) → ⊥
  other_quad_falls k l h = h (number_at_lem a k (omega (arith, l, quads_are a)))

  -- ---- nothing written, wherever a buffer differs from the mesh

  pub unwritten_words_fall : (k : ℕ) → k < 2 * vertex_count size s cut → (get_or a.words k 0 ≡ get_or (mesh_words loops_of size s cut) k 0 → ⊥)
      → a.words_after ≡ a.words → ⊥
  unwritten_words_fall k l h e = other_word_falls k l (λ same. h (ap (λ (x : List ℕ). get_or x k 0) (sym e) ∙ same))

  pub unwritten_offsets_fall : (k : ℕ) → k < 3 * vertex_count size s cut → (get_or a.offsets k nan ≡ get_or (mesh_offsets loops_of size s cut) k nan → ⊥)
      → a.offsets_after ≡ a.offsets → ⊥
  unwritten_offsets_fall k l h e = other_offset_falls k l (λ same. h (ap (λ (x : List Float). get_or x k nan) (sym e) ∙ same))

  pub unwritten_quads_fall : (k : ℕ) → k < 4 * quad_count size s cut → (get_or a.quads k 0 ≡ get_or (flat (quads loops_of size s cut)) k 0 → ⊥)
      → a.quads_after ≡ a.quads → ⊥
  unwritten_quads_fall k l h e = other_quad_falls k l (λ same. h (ap (λ (x : List ℕ). get_or x k 0) (sym e) ∙ same))

  -- ---- a single mesh, by demand 3

  -- with a quad: not for two blocks of one size that differ in sign at a sample off the box's edges
  pub one_mesh_falls : AtLeastThree size → {s' : List ℕ} {cut' : Cut} (b : MeshCall nx ny nz s' cut') (i j k : ℕ) → OffEdges size i j k
      → (metal size s cut i j k ≡ metal size s' cut' i j k → ⊥) → 0 < a.counts.quads → SameMesh a b → ⊥
  one_mesh_falls three b i j k off differ some same = differ (same_mesh_alike three a b same some i j k off)

  -- with none: not for a block where these samples are not all alike
  pub no_quad_falls : AtLeastThree size → (i j k i' j' k' : ℕ) → OffEdges size i j k → OffEdges size i' j' k'
      → (metal size s cut i j k ≡ metal size s cut i' j' k' → ⊥) → a.counts.quads ≡ 0 → ⊥
  no_quad_falls three i j k i' j' k' off off' differ none = differ (no_quad_alike three a none i j k i' j' k' off off')

-- ---- a single mesh, by demand 2: of every size two accepted blocks have other counts, one without metal and the checkerboard

-- what 01's cut of 100 passes: any block of that size
module _ (nx ny nz : ℕ) (l : Limits (size_of nx ny nz)) where
  of_size : (s : List ℕ) → length s ≡ nx * (ny * nz) → block_verdict nx ny nz s (cut_of 100 0) ≡ Passes
  of_size s long =
      order_passes (axis_row nx ny nz) _ (within_axes nx ny nz l)
      ∙ order_passes (count_row (size_of nx ny nz) (length s)) _ (count_passes (size_of nx ny nz) (length s) long)
      ∙ order_last (threshold_row (cut_of 100 0))

  pub hollow_accepted : block_verdict nx ny nz (hollow (size_of nx ny nz)) (cut_of 100 0) ≡ Passes
  hollow_accepted = of_size (hollow (size_of nx ny nz)) (hollow_length (size_of nx ny nz))

  pub checkerboard_accepted : block_verdict nx ny nz (board (size_of nx ny nz)) (cut_of 100 0) ≡ Passes
  checkerboard_accepted = of_size (board (size_of nx ny nz)) (board_length (size_of nx ny nz))

-- an accepted block has a call with buffers of just its size
module _ (nx ny nz : ℕ) (s : List ℕ) (cut : Cut) (passes : block_verdict nx ny nz s cut ≡ Passes) where
  abbrev v : ℕ
  v = vertex_count (size_of nx ny nz) s cut

  abbrev q : ℕ
  q = quad_count (size_of nx ny nz) s cut

  -- m numbers, and m places
  abbrev zeros : ℕ → List ℕ
  zeros m = replicate m 0

  abbrev places : ℕ → List Float
  places m = replicate m nan

  zeros_fit : (m : ℕ) → leb m (length (zeros m)) ≡ true
  zeros_fit m = le-leb m (length (zeros m)) (omega (arith, length-replicate {A = ℕ} m 0))

  places_fit : (m : ℕ) → leb m (length (places m)) ≡ true
  places_fit m = le-leb m (length (places m)) (omega (arith, length-replicate m nan))

  roomy : mesh_verdict nx ny nz s cut (length (zeros (2 * v))) (length (places (3 * v))) (length (zeros (4 * q))) ≡ Passes
  roomy =
      orders_pass (axis_row nx ny nz ∷ block_rows (size_of nx ny nz) s cut) _ passes
      ∙ order_passes (vertex_row v (length (zeros (2 * v))) (length (places (3 * v)))) _ (rw (zeros_fit (2 * v), places_fit (3 * v)))
      ∙ order_last (quad_row q (length (zeros (4 * q))))
      ∙ rw (zeros_fit (4 * q))

  pub call_of : MeshCall nx ny nz s cut
  call_of = (mesh_call nx ny nz s cut (zeros (2 * v)) (places (3 * v)) (zeros (4 * q)) roomy).0

-- no two calls on them have the same counts
pub one_count_falls : (nx ny nz : ℕ) → Limits (size_of nx ny nz) → (a : MeshCall nx ny nz (hollow (size_of nx ny nz)) (cut_of 100 0))
    (b : MeshCall nx ny nz (board (size_of nx ny nz)) (cut_of 100 0)) → a.counts ≡ b.counts → ⊥
one_count_falls nx ny nz l a b same =
    some (cube_count (size_of nx ny nz)) cubes
    (sym (hollow_vertices (size_of nx ny nz)) ∙ sym (mesh_given a).vertex_count_lem ∙ ap (λ (x : Totals). x.vertices) same ∙ (mesh_given b).vertex_count_lem
    ∙ board_vertices (size_of nx ny nz))
  where
    some : (k : ℕ) → 0 < k → 0 ≡ 4 * k → ⊥
    some k h e = omega arith

    cubes : 0 < cube_count (size_of nx ny nz)
    cubes = mul-pos (omega (arith, l.x_low)) (mul-pos (omega (arith, l.y_low)) (omega (arith, l.z_low)))

-- so a version that calls for every accepted block of a size does not answer the same counts for all; that there is such a version is `call_of`
pub no_mesh_for_all : (nx ny nz : ℕ) → Limits (size_of nx ny nz) → (c : Totals)
    → (call : (s : List ℕ) (cut : Cut) → block_verdict nx ny nz s cut ≡ Passes → MeshCall nx ny nz s cut)
    → ((s : List ℕ) (cut : Cut) (e : block_verdict nx ny nz s cut ≡ Passes) → (call s cut e).counts ≡ c) → ⊥
no_mesh_for_all nx ny nz l c call one =
    let h = hollow_accepted nx ny nz l in
    let b = checkerboard_accepted nx ny nz l in
    one_count_falls nx ny nz l (call (hollow (size_of nx ny nz)) (cut_of 100 0) h) (call (board (size_of nx ny nz)) (cut_of 100 0) b)
    (one (hollow (size_of nx ny nz)) (cut_of 100 0) h ∙ sym (one (board (size_of nx ny nz)) (cut_of 100 0) b))
