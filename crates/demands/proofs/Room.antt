-- The question for room (document 02, Seven): what it refuses and accepts, that three times the vertices is at most four times its answer and the quads are at
-- most as many, and that buffers which are reserved by it are never too short, for the mesh and for what is asked of it afterwards.
use Prim.Native.Nat.{ℕ, ◌+◌, ◌*◌, ◌/◌, ◌≤◌, ◌<◌}
use mathlib.Core.Path.{◌≡◌, refl, ap, ◌∙◌}
use mathlib.Core.Logic.{◌↔◌}
use mathlib.Core.List.{List, ◌∷◌}
use native.Mathlib.Omega.{arith}
use lib.Ieee.{Float}
use lib.ListN.{length, get_or}
use Rattle.laws.specs.Filled.{filled}
use Rattle.block.specs.declared.Checked.TheVariants.{Passes}
use Rattle.block.specs.declared.Cut.{Cut}
use Rattle.block.specs.declared.Refusal.{Refusal}
use Rattle.block.specs.Answer.{Answer, accepted, refused, First, judged}
use Rattle.block.specs.Block.{block_rows, block_verdict}
use Rattle.block.specs.Grey.{cut_of}
use Rattle.block.specs.Rows.{axis_row}
use Rattle.block.specs.Size.{size_of}
use Rattle.block.proofs.Order.{order_first, orders_pass, accepted_exactly, refused_exactly}
use Rattle.block.proofs.Sizes.{axes_within}
use Rattle.cube_rule.specs.Decider.{joined, loops_of}
use Rattle.cube_rule.proofs.Laws.{cube_laws}
use Rattle.mesh.specs.declared.Counted.{Counted}
use Rattle.mesh.specs.declared.Totals.{Totals}
use Rattle.mesh.specs.Answer.{vertex_count, quad_count, counts_of, said_counts, CountsAnswered, told_counts, buffer_rows, mesh_verdict, Meshed}
use Rattle.mesh.proofs.BufferRows.{roomy}
use Rattle.room.specs.declared.Edged.{Edged}
use Rattle.room.specs.declared.Edged.TheVariants as edged
use Rattle.room.specs.Crossed.{crossed_count}
use Rattle.room.specs.Answer.{said_crossed, CrossedAnswered}
use Rattle.room.proofs.Bounds.{vertices_bound, quads_bound}
use Rattle.room.proofs.Most.{most_edges}
use Rattle.closed.specs.Chains.{words_needed}
use Rattle.file_bytes.specs.Bytes.{decimal}
use Rattle.file_bytes.proofs.Decimal.{length_most}
use Rattle.ply.specs.Words.{file_length}
use Rattle.parsniprow_c.specs.Told.{tell_over, CrossedTold, MeshTold}
use Rattle.told.specs.Numbers.{told_number}
use Rattle.demands.specs.Answers.{NotRefused, MeshCall, quads_written, Reserved}
use Rattle.demands.proofs.Closing.{enough_after}
use Rattle.demands.proofs.Numbers.{counts_numbers}
use Rattle.demands.proofs.Places.{tell_at, none_told}
use Rattle.demands.proofs.Refusals.{refuses_by, counts_accepts, mesh_accepts}

-- ---- the answer

-- there is one to every input
edged_of : (b : Answer ℕ) → (r : Edged) × (said_crossed r ≡ b)
edged_of (accepted e) = (edged.Edges e, refl)
edged_of (refused x) = (edged.Refused x, refl)

pub crossed_allows : (nx ny nz : ℕ) (s : List ℕ) (cut : Cut) → (r : Edged) × CrossedAnswered nx ny nz s cut r
crossed_allows nx ny nz s cut = edged_of (judged (block_verdict nx ny nz s cut) (crossed_count (size_of nx ny nz) s cut))

pub crossed_told_allows : (nx ny nz : ℕ) (s : List ℕ) (t : ℕ) (place : List ℕ) → (place' : List ℕ) × CrossedTold nx ny nz s t place place'
crossed_told_allows nx ny nz s t place =
    let r = crossed_allows nx ny nz s (cut_of t 0) in (tell_over (told_number (said_crossed r.0)) place, record { answer = r.0; answered = r.1; is_told = refl })

-- it is the same by any noise figure
pub crossed_reads_no_noise : (nx ny nz : ℕ) (s : List ℕ) (t m n : ℕ) (r : Edged) → CrossedAnswered nx ny nz s (cut_of t m) r → CrossedAnswered nx ny nz s (cut_of t n) r
unfolding crossed_count
crossed_reads_no_noise nx ny nz s t m n r h = h

module _ (nx ny nz : ℕ) (s : List ℕ) (cut : Cut) (r : Edged) (promise : CrossedAnswered nx ny nz s cut r) where
  pub crossed_refuses : (x : Refusal) → (said_crossed r ≡ refused x) ↔ First (axis_row nx ny nz ∷ block_rows (size_of nx ny nz) s cut) x
  crossed_refuses = refuses_by _ _ _ promise

  pub crossed_accepts : (e : ℕ) → (said_crossed r ≡ accepted e) ↔ ((block_verdict nx ny nz s cut ≡ Passes) × (e ≡ crossed_count (size_of nx ny nz) s cut))
  crossed_accepts = accepted_exactly _ _ _ promise

  pub crossed_numbers : (x : Refusal) → said_crossed r ≡ refused x → (1 ≤ x.number) × (x.number ≤ 3)
  crossed_numbers x e = counts_numbers nx ny nz s cut x ((refused_exactly _ _ _ promise x).0 e)

  -- it refuses what counting refuses, in the same way
  pub crossed_as_counts : (c : Counted) → CountsAnswered nx ny nz s cut c → (x : Refusal) → (said_crossed r ≡ refused x) ↔ (said_counts c ≡ refused x)
  crossed_as_counts c p x =
      let a = refused_exactly _ _ _ promise x in
      let b = refused_exactly _ _ _ p x in
      (λ e. b.1 (a.0 e), λ e. a.1 (b.0 e))

  -- ---- the bounds

  module _ (e : ℕ) (answered : said_crossed r ≡ accepted e) where
    passed : block_verdict nx ny nz s cut ≡ Passes
    passed = ((crossed_accepts e).0 answered).0

    is_count : e ≡ crossed_count (size_of nx ny nz) s cut
    is_count = ((crossed_accepts e).0 answered).1

    -- at most all edges of the largest block
    pub crossed_at_most : e ≤ 50135040
    crossed_at_most = rw is_count (most_edges (size_of nx ny nz) s cut (axes_within nx ny nz (order_first (axis_row nx ny nz) _ passed)))

    few_vertices : 3 * vertex_count (size_of nx ny nz) s cut ≤ 4 * e
    few_vertices = rw is_count (vertices_bound joined loops_of (cube_laws joined) (size_of nx ny nz) s cut)

    few_quads : quad_count (size_of nx ny nz) s cut ≤ e
    few_quads = rw is_count (quads_bound loops_of (size_of nx ny nz) s cut)

    -- "Three times the vertices is at most four times E, and quads are at most E": of what counting answers, and of a mesh
    pub room_enough : (c : Counted) → CountsAnswered nx ny nz s cut c → (t : Totals) → said_counts c ≡ accepted t → (3 * t.vertices ≤ 4 * e) × (t.quads ≤ e)
    room_enough c p t a = rw ((counts_accepts nx ny nz s cut c p t).0 a).1 (few_vertices, few_quads)

    pub room_enough_mesh : (a : MeshCall nx ny nz s cut) → (3 * a.counts.vertices ≤ 4 * e) × (a.counts.quads ≤ e)
    room_enough_mesh a =
        rw ((mesh_accepts nx ny nz s cut a.words a.offsets a.quads a.answer a.words_after a.offsets_after a.quads_after a.promise a.counts).0 a.accepts).1
        (few_vertices, few_quads)

    -- ---- buffers that are reserved by it are never refused with 5 or 6, and so not at all

    rows_pass : (words offsets quads : ℕ) → Reserved e words offsets quads → mesh_verdict nx ny nz s cut words offsets quads ≡ Passes
    rows_pass words offsets quads room =
        let n = size_of nx ny nz in
        orders_pass (axis_row nx ny nz ∷ block_rows n s cut) (buffer_rows (counts_of n s cut) words offsets quads) passed
        ∙ roomy (vertex_count n s cut) (quad_count n s cut) words offsets quads
        (omega (arith, few_vertices, room.words_long)) (omega (arith, few_vertices, room.offsets_long)) (omega (arith, few_quads, room.quads_long))

    pub room_never_short : (w : List ℕ) (o : List Float) (q : List ℕ) (m : Counted) (w' : List ℕ) (o' : List Float) (q' : List ℕ) → Reserved e (length w) (length o) (length q)
        → Meshed nx ny nz s cut w o q m w' o' q' → said_counts m ≡ accepted (counts_of (size_of nx ny nz) s cut)
    room_never_short w o q m w' o' q' room p = (mesh_accepts nx ny nz s cut w o q m w' o' q' p (counts_of (size_of nx ny nz) s cut)).1 (rows_pass (length w) (length o) (length q) room, refl)

    -- ---- and so much is enough for what is asked of that mesh afterwards: the words of the closed question, the vertices of pieces, the bytes of the file

    few_digits : (n : ℕ) → n ≤ 4 * e / 3 → length (decimal n) ≤ 8
    few_digits n h = length_most 8 n (omega arith) (omega (arith, h, crossed_at_most))

    pub room_after : (a : MeshCall nx ny nz s cut)
        → (words_needed (quads_written a) ≤ 4 * e / 3 + 4 * e) × (a.counts.vertices ≤ 4 * e / 3) × (file_length a.counts.vertices a.counts.quads ≤ 186 + 24 * (4 * e / 3) + 17 * e)
    room_after a =
        let b = room_enough_mesh a in
        let v : a.counts.vertices ≤ 4 * e / 3 = omega (arith, b.0) in
        let q : a.counts.quads ≤ 4 * e / 3 = omega (arith, b.1) in
        (omega (arith, b, enough_after a), v, omega (arith, v, b.1, few_digits a.counts.vertices v, few_digits a.counts.quads q))

-- ---- a C caller

edges_of_lem : (r : Edged) → NotRefused (said_crossed r) → (e : ℕ) × (said_crossed r ≡ accepted e)
edges_of_lem (edged.Edges e) h = (e, refl)
edges_of_lem (edged.Refused x) h = absurd (h x refl)

-- who is told 0 and a number, and reserves by it, is told 0 of the mesh by any noise figure
module _ (nx ny nz : ℕ) (s : List ℕ) (t : ℕ) (place place' : List ℕ) (m : CrossedTold nx ny nz s t place place') (z : get_or place' 0 1 ≡ 0) (two : 2 ≤ length place) where
  found : (e : ℕ) × (said_crossed m.answer ≡ accepted e)
  found = edges_of_lem m.answer (none_told 3 _ (said_crossed m.answer) place place' m.is_told z (λ x e. (crossed_numbers nx ny nz s (cut_of t 0) m.answer m.answered x e).0))

  number_is : get_or place' 1 0 ≡ found.0
  unfolding filled
  number_is =
      ap (λ (l : List ℕ). get_or l 1 0) (m.is_told ∙ ap (λ (a : Answer ℕ). tell_over (told_number a) place) found.1)
      ∙ tell_at (told_number (accepted found.0)) place 1 0 (omega (arith, two)) (omega arith)

  pub room_told : (noise : ℕ) (w : List ℕ) (o : List Float) (q answer w' : List ℕ) (o' : List Float) (q' answer' : List ℕ) → 0 < length answer
      → Reserved (get_or place' 1 0) (length w) (length o) (length q) → MeshTold nx ny nz s t noise w o q answer w' o' q' answer' → get_or answer' 0 1 ≡ 0
  unfolding filled
  room_told noise w o q answer w' o' q' answer' long room told =
      let reserved : Reserved found.0 (length w) (length o) (length q) = rw number_is at room in
      let given = room_never_short nx ny nz s (cut_of t noise) m.answer (crossed_reads_no_noise nx ny nz s t 0 noise m.answer m.answered) found.0 found.1 w o q told.answer w' o' q' reserved told.meshed in
      ap (λ (l : List ℕ). get_or l 0 1) (told.is_told ∙ ap (λ (a : Answer Totals). tell_over (told_counts a) answer) given)
      ∙ tell_at (told_counts (accepted (counts_of (size_of nx ny nz) s (cut_of t noise)))) answer 0 1 long (omega arith)
