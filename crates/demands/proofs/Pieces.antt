-- The pieces of a list of quads, from the very promise of `pieces` (document 02, Six): what it refuses and accepts, that a refusal keeps both buffers, which
-- numbers it gives, what stands in the buffers afterwards, the bound of the longest search, and that the quads which `mesh` wrote are refused by no row but 5.
use Prim.Native.Nat.{ℕ, ◌/◌, ◌^◌, ◌≤◌, ◌<◌}
use mathlib.Core.Path.{◌≡◌, refl, ap, ap₂, sym, ◌∙◌, subst}
use mathlib.Core.Bool.{◌&&◌}
use mathlib.Core.Logic.{◌↔◌, ◌⊎◌, inl, inr}
use mathlib.Core.List.{List, []}
use lib.Dec.{eqb, leb}
use lib.ListN.{length, get_or}
use Rattle.laws.specs.Below.{over}
use Rattle.laws.specs.Counting.{count, total}
use Rattle.laws.proofs.Counting.{count_same}
use Rattle.laws.proofs.Over.{each_length, each_at, over_length, over_front, over_behind}
use Rattle.laws.proofs.Sums.{total_same}
use Rattle.block.specs.declared.Cut.{Cut}
use Rattle.block.specs.declared.Refusal.{Refusal}
use Rattle.block.specs.declared.Checked.{Checked}
use Rattle.block.specs.declared.Checked.TheVariants.{Passes, Refuses}
use Rattle.block.specs.Answer.{accepted, refused, First}
use Rattle.block.proofs.Order.{order_passes, order_last, accepted_exactly, refused_exactly, judged_passed, written_refused, written_passed, first_has}
use Rattle.block.specs.Size.{size_of}
use Rattle.lists.specs.Rows.{length_row, quad_below, number_row}
use Rattle.cube_rule.specs.Decider.{loops_of}
use Rattle.mesh_rule.specs.Buffers.{mesh_quads}
use Rattle.trees.specs.Forest.{longest_search}
use Rattle.pieces.specs.declared.Parts.{Parts}
use Rattle.pieces.specs.declared.Pieced.{Pieced}
use Rattle.pieces.specs.declared.Pieced.TheVariants as pieced
use Rattle.pieces.specs.Chains.{Chain, PieceOf}
use Rattle.pieces.specs.Answer.{buffer_row, pieces_rows, pieces_verdict, Numbers, members, sizes, parts_of, said_pieces, PiecesFound}
use Rattle.pieces.specs.Rules.{WholeLog}
use Rattle.pieces.proofs.Rows.{Accepted, accepted_by}
use Rattle.pieces.proofs.Rules.{together_exactly, sizes_sum, no_quads_number, no_quads_size, no_quads_pieces, no_quads_longest, longest_bound, longest_log}
use Rattle.pieces.proofs.Found.{some_numbers, refused_by}
use Rattle.parsniprow_c.specs.Told.{tell_over, PiecesTold}
use Rattle.told.specs.Numbers.{told_pieces}
use Rattle.demands.specs.Answers.{MeshCall, quads_written}
use Rattle.demands.proofs.Lists.{quads_whole, quads_known}
use Rattle.demands.proofs.Numbers.{length_number, search_number, unless_number}
use Rattle.demands.proofs.Refusals.{refuses_by}
use Rattle.demands.proofs.TheMesh.{vertices_are, quads_front}

-- ---- demand 1

module _ (n : ℕ) (quads piece size : List ℕ) (r : Pieced) (piece' size' : List ℕ) (promise : PiecesFound n quads piece size r piece' size') where
  pub pieces_refuses : (x : Refusal) → (said_pieces r ≡ refused x) ↔ First (pieces_rows n quads (length piece) (length size)) x
  pieces_refuses = refuses_by _ _ _ promise.answer

  pub pieces_accepts : (p : Parts) → (said_pieces r ≡ accepted p) ↔ ((pieces_verdict n quads (length piece) (length size) ≡ Passes) × (p ≡ parts_of n quads promise.numbers))
  pieces_accepts = accepted_exactly _ _ _ promise.answer

  pub pieces_keeps : (x : Refusal) → said_pieces r ≡ refused x → (piece' ≡ piece) × (size' ≡ size)
  pieces_keeps x e =
      let k = (refused_exactly _ _ _ promise.answer x).0 e in
      (promise.numbered ∙ written_refused _ _ piece x k, promise.sized ∙ written_refused _ _ size x k)

-- ---- which numbers are given

-- 5, 7, 14
abbrev pub PiecesNumber : ℕ → Type 0
PiecesNumber n = (n ≡ 5) ⊎ ((n ≡ 7) ⊎ (n ≡ 14))

pub pieces_numbers : (n : ℕ) (quads : List ℕ) (piece size : ℕ) (x : Refusal) → pieces_verdict n quads piece size ≡ Refuses x → PiecesNumber x.number
pieces_numbers n quads piece size =
    first_has (λ (x : Refusal). PiecesNumber x.number) (pieces_rows n quads piece size) (
      λ x e. inr (inl (length_number quads x e)),
      (
        λ x e. inr (inr (search_number 14 (quad_below n quads) (length quads / 4) x e)),
        (λ x e. inl (unless_number (leb n piece && leb n size) 5 n x e), tt),
      ),
    )

-- ---- what stands in the buffers where no row holds

module _ (n : ℕ) (quads piece size : List ℕ) (p : Parts) (piece' size' : List ℕ) (promise : PiecesFound n quads piece size (pieced.Found p) piece' size') where
  passed : pieces_verdict n quads (length piece) (length size) ≡ Passes
  passed = ((pieces_accepts n quads piece size (pieced.Found p) piece' size' promise p).0 refl).0

  numbers_right : Numbers n quads promise.numbers
  numbers_right = promise.right passed

  room : Accepted n quads (length piece) (length size)
  room = accepted_by n quads (length piece) (length size) passed

  number_at : (v : ℕ) → v < n → get_or piece' v 0 ≡ get_or promise.numbers v 0
  number_at v h = ap (λ (l : List ℕ). get_or l v 0) (promise.numbered ∙ written_passed _ _ piece passed) ∙ over_front promise.numbers piece v 0 (rw numbers_right.for_each h)

  size_at_lem : (v : ℕ) → v < n → get_or size' v 0 ≡ members n promise.numbers v
  size_at_lem v h =
      ap (λ (l : List ℕ). get_or l v 0) (promise.sized ∙ written_passed _ _ size passed)
      ∙ over_front (sizes n promise.numbers) size v 0 (rw (each_length (members n promise.numbers) n) h)
      ∙ each_at (members n promise.numbers) n v 0 h

  -- "a piece's number is its lowest vertex": the lowest that a chain of quads joins the vertex with
  pub number_found : (v : ℕ) → v < n → PieceOf quads v (get_or piece' v 0)
  number_found v h = subst (PieceOf quads v) (sym (number_at v h)) (numbers_right.number v h)

  -- two vertices have one number exactly if a chain of quads joins them
  pub together_found : (v w : ℕ) → v < n → w < n → (get_or piece' v 0 ≡ get_or piece' w 0) ↔ Chain quads v w
  together_found v w hv hw =
      let t = together_exactly numbers_right v w hv hw in
      (λ e. t.0 (sym (number_at v hv) ∙ e ∙ number_at w hw), λ c. number_at v hv ∙ t.1 c ∙ sym (number_at w hw))

  -- a size is how many vertices have that number
  pub size_found : (v : ℕ) → v < n → get_or size' v 0 ≡ count (λ (w : ℕ). eqb (get_or piece' w 0) v) n
  size_found v h = size_at_lem v h ∙ count_same _ _ n (λ w hw. ap (λ (x : ℕ). eqb x v) (sym (number_at w hw)))

  -- the sizes sum to n
  pub sizes_found_sum : total (λ (v : ℕ). get_or size' v 0) n ≡ n
  sizes_found_sum = total_same _ _ n size_at_lem ∙ sizes_sum numbers_right

  -- the count of pieces is how many vertices are the number of their piece
  pub count_found : p.count ≡ count (λ (v : ℕ). eqb (get_or piece' v 0) v) n
  count_found =
      ap (λ (q : Parts). q.count) ((pieces_accepts n quads piece size (pieced.Found p) piece' size' promise p).0 refl).1
      ∙ count_same _ _ n (λ v h. ap (λ (x : ℕ). eqb x v) (sym (number_at v h)))

  -- what stands behind n is kept
  pub behind_kept : (k : ℕ) → n ≤ k → (get_or piece' k 0 ≡ get_or piece k 0) × (get_or size' k 0 ≡ get_or size k 0)
  behind_kept k h = (
    ap (λ (l : List ℕ). get_or l k 0) (promise.numbered ∙ written_passed _ _ piece passed) ∙ over_behind promise.numbers piece k 0 (rw numbers_right.for_each h),
    ap (λ (l : List ℕ). get_or l k 0) (promise.sized ∙ written_passed _ _ size passed) ∙ over_behind (sizes n promise.numbers) size k 0 (rw (each_length (members n promise.numbers) n) h),
  )

  -- "no search follows more links than the whole part of the base-two logarithm of n"; n is below 2 ^ 32, as a u32 is
  longest_is : p.longest ≡ longest_search n quads
  longest_is = ap (λ (q : Parts). q.longest) ((pieces_accepts n quads piece size (pieced.Found p) piece' size' promise p).0 refl).1

  pub longest_found : n < 4294967296 → 0 < n → 2 ^ p.longest ≤ n
  longest_found few some = rw longest_is (longest_bound n quads few room.whole room.below some)

  pub longest_found_log : n < 4294967296 → (k : ℕ) → WholeLog n k → p.longest ≤ k
  longest_found_log few k w = rw longest_is (longest_log n quads few room.whole room.below k w)

-- without quads
pub none_found : (n : ℕ) (piece size : List ℕ) (p : Parts) (piece' size' : List ℕ) → PiecesFound n [] piece size (pieced.Found p) piece' size'
    → ((v : ℕ) → v < n → (get_or piece' v 0 ≡ v) × (get_or size' v 0 ≡ 1)) × (p ≡ record { count = n; longest = 0 })
none_found n piece size p piece' size' promise =
    let N = numbers_right n [] piece size p piece' size' promise in (
      λ v h. (number_at n [] piece size p piece' size' promise v h ∙ no_quads_number N v h, size_at_lem n [] piece size p piece' size' promise v h ∙ no_quads_size N v h),
      ((pieces_accepts n [] piece size (pieced.Found p) piece' size' promise p).0 refl).1 ∙ ap₂ (λ (c l : ℕ). record { count = c; longest = l }) (no_quads_pieces N) (no_quads_longest n),
    )

-- ---- there is an answer to every input

pub pieces_allows : (n : ℕ) (quads piece size : List ℕ) → n < 4294967296
    → (r : Pieced) × (piece' : List ℕ) × (size' : List ℕ) × PiecesFound n quads piece size r piece' size' × (length piece' ≡ length piece) × (length size' ≡ length size)
pieces_allows n quads piece size few = go (pieces_verdict n quads (length piece) (length size)) refl
  where
    go : (k : Checked) → pieces_verdict n quads (length piece) (length size) ≡ k
        → (r : Pieced) × (piece' : List ℕ) × (size' : List ℕ) × PiecesFound n quads piece size r piece' size' × (length piece' ≡ length piece) × (length size' ≡ length size)
    go (Refuses x) e = (pieced.Refused x, piece, size, refused_by _ n quads piece size x e, refl, refl)
    go Passes e =
        let k = accepted_by n quads (length piece) (length size) e in
        let s = some_numbers n few quads k.whole k.below in
        let numbers = s.0 in (
          pieced.Found (parts_of n quads numbers),
          over numbers piece,
          over (sizes n numbers) size,
          record {
            numbers = numbers;
            right = λ p. s.1;
            answer = judged_passed _ _ _ e refl;
            numbered = sym (written_passed _ numbers piece e);
            sized = sym (written_passed _ (sizes n numbers) size e);
          },
          over_length numbers piece (rw s.1.for_each k.piece_room),
          over_length (sizes n numbers) size (rw (each_length (members n numbers) n) k.size_room),
        )

pub pieces_told_allows : (n : ℕ) (quads piece size place : List ℕ) → n < 4294967296 → (piece' : List ℕ) × (size' : List ℕ) × (place' : List ℕ) × PiecesTold n quads piece size place piece' size' place'
pieces_told_allows n quads piece size place few =
    let r = pieces_allows n quads piece size few in
    (r.1, r.2, tell_over (told_pieces (said_pieces r.0)) place, record { answer = r.0; answered = r.3; is_told = refl })

-- ---- what `mesh` wrote

-- The quads that a call of `mesh` wrote, with as many vertices as it answered, are refused by no row but 5: all that the verdict says is whether both buffers are long enough.
pub pieces_of_mesh : {nx ny nz : ℕ} {s : List ℕ} {cut : Cut} (a : MeshCall nx ny nz s cut) (piece size : ℕ)
    → pieces_verdict a.counts.vertices (quads_written a) piece size ≡ buffer_row a.counts.vertices piece size
pieces_of_mesh {nx} {ny} {nz} {s} {cut} a piece size =
    rw (quads_front a)
    (order_passes (length_row (mesh_quads loops_of (size_of nx ny nz) s cut)) _ (quads_whole (size_of nx ny nz) s cut)
    ∙ order_passes (number_row a.counts.vertices (mesh_quads loops_of (size_of nx ny nz) s cut)) _ (quads_known (size_of nx ny nz) s cut a.counts.vertices (vertices_are a))
    ∙ order_last _)
