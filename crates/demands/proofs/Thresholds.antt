-- A row of thresholds (document 02, Eight): what it refuses and accepts, that a refusal keeps the buffer, which numbers it gives, and that its buffer holds for
-- each threshold what asking for this threshold alone answers. What stands behind the answers is kept.
use Prim.Native.Nat.{ℕ, ◌+◌, ◌*◌, ◌≤◌, ◌<◌}
use mathlib.Core.Path.{◌≡◌, refl, ap, sym, ◌∙◌}
use mathlib.Core.Logic.{◌↔◌, ◌⊎◌, inl, inr}
use mathlib.Core.List.{List, []}
use native.Mathlib.Omega.{arith}
use borrow.Author.Tests.{le-leb}
use lib.Dec.{leb}
use lib.ListN.{length, get_or}
use Rattle.laws.specs.Below.{below, over}
use Rattle.laws.specs.Filled.{filled}
use Rattle.laws.proofs.Below.{length_constant, length-below, get_or-below}
use Rattle.laws.proofs.Over.{over_front, over_behind}
use Rattle.block.specs.declared.Checked.TheVariants.{Passes, Refuses}
use Rattle.block.specs.declared.Refusal.{Refusal}
use Rattle.block.specs.Answer.{Answer, accepted, refused, First, judged, written}
use Rattle.block.specs.Grey.{cut_of, no_threshold}
use Rattle.block.specs.Rows.{axis_row, count_row}
use Rattle.block.specs.Size.{size_of}
use Rattle.block.proofs.Order.{order_passes, order_first, order_rest, order_last, accepted_exactly, refused_exactly, written_refused, written_passed, first_has}
use Rattle.block.proofs.Rows.{holds_where, unless_passes}
use Rattle.mesh.specs.declared.Counted.{Counted}
use Rattle.mesh.specs.Answer.{said_counts, counts_answer, CountsAnswered, told_counts}
use Rattle.thresholds.specs.declared.RowAnswer.{RowAnswer}
use Rattle.thresholds.specs.declared.RowAnswer.TheVariants as row
use Rattle.thresholds.specs.Answer.{many_row, answers_row, whole_rows, row_verdict, answers_of, said_row, RowAnswered}
use Rattle.thresholds.proofs.Threes.{told_three}
use Rattle.thresholds.proofs.Verdicts.{row_three}
use Rattle.parsniprow_c.specs.Told.{tell_over, CountsTold, RowTold}
use Rattle.told.specs.Numbers.{told_nothing}
use Rattle.demands.proofs.Numbers.{unless_number, axis_number_lem, count_number}
use Rattle.demands.proofs.Places.{tell_at, none_told}
use Rattle.demands.proofs.Refusals.{refuses_by}

-- ---- there is an answer to every input

row_of : (a : Answer Unit) → (r : RowAnswer) × (said_row r ≡ a)
row_of (accepted tt) = (row.Answered, refl)
row_of (refused x) = (row.Refused x, refl)

pub row_allows : (nx ny nz : ℕ) (s ts : List ℕ) (noise : ℕ) (b : List ℕ) → (r : RowAnswer) × (b' : List ℕ) × RowAnswered nx ny nz s ts noise b r b'
row_allows nx ny nz s ts noise b =
    let k = row_verdict nx ny nz s ts (length b) in
    let r = row_of (judged k tt) in (r.0, written k (answers_of nx ny nz s ts noise) b, record { answer = r.1; answers = refl })

pub row_told_allows : (nx ny nz : ℕ) (s ts : List ℕ) (noise : ℕ) (b place : List ℕ) → (b' : List ℕ) × (place' : List ℕ) × RowTold nx ny nz s ts noise b place b' place'
row_told_allows nx ny nz s ts noise b place =
    let r = row_allows nx ny nz s ts noise b in (r.1, tell_over (told_nothing (said_row r.0)) place, record { answer = r.0; answered = r.2; is_told = refl })

-- ---- which numbers are given: 1, 2, 15, 16, and never 3

abbrev pub RowNumber : ℕ → Type 0
RowNumber n = ((1 ≤ n) × (n ≤ 2)) ⊎ ((15 ≤ n) × (n ≤ 16))

pub row_numbers : (nx ny nz : ℕ) (s ts : List ℕ) (room : ℕ) (x : Refusal) → row_verdict nx ny nz s ts room ≡ Refuses x → RowNumber x.number
row_numbers nx ny nz s ts room =
    first_has (λ (x : Refusal). RowNumber x.number) (whole_rows nx ny nz s ts room) (
      λ x e. let n = unless_number (leb (length ts) 16) 16 (length ts) x e in inr (omega (arith, n), omega (arith, n)),
      (
        λ x e. let n = unless_number (leb (3 * length ts) room) 15 (length ts) x e in inr (omega (arith, n), omega (arith, n)),
        (
          λ x e. let n = axis_number_lem nx ny nz x e in inl (omega (arith, n), omega (arith, n)),
          (λ x e. let n = count_number (size_of nx ny nz) (length s) x e in inl (omega (arith, n), omega (arith, n)), tt),
        ),
      ),
    )

module _ (nx ny nz : ℕ) (s ts : List ℕ) (noise : ℕ) (b : List ℕ) (r : RowAnswer) (b' : List ℕ) (promise : RowAnswered nx ny nz s ts noise b r b') where
  -- ---- demand 1

  pub row_refuses : (x : Refusal) → (said_row r ≡ refused x) ↔ First (whole_rows nx ny nz s ts (length b)) x
  row_refuses = refuses_by _ _ _ promise.answer

  pub row_accepts : (said_row r ≡ accepted tt) ↔ (row_verdict nx ny nz s ts (length b) ≡ Passes)
  row_accepts = (λ e. ((accepted_exactly _ _ _ promise.answer tt).0 e).0, λ e. (accepted_exactly _ _ _ promise.answer tt).1 (e, refl))

  pub row_keeps : (x : Refusal) → said_row r ≡ refused x → b' ≡ b
  row_keeps x e = promise.answers ∙ written_refused _ _ b x ((refused_exactly _ _ _ promise.answer x).0 e)

  -- ---- an answered row

  -- what threshold i is told
  abbrev three : ℕ → List ℕ
  three i = told_counts (counts_answer nx ny nz s (cut_of (get_or ts i 0) noise))

  module _ (answered : said_row r ≡ accepted tt) where
    passed : row_verdict nx ny nz s ts (length b) ≡ Passes
    passed = row_accepts.0 answered

    after : b' ≡ over (answers_of nx ny nz s ts noise) b
    after = promise.answers ∙ written_passed _ _ b passed

    long : (m : ℕ) → length (below three m) ≡ 3 * m
    long m = length_constant three 3 m (λ i _. told_three (counts_answer nx ny nz s (cut_of (get_or ts i 0) noise)))

    -- whatever the promise of `counts` allows for threshold i stands from place 3·i on
    pub row_is_one_by_one : (i : ℕ) → i < length ts → (c : Counted) → CountsAnswered nx ny nz s (cut_of (get_or ts i 0) noise) c → (p : ℕ) → p < 3
        → get_or b' (3 * i + p) 0 ≡ get_or (told_counts (said_counts c)) p 0
    row_is_one_by_one i h c asked p few =
        let three_long = told_three (counts_answer nx ny nz s (cut_of (get_or ts i 0) noise)) in
        ap (λ (l : List ℕ). get_or l (3 * i + p) 0) after
        ∙ over_front (answers_of nx ny nz s ts noise) b (3 * i + p) 0 (omega (arith, h, few, long (length ts)))
        ∙ ap (λ (k : ℕ). get_or (answers_of nx ny nz s ts noise) (k + p) 0) (sym (long i))
        ∙ get_or-below three 0 (length ts) i p h (omega (arith, few, three_long))
        ∙ ap (λ (a : Answer _). get_or (told_counts a) p 0) (sym asked)

    -- what stands behind the answers is kept
    pub row_behind : (k : ℕ) → 3 * length ts ≤ k → get_or b' k 0 ≡ get_or b k 0
    row_behind k h = ap (λ (l : List ℕ). get_or l k 0) after ∙ over_behind (answers_of nx ny nz s ts noise) b k 0 (omega (arith, h, long (length ts)))

    -- "3 is an answer of its threshold": a threshold in an answered row is refused with 3 and with no other number
    pub row_refuses_three : (i : ℕ) (c : Counted) → CountsAnswered nx ny nz s (cut_of (get_or ts i 0) noise) c → (x : Refusal) → said_counts c ≡ refused x → x.number ≡ 3
    row_refuses_three i c asked x e =
        let second = order_rest (many_row (length ts)) _ passed in
        let third = order_rest (answers_row (length ts) (length b)) _ second in
        let axes = order_first (axis_row nx ny nz) _ third in
        let count = sym (order_last (count_row (size_of nx ny nz) (length s))) ∙ order_rest (axis_row nx ny nz) _ third in
        let cut = cut_of (get_or ts i 0) noise in
        ap (λ (y : Refusal). y.number) (holds_where (no_threshold cut) 3 cut.t x (sym (row_three nx ny nz s cut axes count) ∙ (refused_exactly _ _ _ asked x).0 e))

-- an empty row writes nothing, whatever the block
pub row_empty : (nx ny nz : ℕ) (s : List ℕ) (noise : ℕ) (b : List ℕ) (r : RowAnswer) (b' : List ℕ) → RowAnswered nx ny nz s [] noise b r b' → b' ≡ b
unfolding over below
row_empty nx ny nz s noise b row.Answered b' promise = after nx ny nz s [] noise b row.Answered b' promise refl
row_empty nx ny nz s noise b (row.Refused x) b' promise = row_keeps nx ny nz s [] noise b (row.Refused x) b' promise x refl

-- "An empty row on a good block": it is answered
pub row_empty_answered : (nx ny nz : ℕ) (s : List ℕ) (noise : ℕ) (b : List ℕ) (r : RowAnswer) (b' : List ℕ) → RowAnswered nx ny nz s [] noise b r b' → axis_row nx ny nz ≡ Passes
    → count_row (size_of nx ny nz) (length s) ≡ Passes → said_row r ≡ accepted tt
row_empty_answered nx ny nz s noise b r b' promise axes count =
    (row_accepts nx ny nz s [] noise b r b' promise).1
    (order_passes (many_row 0) _ refl
    ∙ order_passes (answers_row 0 (length b)) _ (sym (unless_passes (leb (3 * 0) (length b)) 15 0 (le-leb (3 * 0) (length b) (omega arith))))
    ∙ order_passes (axis_row nx ny nz) _ axes
    ∙ order_last (count_row (size_of nx ny nz) (length s))
    ∙ count)
