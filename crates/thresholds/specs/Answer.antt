-- What a row of thresholds over one block answers, and what its buffer holds afterwards (document 02, Eight).
use Rattle.std.specs.Prelude.{ℕ, ◌*◌, ◌≡◌, cond, List, [], ◌∷◌, leb, length, get_or}
use Rattle.laws.specs.Below.{below}
use Rattle.block.specs.declared.Checked.{Checked}
use Rattle.block.specs.declared.Checked.TheVariants.{Passes}
use Rattle.block.specs.Answer.{Answer, accepted, refused, refuses, in_order, judged, written}
use Rattle.block.specs.Grey.{cut_of}
use Rattle.block.specs.Rows.{axis_row, count_row}
use Rattle.block.specs.Size.{size_of}
use Rattle.mesh.specs.Answer.{counts_answer, told_counts}
use Rattle.thresholds.specs.declared.RowAnswer.{RowAnswer}
use Rattle.thresholds.specs.declared.RowAnswer.TheVariants as row

-- 16: "more than 16 thresholds (value: how many)"
abbrev pub many_row : ℕ → Checked
many_row m = cond (leb m 16) Passes (refuses 16 m)

-- 15: "a short answer buffer (value: thresholds)"; each threshold takes three places of it
abbrev pub answers_row : ℕ → ℕ → Checked
answers_row m room = cond (leb (3 * m) room) Passes (refuses 15 m)

-- "16 .., then 15 .., then 1 and 2, all for the whole call; 3 is an answer of its threshold"
abbrev pub whole_rows : ℕ → ℕ → ℕ → List ℕ → List ℕ → ℕ → List Checked
whole_rows nx ny nz s ts room = many_row (length ts) ∷ answers_row (length ts) room ∷ axis_row nx ny nz ∷ count_row (size_of nx ny nz) (length s) ∷ []

abbrev pub row_verdict : ℕ → ℕ → ℕ → List ℕ → List ℕ → ℕ → Checked
row_verdict nx ny nz s ts room = in_order (whole_rows nx ny nz s ts room)

-- "for each its counts or its refusal, equal to asking one at a time": three numbers for each threshold, in the order of the row. One noise figure is for all
abbrev pub answers_of : ℕ → ℕ → ℕ → List ℕ → List ℕ → ℕ → List ℕ
answers_of nx ny nz s ts noise = below (λ (i : ℕ). told_counts (counts_answer nx ny nz s (cut_of (get_or ts i 0) noise))) (length ts)

-- 02's number and values of each case; a row that is answered has no value of its own
abbrev pub said_row : RowAnswer → Answer Unit
said_row row.Answered = accepted tt
said_row (row.Refused r) = refused r

-- the answer, and the buffer b at entry and b' at exit, where the checks say k and the answers are xs
pub record RowBy (k : Checked) (xs b : List ℕ) (r : RowAnswer) (b' : List ℕ) : Type 0 where
  pub answer : said_row r ≡ judged k tt
  pub answers : b' ≡ written k xs b

-- the promise of `counts_row`
abbrev pub RowAnswered : ℕ → ℕ → ℕ → List ℕ → List ℕ → ℕ → List ℕ → RowAnswer → List ℕ → Type 0
RowAnswered nx ny nz s ts noise b r b' = RowBy (row_verdict nx ny nz s ts (length b)) (answers_of nx ny nz s ts noise) b r b'
