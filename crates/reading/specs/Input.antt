-- What the program reads, and the rows of the table of refusals that it tries (document 01, "The program").
use Rattle.std.specs.Prelude.{ℕ, ◌+◌, ◌*◌, ◌/◌, ◌%◌, cond, List, [], ◌∷◌, ◌++◌, ltb, eqb}
use Rattle.laws.specs.Below.{below}
use Rattle.block.specs.declared.Cut.{Cut}
use Rattle.block.specs.declared.Size.{Size}
use Rattle.block.specs.declared.Checked.{Checked}
use Rattle.block.specs.declared.Checked.TheVariants.{Passes}
use Rattle.block.specs.Answer.{refuses, in_order}
use Rattle.block.specs.Grey.{cut_of}
use Rattle.block.specs.Numbering.{sample_count}
use Rattle.block.specs.Rows.{lowest_row, axis_row, threshold_row}
use Rattle.reading.specs.Text.{ended, read_at, number_at}
use Rattle.reading.specs.Faults.{line_row}

-- 9: an axis is over 8; the lowest such axis
abbrev pub large_row : ℕ → ℕ → ℕ → Checked
large_row nx ny nz = lowest_row 9 (ltb 8) (nx ∷ ny ∷ nz ∷ [])

-- row j of nx samples, four digits each, begins behind line 1, which has 17 bytes, and behind the rows before it
abbrev pub row_place : ℕ → ℕ → ℕ
row_place nx j = 17 + j * (4 * nx + 1)

module _ (bytes : List ℕ) where
  -- line 1: four numbers of four digits
  abbrev pub first_line_row : Checked
  first_line_row = line_row bytes 1 0 16

  -- line j + 2 is row j
  abbrev pub row_checks : ℕ → ℕ → List Checked
  row_checks nx rows = below (λ (j : ℕ). line_row bytes (j + 2) (row_place nx j) (4 * nx) ∷ []) rows

  -- 8: a line is surplus, since something stands at p, behind the last row; the number of that line
  abbrev pub surplus_row : ℕ → ℕ → Checked
  surplus_row line p = cond (eqb (read_at bytes p) ended) Passes (refuses 8 line)

  -- "then the rows, then the end of input": the first wrong line decides
  abbrev pub lines_row : ℕ → ℕ → Checked
  lines_row nx rows = in_order (row_checks nx rows ++ surplus_row (rows + 2) (row_place nx rows) ∷ [])

  -- the samples of a block, by rising index: "one line for each row of nx samples, four digits each, y before z"
  unfoldable pub samples_read : Size → List ℕ
  samples_read n = below (λ (i : ℕ). number_at bytes (row_place n.nx (i / n.nx) + 4 * (i % n.nx)) 4 ∷ []) (sample_count n)

  -- "Line 1: nx, ny, nz, t, four digits each"
  abbrev pub size_read : Size
  size_read = record { nx = number_at bytes 0 4; ny = number_at bytes 4 4; nz = number_at bytes 8 4 }

  abbrev pub cut_read : Cut
  cut_read = cut_of (number_at bytes 12 4) 0

  -- "Line 1 is read, then refusals 1, 9, 3 are tried, then the rows, then the end of input"
  abbrev pub input_rows : Size → Cut → List Checked
  input_rows n cut = first_line_row ∷ axis_row n.nx n.ny n.nz ∷ large_row n.nx n.ny n.nz ∷ threshold_row cut ∷ lines_row n.nx (n.ny * n.nz) ∷ []

  abbrev pub input_verdict : Checked
  input_verdict = in_order (input_rows size_read cut_read)
