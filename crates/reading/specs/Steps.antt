-- What a step of reading or writing promises: a digit, a sample.
-- Assumes nothing.
use Rattle.std.specs.Prelude.{ℕ, ◌+◌, ◌*◌, ◌/◌, ◌%◌, List, get_or}
use Rattle.reading.specs.Text.{digits, number_at}
use Rattle.reading.specs.Input.{row_place}

-- the digit of a number below 16
abbrev pub glyph : ℕ → ℕ
glyph d = get_or digits d 0

-- the sample with index i
abbrev pub sample_read : List ℕ → ℕ → ℕ → ℕ
sample_read bytes nx i = number_at bytes (row_place nx (i / nx) + 4 * (i % nx)) 4
