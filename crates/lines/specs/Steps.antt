-- What a step of the program promises or asks.
-- Assumes nothing.
use Rattle.std.specs.Prelude.{ℕ, ◌<◌, ◌≡◌, not, List, [], ◌∷◌, ◌++◌, T, Float, length, get_or}
use Rattle.std.specs.Float.Ieee.{is_nan, to_bits}
use Rattle.std.specs.Float.{nan, binary64}
use Rattle.block.specs.declared.Checked.{Checked}
use Rattle.block.specs.declared.Checked.TheVariants.{Passes}
use Rattle.block.specs.Answer.{decided}
use Rattle.block.specs.Rows.{axis_row, threshold_row}
use Rattle.reading.specs.Text.{LF, hex_of}
use Rattle.reading.specs.Input.{large_row}
use Rattle.lines.specs.Output.{refusal_line}

-- what is written where the checks say k: the text, or a refusal
abbrev pub printed : Checked → List ℕ → List ℕ
printed k text = decided k text refusal_line

-- no element is a NaN
abbrev pub Numbers : List Float → Type 0
Numbers xs = (k : ℕ) → k < length xs → T (not (is_nan (get_or xs k nan)))

-- axes and a threshold that rows 1, 9 and 3 pass
pub record Readable (nx ny nz t : ℕ) : Type 0 where
  pub axes : axis_row nx ny nz ≡ Passes
  pub small : large_row nx ny nz ≡ Passes
  pub cut : threshold_row (record { t = t; noise = 0 }) ≡ Passes

-- the line of a vertex, and of a quad, by its fields
unfoldable pub vertex_fields : ℕ → ℕ → Float → Float → Float → List ℕ
vertex_fields cube word x y z =
    hex_of 2 1 ++ hex_of 8 cube ++ hex_of 4 word ++ hex_of 16 (to_bits binary64 x) ++ hex_of 16 (to_bits binary64 y) ++ hex_of 16 (to_bits binary64 z) ++ LF ∷ []

unfoldable pub quad_fields : ℕ → ℕ → ℕ → ℕ → List ℕ
quad_fields a b c d = hex_of 2 2 ++ hex_of 8 a ++ hex_of 8 b ++ hex_of 8 c ++ hex_of 8 d ++ LF ∷ []
