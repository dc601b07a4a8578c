-- Inputs whose first wrong byte is named, computed (document 02, Two): each begins with axes 2, 2, 2 and threshold 100, or ends before
-- line 1 is whole.
-- Assumes nothing.
use mathlib.Core.Path.{◌≡◌, refl}
use mathlib.Core.List.{List, [], ◌∷◌, ◌++◌}
use Prim.Native.Nat.{ℕ}
use Rattle.laws.specs.Below.{below}
use Rattle.laws.specs.Leading.{leading}
use Rattle.block.specs.Answer.{refuses, in_order}
use Rattle.block.specs.Rows.{lowest, lowest_row}
use Rattle.reading.specs.Text.{digits, LF, number_at, right_bytes, hex_of}
use Rattle.reading.specs.Faults.{fault_at}
use Rattle.reading.specs.Input.{input_verdict}

abbrev cube_line : List ℕ
cube_line = hex_of 4 2 ++ hex_of 4 2 ++ hex_of 4 2 ++ hex_of 4 100

pub record WrongLines : Type 0 where
  -- an empty line 1
  pub line_feed_alone : input_verdict (LF ∷ []) ≡ refuses 10 0x00010001
  -- the input ends behind one digit
  pub digit_alone : input_verdict (48 ∷ []) ≡ refuses 10 0x00010002
  -- line 1 with all its digits, and no LF
  pub end_missing : input_verdict cube_line ≡ refuses 10 0x00010011
  -- CR in place of the LF of line 1
  pub carriage_return : input_verdict (cube_line ++ 13 ∷ LF ∷ []) ≡ refuses 11 0x00010011
  -- line 1 alone
  pub rows_missing : input_verdict (cube_line ++ LF ∷ []) ≡ refuses 8 2
  -- a row of one sample where there should be two
  pub row_short : input_verdict (cube_line ++ LF ∷ hex_of 4 0 ++ LF ∷ []) ≡ refuses 10 0x00020005
  -- a lower-case digit at the end of the first row
  pub lower_case : input_verdict (cube_line ++ LF ∷ hex_of 7 0 ++ 97 ∷ LF ∷ []) ≡ refuses 12 0x00020008
  -- all four rows, and an LF behind them
  pub line_behind : input_verdict (cube_line ++ LF ∷ below (λ (j : ℕ). hex_of 8 0 ++ LF ∷ []) 4 ++ LF ∷ []) ≡ refuses 8 6

pub wrong_lines : WrongLines
unfolding in_order fault_at right_bytes leading digits lowest lowest_row hex_of number_at below
wrong_lines = record {
  line_feed_alone = refl;
  digit_alone = refl;
  end_missing = refl;
  carriage_return = refl;
  rows_missing = refl;
  row_short = refl;
  lower_case = refl;
  line_behind = refl;
}
