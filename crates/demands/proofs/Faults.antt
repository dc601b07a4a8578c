-- What the line of a refusal says to the clerk who reads it: 8 names the first wrong line of the input, and 10 to 12 name it with its first wrong byte.
use Prim.Native.Nat.{ℕ, ◌+◌, ◌*◌, ◌/◌, ◌%◌, ◌≤◌, ◌<◌}
use mathlib.Core.Path.{◌≡◌, ap}
use mathlib.Core.List.{List, [], ◌∷◌, ◌++◌}
use Rattle.block.specs.declared.Refusal.{Refusal}
use Rattle.reading.specs.Text.{LF, ended, read_at, hex_of}
use Rattle.reading.specs.Input.{row_place, size_read, cut_read, samples_read}
use Rattle.reading.specs.Words.{RightBefore, NamesByte, NamesLine}
use Rattle.reading.proofs.Named.{byte_named, line_named, lines_right}
use Rattle.reading.proofs.Rules.{hex_halves}
use Rattle.lines.specs.Output.{refusal_line, block_text, Prints, Ran}
use Rattle.demands.proofs.Refusals.{run_refuses, run_accepts}

-- the eight digits of the value: four for its upper half, which is the line of a refusal 10 to 12, and four for its lower half, which is the column
pub refusal_halves : (x : Refusal) → refusal_line x ≡ hex_of 2 255 ++ hex_of 2 x.number ++ (hex_of 4 (x.value / 65536) ++ hex_of 4 (x.value % 65536)) ++ LF ∷ []
unfolding refusal_line
refusal_halves x = ap (λ (value : List ℕ). hex_of 2 255 ++ hex_of 2 x.number ++ value ++ LF ∷ []) (hex_halves x.value)

module _ (bytes out : List ℕ) (r : ℕ) (out' : List ℕ) (promise : Ran bytes out r out') where
  abbrev nx : ℕ
  nx = (size_read bytes).nx

  abbrev rows : ℕ
  rows = (size_read bytes).ny * (size_read bytes).nz

  module _ (x : Refusal) (n : x.number < 256) (v : x.value ≤ 4294967295) (printed : Prints (refusal_line x) out r out') where
    pub run_names_byte : 10 ≤ x.number → NamesByte bytes nx rows x
    run_names_byte = byte_named bytes x ((run_refuses bytes out r out' promise x n v).0 printed)

    pub run_names_line : x.number ≡ 8 → NamesLine bytes nx rows x
    run_names_line = line_named bytes x ((run_refuses bytes out r out' promise x n v).0 printed)

  -- and where a mesh is printed, every line is right, and nothing stands behind the last row
  pub run_lines_right : Prints (block_text (size_read bytes) (samples_read bytes (size_read bytes)) (cut_read bytes)) out r out'
      → RightBefore bytes nx (rows + 2) × (read_at bytes (row_place nx rows) ≡ ended)
  run_lines_right printed = lines_right bytes ((run_accepts bytes out r out' promise).0 printed)
