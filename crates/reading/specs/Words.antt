-- Rows 8, 10, 11 and 12 of the table of refusals in the paper's words, and what their value names (document 02, Two). No promise is stated with them:
-- theorems say that the checks mean this.
use Rattle.std.specs.Prelude.{ℕ, ◌+◌, ◌-◌, ◌*◌, ◌/◌, ◌%◌, ◌≤◌, ◌<◌, ◌≡◌, ◌⊎◌, true, false, cond, List, eqb}
use Rattle.block.specs.declared.Refusal.{Refusal}
use Rattle.reading.specs.Text.{LF, ended, read_at, right_byte}
use Rattle.reading.specs.Faults.{Fault, none, missing, short, long, wrong}
use Rattle.reading.specs.Input.{row_place}

-- where a line begins, and how many digits it has: line 1, and the rows of nx samples from line 2 on
abbrev pub line_start : ℕ → ℕ → ℕ
line_start nx line = cond (eqb line 1) 0 (row_place nx (line - 2))

abbrev pub line_digits : ℕ → ℕ → ℕ
line_digits nx line = cond (eqb line 1) 16 (4 * nx)

-- 10 is for a short line, 11 for a long one, 12 for a wrong character. No higher number is given (`run_numbers`)
abbrev pub fault_of : ℕ → ℕ → Fault
fault_of number c = cond (eqb number 10) (short c) (cond (eqb number 11) (long c) (wrong c))

module _ (bytes : List ℕ) where
  -- in column c, from 0, of the line of n digits at p stands b: every byte before column c is right, and the one there is not
  pub record FirstWrong (p n c b : ℕ) : Type 0 where
    pub inside : c ≤ n
    pub before : (i : ℕ) → i < c → right_byte n i (read_at bytes (p + i)) ≡ true
    pub there : read_at bytes (p + c) ≡ b
    pub not_right : right_byte n c b ≡ false

  -- what it means that the line of n digits at p is right, missing, short, long, or has a wrong character. Short: "an early LF, or the end of input (counted as
  -- a byte) past column 1". Long: "another byte in place of its LF", which is in column n; an LF is right there, so it is not the wrong byte
  abbrev pub FaultIs : ℕ → ℕ → Fault → Type 0
  FaultIs p n none = (c : ℕ) → c ≤ n → right_byte n c (read_at bytes (p + c)) ≡ true
  FaultIs p n missing = FirstWrong p n 0 ended
  FaultIs p n (short c) = FirstWrong p n c LF ⊎ (FirstWrong p n c ended × (0 < c))
  FaultIs p n (long c) = (b : ℕ) × FirstWrong p n c b × (c ≡ n) × (b ≡ ended → ⊥)
  FaultIs p n (wrong c) = (b : ℕ) × FirstWrong p n c b × (c < n) × (b ≡ ended → ⊥) × (b ≡ LF → ⊥)

  -- the same of a line by its number
  abbrev pub LineIs : ℕ → ℕ → Fault → Type 0
  LineIs nx line fault = FaultIs (line_start nx line) (line_digits nx line) fault

  -- every line before this one is right
  abbrev pub RightBefore : ℕ → ℕ → Type 0
  RightBefore nx line = (m : ℕ) → 1 ≤ m → m < line → LineIs nx m none

  -- what a refusal 10, 11 or 12 names: the line in the upper 16 bits of its value, the column, from 1, in the lower ones, and the fault that is there
  pub record NamesByte (nx rows : ℕ) (x : Refusal) : Type 0 where
    pub line_low : 1 ≤ x.value / 65536
    pub line_high : x.value / 65536 ≤ rows + 1
    pub column_low : 1 ≤ x.value % 65536
    pub earlier : RightBefore nx (x.value / 65536)
    pub here : LineIs nx (x.value / 65536) (fault_of x.number (x.value % 65536 - 1))

  -- what a refusal 8 names: a line that is missing, or the one behind the last row
  pub record NamesLine (nx rows : ℕ) (x : Refusal) : Type 0 where
    pub line_low : 1 ≤ x.value
    pub earlier : RightBefore nx x.value
    pub here : ((x.value ≤ rows + 1) × LineIs nx x.value missing) ⊎ ((x.value ≡ rows + 2) × (read_at bytes (row_place nx rows) ≡ ended → ⊥))
