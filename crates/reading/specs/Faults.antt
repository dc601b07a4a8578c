-- Which byte of a line is wrong, and the rows of the table of refusals that say so (document 02, Two).
use Rattle.std.specs.Prelude.{ℕ, ◌+◌, ◌*◌, cond, List, eqb}
use Rattle.block.specs.declared.Checked.{Checked}
use Rattle.block.specs.declared.Checked.TheVariants.{Passes}
use Rattle.block.specs.Answer.{refuses}
use Rattle.reading.specs.Text.{LF, ended, read_at, right_bytes}

-- what is wrong with a line: nothing, or it is missing, short, long, or has a wrong character. The last three have the column, from 0, of its first wrong byte
pub data Fault : Type 0 where
  none missing : Fault
  short long wrong : ℕ → Fault

-- the first wrong byte of a line of n digits is b, in column c, from 0: "an early LF, or the end of input (counted as a byte) past column 1, makes it short,
-- and another byte in place of its LF makes it long". An LF that is wrong is early: in column n it is right
abbrev pub fault_by : ℕ → ℕ → ℕ → Fault
fault_by n c b = cond (eqb b ended) (cond (eqb c 0) missing (short c)) (cond (eqb b LF) (short c) (cond (eqb c n) (long c) (wrong c)))

-- "The first wrong byte .. decides": of the line of n digits at p
unfoldable pub fault_at : List ℕ → ℕ → ℕ → Fault
fault_at bytes p n = cond (eqb (right_bytes bytes p n) (n + 1)) none (fault_by n (right_bytes bytes p n) (read_at bytes (p + right_bytes bytes p n)))

-- "the value holds the line in its upper 16 bits and the column, from 1, in its lower ones"
abbrev pub line_column : ℕ → ℕ → ℕ
line_column line c = 65536 * line + (c + 1)

-- 8: the line is missing; its number, from 1. 10, 11 and 12: it is short, it is long, or it has a wrong character; line and column
abbrev pub fault_row : ℕ → Fault → Checked
fault_row line none = Passes
fault_row line missing = refuses 8 line
fault_row line (short c) = refuses 10 (line_column line c)
fault_row line (long c) = refuses 11 (line_column line c)
fault_row line (wrong c) = refuses 12 (line_column line c)

-- the check of the line with this number, which has n digits and begins at p
abbrev pub line_row : List ℕ → ℕ → ℕ → ℕ → Checked
line_row bytes line p n = fault_row line (fault_at bytes p n)
