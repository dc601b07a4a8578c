-- `check_lines` meets its contract: all rows before the one in hand are right.
-- Assumes nothing.
use Prim.Native.Nat.{◌-◌, ◌≤◌}
use mathlib.Core.Path.{◌≡◌}
use Rattle.reading.specs.Input.{row_place}
use Rattle.reading.proofs.Rows.{AllPass, row_check}
use Rattle.reading.proofs.check_lines.Given as goal

abbrev pub invariant-loop-j : goal.invariant-loop-j
invariant-loop-j l = (l.j ≤ l.rows) × (l.at ≡ row_place l.nx l.j) × AllPass (row_check l.input l.nx) l.j

abbrev pub decreases-loop-j : goal.decreases-loop-j
decreases-loop-j l = l.rows - l.j
