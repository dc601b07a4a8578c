-- `mark` meets its contract. The loop's invariant: no corner before i is at the ceiling. The measure is what is left of the eight.
-- Assumes nothing.
use Prim.Native.Nat.{ℕ, ◌-◌, ◌≤◌, ◌<◌}
use mathlib.Core.Path.{◌≡◌}
use mathlib.Core.Bool.{false}
use lib.ListN.{get_or}
use Rattle.block.specs.Grey.{is_ceiling}
use Rattle.cell.proofs.mark.Given as goal

abbrev pub invariant-loop-i : goal.invariant-loop-i
invariant-loop-i l = (l.i ≤ 8) × ((k : ℕ) → k < l.i → is_ceiling (get_or l.corners k 0) ≡ false)

abbrev pub decreases-loop-i : goal.decreases-loop-i
decreases-loop-i l = 8 - l.i
