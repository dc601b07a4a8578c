-- `count_row` meets its contract. The loop's invariant: the loops of the cubes of the words before w are counted. The measure is what is left
-- of four words.
-- Assumes nothing.
use Prim.Native.Nat.{◌-◌, ◌*◌, ◌≤◌}
use mathlib.Core.Path.{◌≡◌}
use lib.ListN.{length}
use Rattle.cube_rule.specs.Decider.{loops_of}
use Rattle.rows.proofs.WordSteps.{masks_to}
use Rattle.loop_counts.proofs.count_row.Given as goal

abbrev pub invariant-loop-w : goal.invariant-loop-w
invariant-loop-w l = (l.w ≤ 4) × (l.m ≡ length (masks_to loops_of l.lo l.hi l.row.cut l.row.nx (64 * l.w))) × (l.m ≤ 256 * l.w)

abbrev pub decreases-loop-w : goal.decreases-loop-w
decreases-loop-w l = 4 - l.w
