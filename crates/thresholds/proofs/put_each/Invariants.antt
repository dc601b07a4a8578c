-- `put_each` meets its contract. The loop's invariant: what the thresholds before i are told stands at the front. The measure is what is left of the thresholds.
-- Assumes nothing.
use Prim.Native.Nat.{◌-◌, ◌≤◌}
use mathlib.Core.Path.{◌≡◌}
use lib.ListN.{length}
use Rattle.thresholds.proofs.Threes.{Told}
use Rattle.thresholds.proofs.put_each.Given as goal

abbrev pub invariant-loop-i : goal.invariant-loop-i
invariant-loop-i l = (l.i ≤ length l.thresholds) × (length l.answers ≡ length l.initial.answers) × Told l.thresholds l.marks l.initial.answers l.i l.answers

abbrev pub decreases-loop-i : goal.decreases-loop-i
decreases-loop-i l = length l.thresholds - l.i
