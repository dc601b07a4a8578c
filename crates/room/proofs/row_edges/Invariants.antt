-- `row_edges` meets its contract. The loop's invariant: m is the sum over the first w words of the row. The measure is what is left of the four.
-- Assumes nothing.
use mathlib.Core.Path.{◌≡◌}
use Prim.Native.Nat.{◌-◌, ◌*◌, ◌≤◌}
use Rattle.laws.specs.Counting.{total}
use Rattle.room.specs.Steps.{word_edges}
use Rattle.room.proofs.row_edges.Given as goal

abbrev pub invariant-loop-w : goal.invariant-loop-w
invariant-loop-w l = (l.w ≤ 4) × (l.m ≤ 192 * l.w) × (l.m ≡ total (word_edges l.a l.b l.limits l.ny l.j) l.w)

abbrev pub decreases-loop-w : goal.decreases-loop-w
decreases-loop-w l = 4 - l.w
