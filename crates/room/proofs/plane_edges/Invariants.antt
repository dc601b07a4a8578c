-- `plane_edges` meets its contract. The loop's invariant: m is the sum over the rows before j. The measure is what is left of the rows.
-- Assumes nothing.
use mathlib.Core.Path.{◌≡◌}
use Prim.Native.Nat.{◌-◌, ◌*◌, ◌≤◌}
use Rattle.laws.specs.Counting.{total}
use Rattle.room.specs.Steps.{row_edges}
use Rattle.room.proofs.plane_edges.Given as goal

abbrev pub invariant-loop-j : goal.invariant-loop-j
invariant-loop-j l = (l.j ≤ l.ny) × (l.m ≤ 768 * l.j) × (l.m ≡ total (row_edges l.a l.b l.limits l.ny) l.j)

abbrev pub decreases-loop-j : goal.decreases-loop-j
decreases-loop-j l = l.ny - l.j
