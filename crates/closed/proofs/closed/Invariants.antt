-- `closed` meets its promise. The side in hand is 4·quad + side, and every side before it is in order; `there` and `back` are how many of the
-- first m sides are walked from one end to the other, and how many the other way. The measures are the quads, the sides and the walks that are left.
-- Assumes nothing.
use mathlib.Core.Path.{◌≡◌}
use Prim.Native.Nat.{◌+◌, ◌*◌, ◌-◌, ◌%◌, ◌≤◌}
use lib.ListN.{length}
use Rattle.laws.proofs.Leading.{HoldsTo}
use Rattle.closed.specs.Closed.{side_sound}
use Rattle.closed.specs.Steps.{walks_before}
use Rattle.closed.proofs.closed.Given as goal

abbrev pub invariant-walks : goal.invariant-walks
invariant-walks l = (l.m ≤ length l.quads) × (l.there ≤ l.m) × (l.back ≤ l.m) × (l.there ≡ walks_before l.quads l.a l.b l.m) × (l.back ≡ walks_before l.quads l.b l.a l.m)

abbrev pub decreases-walks : goal.decreases-walks
decreases-walks l = length l.quads - l.m

abbrev pub invariant-sides : goal.invariant-sides
invariant-sides l = (l.side ≤ 4) × HoldsTo (side_sound l.quads) (4 * l.quad + l.side)

abbrev pub decreases-sides : goal.decreases-sides
decreases-sides l = 4 - l.side

abbrev pub invariant-quads : goal.invariant-quads
invariant-quads l = (l.quad ≤ l.count) × HoldsTo (side_sound l.quads) (4 * l.quad) × (length l.quads % 4 ≡ 0)

abbrev pub decreases-quads : goal.decreases-quads
decreases-quads l = l.count - l.quad
