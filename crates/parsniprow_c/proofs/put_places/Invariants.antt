-- `put_places` meets its contract. The loop's invariant: the first i values are over the front. The measure is what is left of them.
-- Assumes nothing.
use Prim.Native.Nat.{◌-◌, ◌≤◌}
use mathlib.Core.Path.{◌≡◌}
use lib.ListN.{length, take}
use Rattle.laws.specs.Below.{over}
use Rattle.parsniprow_c.proofs.put_places.Given as goal

abbrev pub invariant-loop-i : goal.invariant-loop-i
invariant-loop-i l = (l.i ≤ length l.values) × (l.i ≤ length l.initial.place) × (length l.place ≡ length l.initial.place) × (l.place ≡ over (take l.i l.values) l.initial.place)

abbrev pub decreases-loop-i : goal.decreases-loop-i
decreases-loop-i l = length l.values - l.i
