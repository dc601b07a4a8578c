-- `block_edges` meets its contract. The loop's invariant: a has the signs of plane k, and m is the tally up to that plane. The measure is what is left of
-- the planes. Assumes nothing.
use Prim.Native.Nat.{◌+◌, ◌-◌, ◌*◌, ◌≤◌}
use mathlib.Core.Path.{◌≡◌}
use lib.ListN.{length}
use Rattle.signs.specs.Signs.{Plane}
use Rattle.room.proofs.Tallies.{tally}
use Rattle.room.proofs.block_edges.Given as goal

abbrev pub invariant-loop-k : goal.invariant-loop-k
invariant-loop-k l = (l.k + 1 ≤ l.nz) × Plane l.size l.samples l.cut l.k l.a × (length l.b ≡ 1280) × (l.m ≤ 196608 * (l.k + 1)) × (l.m ≡ tally l.size l.samples l.cut l.k)

abbrev pub decreases-loop-k : goal.decreases-loop-k
decreases-loop-k l = l.nz - l.k
