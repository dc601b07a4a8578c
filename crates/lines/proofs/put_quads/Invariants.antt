-- `put_quads` meets its contract: the lines of the quads before the one in hand are put.
-- Assumes nothing.
use Prim.Native.Nat.{◌+◌, ◌*◌, ◌-◌, ◌≤◌}
use mathlib.Core.Path.{◌≡◌}
use lib.ListN.{length}
use Rattle.laws.specs.Below.{below}
use Rattle.lines.specs.Output.{quad_line}
use Rattle.laws.specs.Put.{Put}
use Rattle.lines.proofs.put_quads.Given as goal

abbrev pub invariant-loop-q : goal.invariant-loop-q
invariant-loop-q l = (l.q ≤ l.count) × (l.next ≡ l.at + 35 * l.q) × Put l.initial.out l.at (below (quad_line l.quads) l.q) l.out l.next × (length l.out ≡ length l.initial.out)

abbrev pub decreases-loop-q : goal.decreases-loop-q
decreases-loop-q l = l.count - l.q
