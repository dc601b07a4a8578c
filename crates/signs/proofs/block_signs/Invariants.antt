-- `block_signs` meets its contract. The loop's invariant: the words of the first j rows stand at the front of the buffer, and the rest is as it
-- was. Assumes nothing.
use Rattle.std.proofs.Common.{◌≡◌, ◌*◌}
use Rattle.laws.specs.Below.{over}
use Rattle.laws.proofs.Over.{each}
use Rattle.signs.specs.Steps.{plane_from}
use Rattle.signs.proofs.block_signs.Given as goal

abbrev pub invariant-loop-j : goal.invariant-loop-j
invariant-loop-j g l = l.plane ≡ over (each (plane_from (g.B.Samples.greys l.samples) l.cut.t l.nx l.ny l.k) (5 * l.j)) l.initial.plane
