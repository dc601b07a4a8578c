-- `cube::links_of` meets its contract. The loop's invariant: the links of the first `f` faces are found.
-- Assumes nothing.
use Rattle.std.proofs.Common.{◌≡◌}
use Rattle.cube.proofs.Faces.{links_to}
use Rattle.cube.proofs.links_of.Given as goal

abbrev pub invariant-loop-f : goal.invariant-loop-f
invariant-loop-f l = l.links ≡ links_to l.cut l.corners l.f
