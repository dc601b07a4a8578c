-- `keep_plane` meets its contract: the words before i of the plane stand at the front.
-- Assumes nothing.
use mathlib.Core.Path.{◌≡◌}
use Rattle.laws.specs.Below.{over}
use Rattle.laws.proofs.Over.{each}
use Rattle.plane_layers.proofs.Copies.{word_at}
use Rattle.plane_layers.proofs.keep_plane.Given as goal

abbrev pub invariant-loop-i : goal.invariant-loop-i
invariant-loop-i l = l.work ≡ over (each (word_at l.plane) l.i) l.initial.work
