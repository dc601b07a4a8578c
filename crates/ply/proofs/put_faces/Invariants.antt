-- `put_faces` meets its contract: the faces before the one in hand are put.
-- Assumes nothing.
use Prim.Native.Nat.{◌+◌, ◌*◌, ◌-◌, ◌≤◌}
use mathlib.Core.Path.{◌≡◌}
use lib.ListN.{length}
use Rattle.laws.specs.Below.{below}
use Rattle.laws.specs.Put.{Put}
use Rattle.ply.specs.File.{face_bytes}
use Rattle.ply.proofs.put_faces.Given as goal

abbrev pub invariant-loop-q : goal.invariant-loop-q
invariant-loop-q l = (l.q ≤ l.count) × (l.next ≡ l.at + 17 * l.q) × Put l.initial.out l.at (below (face_bytes l.quads) l.q) l.out l.next × (length l.out ≡ length l.initial.out)

abbrev pub decreases-loop-q : goal.decreases-loop-q
decreases-loop-q l = l.count - l.q
