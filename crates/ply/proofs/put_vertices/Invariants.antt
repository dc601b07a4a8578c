-- `put_vertices` meets its contract: the vertices before the one in hand are put.
-- Assumes nothing.
use Prim.Native.Nat.{◌+◌, ◌*◌, ◌-◌, ◌≤◌}
use mathlib.Core.Path.{◌≡◌}
use lib.ListN.{length}
use Rattle.laws.specs.Below.{below}
use Rattle.laws.specs.Put.{Put}
use Rattle.block.specs.Size.{size_of}
use Rattle.ply.specs.File.{vertex_bytes}
use Rattle.ply.proofs.put_vertices.Given as goal

abbrev pub invariant-loop-v : goal.invariant-loop-v
invariant-loop-v l = (l.v ≤ l.count) × (l.next ≡ l.at + 24 * l.v) × Put l.initial.out l.at (below (vertex_bytes (size_of l.nx l.ny l.nz) l.words l.offsets l.s) l.v) l.out l.next × (length l.out ≡ length l.initial.out)

abbrev pub decreases-loop-v : goal.decreases-loop-v
decreases-loop-v l = l.count - l.v
