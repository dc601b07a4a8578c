-- `write_block` meets its contract. The loop's invariant: a has the signs of plane k, and the layers before k are written. The measure is
-- what is left of the layers. Assumes nothing.
use Prim.Native.Nat.{◌+◌, ◌-◌, ◌≤◌, ◌<◌}
use mathlib.Core.Path.{◌≡◌}
use lib.ListN.{length}
use Rattle.cube_rule.specs.Decider.{loops_of}
use Rattle.mesh_rule.specs.Layers.{layer_first}
use Rattle.signs.specs.Signs.{Plane}
use Rattle.mesh.specs.Source.{block_of}
use Rattle.mesh.specs.Writes.{Writing}
use Rattle.mesh.proofs.write_block.Given as goal

abbrev pub invariant-loop-k : goal.invariant-loop-k
invariant-loop-k l = (l.k + 1 ≤ l.nz) × Plane l.size (block_of l.source l.samples l.readings) l.cut l.k l.a × (length l.b ≡ 1280) × (0 < l.k → l.below ≡ layer_first loops_of l.size (block_of l.source l.samples l.readings) l.cut (l.k - 1)) × Writing loops_of l.size (block_of l.source l.samples l.readings) l.cut 0 l.k l.m l.initial.words l.words l.initial.offsets l.offsets l.initial.quads l.quads

abbrev pub decreases-loop-k : goal.decreases-loop-k
decreases-loop-k l = l.nz - l.k
