-- `layers_from` meets its contract. The loop's invariant: a has the signs of plane k, and the layers before k are counted. The measure is
-- what is left of the layers. Assumes nothing.
use Prim.Native.Nat.{◌-◌, ◌≤◌}
use mathlib.Core.Path.{◌≡◌}
use lib.ListN.{length}
use Rattle.cube_rule.specs.Decider.{loops_of}
use Rattle.signs.specs.Signs.{Plane}
use Rattle.mesh.specs.Source.{block_of}
use Rattle.mesh.specs.Steps.{Counting}
use Rattle.mesh.proofs.layers_from.Given as goal

abbrev pub invariant-loop-k : goal.invariant-loop-k
invariant-loop-k l = (l.k ≤ l.to) × Plane l.size (block_of l.source l.samples l.readings) l.cut l.k l.a × (length l.b ≡ 1280) × Counting loops_of l.size (block_of l.source l.samples l.readings) l.cut 0 l.k l.w

abbrev pub decreases-loop-k : goal.decreases-loop-k
decreases-loop-k l = l.to - l.k
