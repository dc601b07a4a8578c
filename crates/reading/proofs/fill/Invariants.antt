-- `fill` meets its contract: the samples before the one in hand stand at the front of the buffer.
-- Assumes nothing.
use Prim.Native.Nat.{◌-◌, ◌≤◌}
use mathlib.Core.Path.{◌≡◌}
use lib.ListN.{length}
use Rattle.laws.specs.Below.{over}
use Rattle.laws.proofs.Over.{each}
use Rattle.reading.specs.Steps.{sample_read}
use Rattle.reading.proofs.fill.Given as goal

abbrev pub invariant-loop-i : goal.invariant-loop-i
invariant-loop-i l = (l.i ≤ l.count) × (l.samples ≡ over (each (sample_read l.input l.nx) l.i) l.initial.samples) × (length l.samples ≡ length l.initial.samples)

abbrev pub decreases-loop-i : goal.decreases-loop-i
decreases-loop-i l = l.count - l.i
