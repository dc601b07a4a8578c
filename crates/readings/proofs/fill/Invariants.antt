-- `fill` meets its contract. The loop's invariant: the grey values of the first i readings stand at the front. The measure is what is left of the part.
-- Assumes nothing.
use Prim.Native.Nat.{◌-◌, ◌≤◌}
use mathlib.Core.Path.{◌≡◌}
use lib.ListN.{length, get_or}
use lib.Ieee.{nan}
use Rattle.laws.specs.Below.{over}
use Rattle.laws.proofs.Over.{each}
use Rattle.readings.specs.Reading.{reading_of, grey_of}
use Rattle.readings.proofs.fill.Given as goal

abbrev pub invariant-loop-i : goal.invariant-loop-i
invariant-loop-i l = (l.i ≤ l.n) × (length l.window ≡ length l.initial.window) × (l.window ≡ over (each (λ x. grey_of (reading_of (get_or l.part x nan))) l.i) l.initial.window)

abbrev pub decreases-loop-i : goal.decreases-loop-i
decreases-loop-i l = l.n - l.i
