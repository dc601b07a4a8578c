-- `some_fault` meets its contract. The loop's invariant: if no fault was seen, none of the first i readings is at fault. The measure is what is left of the part.
-- Assumes nothing.
use Prim.Native.Nat.{ℕ, ◌-◌, ◌≤◌}
use mathlib.Core.Path.{◌≡◌}
use Rattle.readings.specs.Steps.{SoundTo}
use Rattle.readings.proofs.some_fault.Given as goal

abbrev pub invariant-loop-i : goal.invariant-loop-i
invariant-loop-i l = (l.i ≤ l.n) × ((◌≡◌ {A = ℕ} l.seen 0) → SoundTo l.part l.i)

abbrev pub decreases-loop-i : goal.decreases-loop-i
decreases-loop-i l = l.n - l.i
