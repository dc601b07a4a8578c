-- `begin` meets its contract: the first v vertices are pieces of their own.
-- Assumes nothing.
use mathlib.Core.Path.{◌≡◌}
use Prim.Native.Nat.{ℕ, ◌-◌, ◌≤◌}
use lib.ListN.{length}
use Rattle.laws.specs.Below.{over}
use Rattle.laws.proofs.Over.{each}
use Rattle.pieces.proofs.begin.Given as goal

abbrev pub invariant-loop-v : goal.invariant-loop-v
invariant-loop-v l = (l.v ≤ l.n) × (length l.up ≡ l.n) × (length l.size ≡ l.n) × (l.up ≡ over (each (λ (i : ℕ). i) l.v) l.initial.up) × (l.size ≡ over (each (λ (i : ℕ). 1) l.v) l.initial.size)

abbrev pub decreases-loop-v : goal.decreases-loop-v
decreases-loop-v l = l.n - l.v
