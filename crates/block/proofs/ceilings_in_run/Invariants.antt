-- `ceilings_in_run` meets its contract. The loop's invariant: n counts the first i samples. The measure is what is left of the 256.
-- Assumes nothing.
use Prim.Native.Nat.{ℕ, ◌+◌, ◌-◌, ◌≤◌}
use mathlib.Core.Path.{◌≡◌}
use lib.ListN.{get_or}
use Rattle.laws.specs.Counting.{count}
use Rattle.block.specs.Grey.{is_ceiling}
use Rattle.block.proofs.ceilings_in_run.Given as goal

abbrev pub invariant-loop-i : goal.invariant-loop-i
invariant-loop-i l = (l.i ≤ 256) × (l.n ≤ l.i) × (l.n ≡ count (λ (x : ℕ). is_ceiling (get_or l.samples (l.from + x) 0)) l.i)

abbrev pub decreases-loop-i : goal.decreases-loop-i
decreases-loop-i l = 256 - l.i
