-- `near` meets its contract: those of the vertices before the one in hand are counted.
-- Assumes nothing.
use Rattle.std.proofs.Common.{◌≡◌, ℕ, ◌+◌, ◌≤◌}
use Rattle.laws.specs.Counting.{count}
use Rattle.foundry_rule.specs.Spots.{cube_at}
use Rattle.foundry_vertices.specs.Steps.{in_range}
use Rattle.foundry_vertices.proofs.near.Given as goal

abbrev pub invariant-loop-i : goal.invariant-loop-i
invariant-loop-i l = record { value : l.n ≡ count (λ (k : ℕ). in_range l.r (cube_at l.words (l.v + k))) l.i; small : l.n ≤ l.i }
