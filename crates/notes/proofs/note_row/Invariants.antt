-- `note_row` meets its contract. The loop's invariant: whatever row stands there, its cubes whose first vertex is before v are noted;
-- and whatever stands there, the vertices before v are noted one by one.
-- Assumes nothing.
use Rattle.std.proofs.Common.{ℕ, List}
use Rattle.notes.specs.Tables.{RowOf}
use Rattle.notes.proofs.ReadBack.{Passed, NotedTo}
use Rattle.notes.proofs.note_row.Given as goal

abbrev pub invariant-loop-v : goal.invariant-loop-v
invariant-loop-v l = record {
  passed : (f : ℕ → List ℕ) → RowOf f l.m l.c l.from l.part → Passed f l.m l.from l.first l.v l.numbers;
  noted : NotedTo l.m l.c l.from l.first l.part l.initial.numbers l.v l.numbers;
}
