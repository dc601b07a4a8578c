-- `count_row` meets its contract. The loop's invariant: m is the sum of the ones of the first w words.
-- Assumes nothing.
use Rattle.std.proofs.Common.{◌≡◌, ℕ, ◌*◌, ◌≤◌}
use lib.Count.{ones}
use Rattle.laws.specs.Counting.{total}
use Rattle.quads.specs.Edges.{edges_of}
use Rattle.quads.proofs.count_row.Given as goal

abbrev pub invariant-loop-w : goal.invariant-loop-w
invariant-loop-w l = record {
  few : l.m ≤ 64 * l.w;
  sum : l.m ≡ total (λ (v : ℕ). ones (edges_of l.along l.a l.b l.nx l.j v)) l.w;
}
