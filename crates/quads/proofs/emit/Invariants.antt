-- `emit` meets its contract. The loop's invariant: w holds the bits from i on, and the quads of those before are written. The measure is what
-- is left of the 64 bits.
-- Assumes nothing.
use Rattle.std.proofs.Common.{ℕ, ◌+◌, ◌-◌, ◌/◌, ◌%◌, ◌^◌, List}
use Rattle.laws.specs.Below.{below}
use Rattle.laws.specs.Put.{Put}
use Rattle.laws.proofs.Visit.{Left}
use Rattle.rows.specs.Rows.{picked}
use Rattle.rows.proofs.Visits.{bits_of}
use Rattle.quads.specs.declared.Order.{Order}
use Rattle.quads.specs.declared.Run.{Run}
use Rattle.quads.specs.Writing.{quad_by}
use Rattle.quads.proofs.emit.Given as goal

-- the quad of the edge at a bit of a run
abbrev pub quad_of : Order → Run → List ℕ → List ℕ → List ℕ → List ℕ → ℕ → List ℕ
quad_of o r n0 n1 n2 n3 i = quad_by o.e o.back o.sign n0 n1 n2 n3 (r.up / 2 ^ i % 2) (r.x + i)

abbrev pub invariant-loop-w : goal.invariant-loop-w
invariant-loop-w l = record {
  left : Left (bits_of l.run.d) 64 l.i l.w;
  written : Put l.initial.quads l.from (below (picked l.run.d (quad_of l.order l.run l.n0 l.n1 l.n2 l.n3)) l.i) l.quads l.p;
}

abbrev pub decreases-loop-w : goal.decreases-loop-w
decreases-loop-w l = 64 - l.i
