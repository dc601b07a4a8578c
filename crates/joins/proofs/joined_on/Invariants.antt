-- `joined_on` meets its contract. The loop's invariant: w holds the bits of `doubtful` from n on, and v those before n whose faces have joined positive
-- corners. The measure is what is left of the 64 bits.
-- Assumes nothing.
use Prim.Native.Nat.{◌-◌}
use mathlib.Core.Path.{◌≡◌}
use Rattle.laws.specs.Pack.{pack}
use Rattle.laws.proofs.Visit.{Left}
use Rattle.joins.specs.Joined.{joined_at}
use Rattle.joins.proofs.JoinedFaces.{bits_where}
use Rattle.rows.proofs.Visits.{bits_of}
use Rattle.joins.proofs.joined_on.Given as goal

abbrev pub invariant-loop-w : goal.invariant-loop-w
invariant-loop-w l = record { left : Left (bits_of l.doubtful) 64 l.n l.w; made : l.v ≡ pack (bits_where l.doubtful (joined_at l.cut l.near l.far l.step)) l.n }

abbrev pub decreases-loop-w : goal.decreases-loop-w
decreases-loop-w l = 64 - l.n
