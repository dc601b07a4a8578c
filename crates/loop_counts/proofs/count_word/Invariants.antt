-- `count_word` meets its contract. The loop's invariant: w holds the bits from i on of the cubes that have neither one loop nor two, and those of
-- them before i are counted, besides the others. The measure is what is left of the 64 bits.
-- Assumes nothing.
use Prim.Native.Nat.{ℕ, ◌+◌, ◌-◌, ◌*◌, ◌≤◌}
use mathlib.Core.Path.{◌≡◌}
use lib.Bits.{bit_xor}
use lib.Count.{ones}
use lib.ListN.{length}
use Rattle.cube_rule.specs.Decider.{loops_of}
use Rattle.laws.specs.Below.{below}
use Rattle.laws.proofs.Visit.{Left}
use Rattle.rows.specs.Rows.{loops_at, picked}
use Rattle.rows.proofs.Visits.{bits_of}
use Rattle.loop_counts.proofs.count_word.Given as goal

abbrev pub invariant-loop-w : goal.invariant-loop-w
invariant-loop-w l = Left (bits_of (bit_xor l.left l.two)) 64 l.i l.w
    × (l.m ≡ ones l.one + 2 * ones l.two + length (below (picked (bit_xor l.left l.two) (λ (x : ℕ). loops_at loops_of l.lo l.hi l.row.cut l.row.nx (l.s + x))) l.i))
    × (l.m ≤ 192 + 4 * l.i)

abbrev pub decreases-loop-w : goal.decreases-loop-w
decreases-loop-w l = 64 - l.i
