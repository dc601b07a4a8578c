-- The place of a set of edges in its cube, axis by axis, for all samples and thresholds (document 01, "Faces, loops and places").
-- A set of edges is a mask, a cube the list of its eight samples.
use Rattle.std.specs.Prelude.{ℕ, zero, suc, false, cond, List, eqb, pos, Float}
use Rattle.std.specs.Int.Count.{ones}
use Rattle.std.specs.Float.{fin, binary64}
use Rattle.std.specs.Float.Ieee.{add, div}
use Rattle.laws.specs.Bits.{holds}
use Rattle.block.specs.declared.Cut.{Cut}
use Rattle.cube_rule.specs.Edges.{lower, upper, axis_of, corner_on, corner_sample}
use Rattle.place.specs.declared.Offset.{Offset}
use Rattle.place.specs.Crossing.{float, fraction}

-- 0 and 1 as floats
abbrev pub plus_zero : Float
plus_zero = fin false 0 (pos 0)

abbrev pub one : Float
one = fin false 1 (pos 0)

-- "0, 1 or the fraction (the crossing's local coordinate)": on the axis a, of a crossing of the edge e at the fraction f
unfoldable pub local : ℕ → ℕ → Float → Float
local a e f = cond (eqb (axis_of e) a) f (cond (eqb (corner_on a (lower e)) 0) plus_zero one)

-- the fraction of an edge of a cube
unfoldable pub fraction_at : Cut → List ℕ → ℕ → Float
unfolding fraction
fraction_at cut corners e = fraction cut (corner_sample corners (lower e)) (corner_sample corners (upper e))

-- "for each axis start at plus zero, add over the loop's edges by rising number .. each sum rounded once": the edges below n
unfoldable pub sum_on : ℕ → ℕ → Cut → List ℕ → ℕ → Float
unfolding local fraction_at
sum_on a m cut corners zero = plus_zero
sum_on a m cut corners (suc e) =
    cond (holds m e)
    (add binary64 (sum_on a m cut corners e) (local a e (fraction_at cut corners e)))
    (sum_on a m cut corners e)

-- "then divide once by the number of edges in the loop"
unfoldable pub mean_on : ℕ → ℕ → Cut → List ℕ → Float
unfolding sum_on
mean_on a m cut corners = div binary64 (sum_on a m cut corners 12) (float (ones m))

-- "A loop's place is an offset in its cube, three f64"
unfoldable pub place_of : Cut → List ℕ → ℕ → Offset
unfolding mean_on
place_of cut corners m = record { x = mean_on 0 m cut corners; y = mean_on 1 m cut corners; z = mean_on 2 m cut corners }
