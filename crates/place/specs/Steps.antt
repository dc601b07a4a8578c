-- The steps by which the code builds a place: an offset with one crossing more, the sum over some edges, and the division at the end.
-- Assumes nothing.
use Rattle.std.specs.Prelude.{ℕ, ◌<◌, ◌≡◌, true, List, Float}
use Rattle.std.specs.Float.{binary64}
use Rattle.std.specs.Float.Ieee.{add, div}
use Rattle.laws.specs.Bits.{holds}
use Rattle.block.specs.declared.Cut.{Cut}
use Rattle.block.specs.declared.Checked.TheVariants.{Passes}
use Rattle.block.specs.Rows.{threshold_row}
use Rattle.cube_rule.specs.Edges.{crossed_at}
use Rattle.place.specs.declared.Offset.{Offset}
use Rattle.place.specs.Crossing.{float}
use Rattle.place.specs.Place.{local, fraction_at, sum_on}

-- what `place` requires: a set of crossed edges of a cube, and a threshold that row 3 passes
pub record Placeable (cut : Cut) (corners : List ℕ) (m : ℕ) : Type 0 where
  pub small : m < 4096
  pub crossed : (e : ℕ) → e < 12 → holds m e ≡ true → crossed_at cut corners e ≡ true
  pub threshold : threshold_row cut ≡ Passes

-- a crossed edge of a cube, and a threshold that row 3 passes: the edge question answers its fraction
pub record Fractional (cut : Cut) (corners : List ℕ) (e : ℕ) : Type 0 where
  pub small : e < 12
  pub crossed : crossed_at cut corners e ≡ true
  pub threshold : threshold_row cut ≡ Passes

-- the crossing of the edge e at the fraction f, added
unfoldable pub plus_crossing : ℕ → Float → Offset → Offset
unfolding local
plus_crossing e f o =
    record { x = add binary64 o.x (local 0 e f); y = add binary64 o.y (local 1 e f); z = add binary64 o.z (local 2 e f) }

-- the crossing of an edge of a cube, added
unfoldable pub plus_edge : Cut → List ℕ → ℕ → Offset → Offset
unfolding plus_crossing fraction_at
plus_edge cut corners e o = plus_crossing e (fraction_at cut corners e) o

-- the sum over the mask's edges below n
unfoldable pub sum_of : Cut → List ℕ → ℕ → ℕ → Offset
unfolding sum_on
sum_of cut corners m n = record { x = sum_on 0 m cut corners n; y = sum_on 1 m cut corners n; z = sum_on 2 m cut corners n }

-- each coordinate divided once by n
unfoldable pub divided_by : ℕ → Offset → Offset
divided_by n o = record { x = div binary64 o.x (float n); y = div binary64 o.y (float n); z = div binary64 o.z (float n) }
