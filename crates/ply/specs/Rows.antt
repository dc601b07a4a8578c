-- Row 13 of the table of refusals: the spacings (document 02, Three).
use Rattle.std.specs.Prelude.{Bool, not, ◌&&◌, List, [], ◌∷◌, Float}
use Rattle.std.specs.Float.Ieee.{lt, le}
use Rattle.block.specs.declared.Checked.{Checked}
use Rattle.block.specs.Rows.{lowest_row}
use Rattle.place.specs.Crossing.{float}
use Rattle.place.specs.Place.{plus_zero}
use Rattle.ply.specs.declared.Spacing.{Spacing}

-- the spacings along x, y and z
abbrev pub spacings : Spacing → List Float
spacings s = s.x ∷ s.y ∷ s.z ∷ []

-- "each above 0 and at most 1000", as floats compare: both zeros are 0, and a NaN is nowhere
unfoldable pub good_spacing : Float → Bool
unfolding lt le
good_spacing s = lt plus_zero s && le s (float 1000)

abbrev pub bad_spacing : Float → Bool
bad_spacing s = not (good_spacing s)

-- 13: "a bad spacing"; the lowest such axis, 0 to 2
abbrev pub spacing_row : Spacing → Checked
spacing_row s = lowest_row 13 bad_spacing (spacings s)
