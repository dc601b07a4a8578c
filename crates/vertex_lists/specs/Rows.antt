-- Rows 22, 23 and 24 of the table of refusals: what the two lists of a mesh's vertices must be (document 02, Three). Vertex v has words 2·v and 2·v + 1, of
-- which the first is the number of its cube, and offsets 3·v to 3·v + 2.
use Rattle.std.specs.Prelude.{ℕ, ◌+◌, ◌*◌, ◌/◌, Bool, cond, ◌&&◌, List, [], ◌∷◌, leb, ltb, eqb, length, get_or, Float}
use Rattle.std.specs.Float.{nan}
use Rattle.std.specs.Float.Ieee.{le}
use Rattle.block.specs.declared.Checked.{Checked}
use Rattle.block.specs.declared.Checked.TheVariants.{Passes}
use Rattle.block.specs.declared.Size.{Size}
use Rattle.block.specs.Answer.{refuses}
use Rattle.block.specs.Numbering.{cube_count}
use Rattle.block.specs.Rows.{search_row}
use Rattle.place.specs.Place.{plus_zero, one}

-- these lengths are those of v vertices, and v is at most four in each of 255·255·255 cubes
abbrev pub shaped : ℕ → ℕ → ℕ → Bool
shaped words offsets v = eqb words (2 * v) && eqb offsets (3 * v) && leb v 66325500

-- 22: "unless the word buffer is twice and the offset buffer three times one count of at most 66,325,500"; the length of the first
abbrev pub shape_row : ℕ → ℕ → Checked
shape_row words offsets = cond (shaped words offsets (words / 2)) Passes (refuses 22 words)

-- 23: "a cube number past the last cube"; the lowest such vertex
abbrev pub cube_inside : Size → List ℕ → ℕ → Bool
cube_inside n words v = ltb (get_or words (2 * v) 0) (cube_count n)

abbrev pub cube_row : Size → List ℕ → Checked
cube_row n words = search_row 23 (cube_inside n words) (length words / 2)

-- "from 0 to 1", as floats compare: minus zero is 0, and a NaN is nowhere
unfoldable pub from_zero_to_one : Float → Bool
unfolding le
from_zero_to_one x = le plus_zero x && le x one

-- 24: "an offset not from 0 to 1"; the lowest such vertex
abbrev pub offset_inside : List Float → ℕ → Bool
offset_inside offsets v = from_zero_to_one (get_or offsets (3 * v) nan) && from_zero_to_one (get_or offsets (3 * v + 1) nan) && from_zero_to_one (get_or offsets (3 * v + 2) nan)

abbrev pub offset_row : List Float → Checked
offset_row offsets = search_row 24 (offset_inside offsets) (length offsets / 3)

-- these rows, in their order
abbrev pub vertex_rows : Size → List ℕ → List Float → List Checked
vertex_rows n words offsets = shape_row (length words) (length offsets) ∷ cube_row n words ∷ offset_row offsets ∷ []
