-- Rows 7 and 14 of the table of refusals: what a list of quads must be (document 01, "Numbers of refusal"; document 02, Three).
use Rattle.std.specs.Prelude.{ℕ, ◌+◌, ◌*◌, ◌/◌, ◌%◌, Bool, cond, ◌&&◌, List, ltb, eqb, length, get_or}
use Rattle.block.specs.declared.Checked.{Checked}
use Rattle.block.specs.declared.Checked.TheVariants.{Passes}
use Rattle.block.specs.Answer.{refuses}
use Rattle.block.specs.Rows.{search_row}

-- 7: the length of a quad list is no multiple of 4; the length modulo 4
abbrev pub length_row : List ℕ → Checked
length_row quads = cond (eqb (length quads % 4) 0) Passes (refuses 7 (length quads % 4))

-- the four numbers of quad q are below the vertex count
abbrev pub quad_below : ℕ → List ℕ → ℕ → Bool
quad_below count quads q =
    ltb (get_or quads (4 * q) 0) count && ltb (get_or quads (4 * q + 1) 0) count && ltb (get_or quads (4 * q + 2) 0) count && ltb (get_or quads (4 * q + 3) 0) count

-- 14: "a quad number at or past the vertex count"; the lowest such quad
abbrev pub number_row : ℕ → List ℕ → Checked
number_row count quads = search_row 14 (quad_below count quads) (length quads / 4)
