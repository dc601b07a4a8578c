-- What the cube question answers (document 01, "Faces, loops and places"): "how many loops there are and, in order, the mask and offset
-- of each. Unused places of an answer hold zero, on refusal too." With the mark the mask is a word (document 02, One).
use Rattle.std.specs.Prelude.{ℕ, ◌+◌, ◌*◌, ◌^◌, ◌≡◌, List, [], ◌∷◌, map, length}
use Rattle.laws.specs.Bits.{bit}
use Rattle.laws.specs.Filled.{filled}
use Rattle.block.specs.declared.Cut.{Cut}
use Rattle.block.specs.declared.Checked.{Checked}
use Rattle.block.specs.Answer.{Answer, accepted, refused, in_order, decided, judged}
use Rattle.block.specs.Grey.{has_ceiling}
use Rattle.block.specs.Rows.{threshold_row}
use Rattle.cube_rule.specs.Decider.{loops_of}
use Rattle.place.specs.declared.Offset.{Offset}
use Rattle.place.specs.Place.{plus_zero, place_of}
use Rattle.cell.specs.declared.Found.{Found}
use Rattle.cell.specs.declared.Found.TheVariants.{Loops, Refused}
use Rattle.cell.specs.declared.CubeAnswer.{CubeAnswer}

-- "each vertex whose cube has a ceiling corner carries a mark: bit 12 of its mask word"
abbrev pub mark_of : List ℕ → ℕ
mark_of corners = bit (has_ceiling corners) * 2 ^ 12

-- what a vertex's buffer holds beside the cube number: the mask of its loop, whose bits are 0 to 11, and the mark
abbrev pub word_of : List ℕ → ℕ → ℕ
word_of corners mask = mask + mark_of corners

-- an offset of zeros, for a place that is not used
abbrev pub origin : Offset
origin = record { x = plus_zero; y = plus_zero; z = plus_zero }

-- cube and edge questions give 3
abbrev pub cube_verdict : Cut → Checked
cube_verdict cut = in_order (threshold_row cut ∷ [])

-- 01's number and values of each case
abbrev pub said_cube : Found → Answer ℕ
said_cube (Loops n) = accepted n
said_cube (Refused r) = refused r

-- the loops that are answered: none on refusal
abbrev pub loops_answered : Cut → List ℕ → List ℕ
loops_answered cut corners = decided (cube_verdict cut) (loops_of cut corners) (λ r. [])

-- the promise of `cube`
pub record CubeAnswered (corners : List ℕ) (cut : Cut) (r : CubeAnswer) : Type 0 where
  pub found : said_cube r.found ≡ judged (cube_verdict cut) (length (loops_of cut corners))
  pub words : r.words ≡ filled 4 0 (map (word_of corners) (loops_answered cut corners))
  pub offsets : r.offsets ≡ filled 4 origin (map (place_of cut corners) (loops_answered cut corners))
