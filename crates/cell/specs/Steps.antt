-- The answer of a refused cube, and the word of a loop or of none, as the code makes them.
-- Assumes nothing.
use Rattle.std.specs.Prelude.{ℕ, ◌+◌, cond, [], ◌∷◌, eqb}
use Rattle.block.specs.declared.Refusal.{Refusal}
use Rattle.cell.specs.declared.Found.TheVariants.{Refused}
use Rattle.cell.specs.declared.CubeAnswer.{CubeAnswer}
use Rattle.cell.specs.Answer.{origin}

abbrev pub empty_answer : Refusal → CubeAnswer
empty_answer r = record { found = Refused r; words = 0 ∷ 0 ∷ 0 ∷ 0 ∷ []; offsets = origin ∷ origin ∷ origin ∷ origin ∷ [] }

-- the word of a loop with this mask and this mark, and 0 where there is no loop
abbrev pub word_or_zero : ℕ → ℕ → ℕ
word_or_zero marked mask = cond (eqb mask 0) 0 (mask + marked)
