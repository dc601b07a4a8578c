-- What the question for room answers (document 02, Seven).
use Rattle.std.specs.Prelude.{ℕ, ◌≡◌, List}
use Rattle.block.specs.declared.Cut.{Cut}
use Rattle.block.specs.Answer.{Answer, accepted, refused, judged}
use Rattle.block.specs.Block.{block_verdict}
use Rattle.block.specs.Size.{size_of}
use Rattle.room.specs.declared.Edged.{Edged}
use Rattle.room.specs.declared.Edged.TheVariants as edged
use Rattle.room.specs.Crossed.{crossed_count}

-- 01's number and values of each case
abbrev pub said_crossed : Edged → Answer ℕ
said_crossed (edged.Edges e) = accepted e
said_crossed (edged.Refused r) = refused r

-- the promise of `crossed`: "Refusals: 1, 2, 3"
abbrev pub CrossedAnswered : ℕ → ℕ → ℕ → List ℕ → Cut → Edged → Type 0
CrossedAnswered nx ny nz s cut r = said_crossed r ≡ judged (block_verdict nx ny nz s cut) (crossed_count (size_of nx ny nz) s cut)
