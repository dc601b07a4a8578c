-- What counting and meshing a block of readings answer, and what the lent buffers hold afterwards (document 02, Ten): "The mesh is that of the block so obtained".
use Rattle.std.specs.Prelude.{ℕ, ◌≡◌, List, [], ◌∷◌, ◌++◌, length, Float}
use Rattle.block.specs.declared.Cut.{Cut}
use Rattle.block.specs.declared.Size.{Size}
use Rattle.block.specs.declared.Checked.{Checked}
use Rattle.block.specs.Answer.{Answer, in_order, judged}
use Rattle.block.specs.Rows.{axis_row, count_row, threshold_row}
use Rattle.block.specs.Size.{size_of}
use Rattle.readings.specs.Reading.{greys_of, bad_row}
use Rattle.mesh.specs.declared.Totals.{Totals}
use Rattle.mesh.specs.declared.Counted.{Counted}
use Rattle.mesh.specs.Answer.{counts_of, said_counts, buffer_rows, MeshedBy}

-- rows 2 and 3, and then 19 to 21, of readings whose size is made
abbrev pub reading_rows : Size → List Float → Cut → List Checked
reading_rows n xs cut = count_row n (length xs) ∷ threshold_row cut ∷ bad_row xs ∷ []

-- what counting a block of readings answers: the counts of the block so obtained, or the refusal of the first row that holds
abbrev pub readings_answer : ℕ → ℕ → ℕ → List Float → Cut → Answer Totals
readings_answer nx ny nz xs cut = judged (in_order (axis_row nx ny nz ∷ reading_rows (size_of nx ny nz) xs cut)) (counts_of (size_of nx ny nz) (greys_of xs) cut)

-- the promise of `counts`
abbrev pub ReadingsCounted : ℕ → ℕ → ℕ → List Float → Cut → Counted → Type 0
ReadingsCounted nx ny nz xs cut r = said_counts r ≡ readings_answer nx ny nz xs cut

-- rows 1, 2 and 3, then 19 to 21, then 5 and 6: the first that refuses decides
abbrev pub readings_verdict : ℕ → ℕ → ℕ → List Float → Cut → ℕ → ℕ → ℕ → Checked
readings_verdict nx ny nz xs cut words offsets room =
    in_order (axis_row nx ny nz ∷ reading_rows (size_of nx ny nz) xs cut ++ buffer_rows (counts_of (size_of nx ny nz) (greys_of xs) cut) words offsets room)

-- the promise of `mesh`
abbrev pub ReadingsMeshed : ℕ → ℕ → ℕ → List Float → Cut → List ℕ → List Float → List ℕ → Counted → List ℕ → List Float → List ℕ → Type 0
ReadingsMeshed nx ny nz xs cut w o q r w' o' q' =
    MeshedBy (readings_verdict nx ny nz xs cut (length w) (length o) (length q)) (size_of nx ny nz) (greys_of xs) cut w o q r w' o' q'
