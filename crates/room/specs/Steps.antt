-- The crossed edges of a plane by the words of its signs: `b` has the signs of the plane, `a` those of the plane below it.
-- Assumes nothing.
use Rattle.std.specs.Prelude.{ℕ, ◌+◌, ◌-◌, ◌*◌, cond, List, [], ◌∷◌, ltb, get_or}
use Rattle.std.specs.Int.Bits.{bit_and}
use Rattle.std.specs.Int.Count.{ones}
use Rattle.laws.specs.Counting.{total}
use Rattle.planes.specs.Planes.{along_x, along_y, along_z, limit_of}

-- the places of four words of a row of nx samples that have a next one
abbrev pub limits_of : ℕ → List ℕ
limits_of nx = limit_of (nx - 1) 0 ∷ limit_of (nx - 1) 1 ∷ limit_of (nx - 1) 2 ∷ limit_of (nx - 1) 3 ∷ []

-- the crossed edges of 64 samples, word w of the row j: along x under these limits, along y but for the last row, and along z from the plane below
abbrev pub word_x : List ℕ → List ℕ → ℕ → ℕ → ℕ
word_x b limits j w = bit_and (along_x b (5 * j + w)) (get_or limits w 0)

abbrev pub word_y : List ℕ → ℕ → ℕ → ℕ → ℕ
word_y b ny j w = cond (ltb (j + 1) ny) (along_y b (5 * j + w)) 0

abbrev pub word_z : List ℕ → List ℕ → ℕ → ℕ → ℕ
word_z a b j w = along_z a b (5 * j + w)

-- how many they are in a word, in the row, and in the plane
abbrev pub word_edges : List ℕ → List ℕ → List ℕ → ℕ → ℕ → ℕ → ℕ
word_edges a b limits ny j w = ones (word_x b limits j w) + ones (word_y b ny j w) + ones (word_z a b j w)

abbrev pub row_edges : List ℕ → List ℕ → List ℕ → ℕ → ℕ → ℕ
row_edges a b limits ny j = total (word_edges a b limits ny j) 4

abbrev pub plane_edges : List ℕ → List ℕ → ℕ → ℕ → ℕ
plane_edges a b nx ny = total (row_edges a b (limits_of nx) ny) ny
