-- A row whose active cubes are all plain: each of them has one loop, so their number is known by the signs alone. Assumes nothing.
use Rattle.std.specs.Prelude.{ℕ, ◌+◌, ◌*◌, Bool, cond, List, eqb}
use Rattle.std.specs.Int.Bits.{bit_and}
use Rattle.std.specs.Int.Count.{ones}
use Rattle.laws.specs.Counting.{total}
use Rattle.planes.specs.Planes.{eight_of}
use Rattle.faces.specs.Faces.{plain_of}
use Rattle.rows.specs.Quiet.{active_in, words_in_row, every}
use Rattle.loop_counts.specs.declared.RowLoops.{RowLoops}
use Rattle.loop_counts.specs.declared.RowLoops.TheVariants.{Plain, Doubtful}

-- the cubes of a word whose bits are set are all plain; `e` has the signs of their corners
abbrev pub plain_word : List ℕ → ℕ → Bool
plain_word e act = eqb (bit_and act (plain_of e)) act

-- the active cubes of the row are
abbrev pub all_plain : List ℕ → List ℕ → ℕ → ℕ → Bool
all_plain a b nx j = every (λ (w : ℕ). plain_word (eight_of a b (5 * j + w)) (active_in a b nx j w)) (words_in_row nx)

-- how many active cubes its first w words have
abbrev pub active_to : List ℕ → List ℕ → ℕ → ℕ → ℕ → ℕ
active_to a b nx j w = total (λ (v : ℕ). ones (active_in a b nx j v)) w

-- how many loops the row has, if its active cubes are all plain
abbrev pub plain_row : List ℕ → List ℕ → ℕ → ℕ → RowLoops
plain_row a b nx j = cond (all_plain a b nx j) (Plain (active_to a b nx j (words_in_row nx))) Doubtful
