-- The doubtful faces of a row's cubes, 64 at once: whose positive corners are joined, and what that tells of the cubes' loops. `lo` and `hi` are the
-- row's windows, `nx` is the length of a row of samples, `p` the place of the word's first cube in the row.
-- Assumes nothing.
use Rattle.std.specs.Prelude.{ℕ, ◌+◌, ◌<◌, ◌≡◌, Bool, true, cond, ◌&&◌, eqb, List, [], ◌∷◌, length, get_or, drop}
use Rattle.faces.specs.Faces.{alternates_of, plain_of}
use Rattle.sorts.specs.Sorting.{sorts_of}
use Rattle.std.specs.Int.Bits.{bit_and}
use Rattle.laws.specs.Bits.{bit, holds}
use Rattle.laws.specs.Pack.{pack}
use Rattle.block.specs.declared.Cut.{Cut}
use Rattle.cube_rule.specs.Decider.{joined}
use Rattle.cube_rule.specs.Edges.{pattern_of, crossed_mask}
use Rattle.sorts.specs.declared.Sorts.{Sorts}
use Rattle.signs.specs.Windows.{window_corners}
use Rattle.rows.specs.Rows.{loops_at}

-- ---- the faces on one side of the word's cubes: those of cube x have the samples x and a step further in `near`, and the same two in `far`

-- the positive corners of the face of cube x are joined
abbrev pub joined_at : Cut → List ℕ → List ℕ → ℕ → ℕ → Bool
joined_at cut near far step x = joined cut (get_or near x 0) (get_or near (x + step) 0) (get_or far (x + step) 0) (get_or far x 0)

-- bit x is set if it is in `doubtful` and they are joined
abbrev pub joined_word : Cut → ℕ → List ℕ → List ℕ → ℕ → ℕ
joined_word cut doubtful near far step = pack (λ (x : ℕ). bit (holds doubtful x && joined_at cut near far step x)) 64

-- the faces whose bits are set lie in the windows
abbrev pub FacesIn : ℕ → List ℕ → List ℕ → ℕ → Type 0
FacesIn doubtful near far step = (x : ℕ) → x < 64 → holds doubtful x ≡ true → (x + step < length near) × (x + step < length far)

-- ---- all six sides, x=0, x=1, y=0, y=1, z=0, z=1

unfoldable pub joined_words : List ℕ → List ℕ → ℕ → ℕ → Cut → List ℕ → List ℕ
joined_words lo hi nx p cut doubtful =
    joined_word cut (get_or doubtful 0 0) (drop p lo) (drop p hi) nx ∷ joined_word cut (get_or doubtful 1 0) (drop (p + 1) lo) (drop (p + 1) hi) nx
    ∷ joined_word cut (get_or doubtful 2 0) (drop p lo) (drop p hi) 1 ∷ joined_word cut (get_or doubtful 3 0) (drop (p + nx) lo) (drop (p + nx) hi) 1
    ∷ joined_word cut (get_or doubtful 4 0) (drop p lo) (drop (p + nx) lo) 1 ∷ joined_word cut (get_or doubtful 5 0) (drop p hi) (drop (p + nx) hi) 1 ∷ []

-- cubes of the word lie in the windows, and so do those with a face whose bit is set
pub record SidesIn (lo hi : List ℕ) (nx p : ℕ) (doubtful : List ℕ) : Type 0 where
  pub low : p + 1 + nx < length lo
  pub high : p + 1 + nx < length hi
  pub low_in : (f x : ℕ) → f < 6 → x < 64 → holds (get_or doubtful f 0) x ≡ true → p + x + 1 + nx < length lo
  pub high_in : (f x : ℕ) → f < 6 → x < 64 → holds (get_or doubtful f 0) x ≡ true → p + x + 1 + nx < length hi

-- the bits of six words that another has
unfoldable pub within_of : List ℕ → ℕ → List ℕ
within_of six act =
    bit_and (get_or six 0 0) act ∷ bit_and (get_or six 1 0) act ∷ bit_and (get_or six 2 0) act
    ∷ bit_and (get_or six 3 0) act ∷ bit_and (get_or six 4 0) act ∷ bit_and (get_or six 5 0) act ∷ []

-- the words that `sorted` answers: which cubes have exactly one loop and which exactly two, by the doubtful faces of the cubes of `act`
abbrev pub sorted_of : List ℕ → List ℕ → ℕ → ℕ → Cut → List ℕ → ℕ → Sorts
sorted_of lo hi nx p cut e act = sorts_of e (alternates_of e) (joined_words lo hi nx p cut (within_of (alternates_of e) act))

-- the word that `singles` answers: the plain cubes, where all cubes of `act` are plain, else the first of these
abbrev pub singles_of : List ℕ → List ℕ → ℕ → ℕ → Cut → List ℕ → ℕ → ℕ
singles_of lo hi nx p cut e act = cond (eqb (bit_and act (plain_of e)) act) (plain_of e) (sorted_of lo hi nx p cut e act).one

-- the cubes whose bits are set in both words have one loop, of all crossed edges
abbrev pub Single : (Cut → List ℕ → List ℕ) → List ℕ → List ℕ → Cut → ℕ → ℕ → ℕ → ℕ → Type 0
Single loops_of lo hi cut nx p act one =
    (x : ℕ) → x < 64 → holds act x ≡ true → holds one x ≡ true → loops_at loops_of lo hi cut nx (p + x) ≡ crossed_mask (pattern_of cut (window_corners nx lo hi (p + x))) ∷ []

-- what `sorted` tells of the cubes whose bits are set in `act`: those with one loop, and those with two
pub record Sorted (loops_of : Cut → List ℕ → List ℕ) (lo hi : List ℕ) (cut : Cut) (nx p act : ℕ) (r : Sorts) : Type 0 where
  pub one : Single loops_of lo hi cut nx p act r.one
  pub two : (x : ℕ) → x < 64 → holds act x ≡ true → holds r.two x ≡ true → length (loops_at loops_of lo hi cut nx (p + x)) ≡ 2
