-- A row of cubes, 64 at a time: the loops of a cube by its place, the cubes of a word whose bits are set, the row, and what a pass over either
-- requires. `lo` and `hi` are the row's windows, `nx` is the length of a row of samples.
-- Assumes nothing.
use Rattle.std.specs.Prelude.{ℕ, ◌+◌, ◌*◌, ◌≤◌, ◌<◌, ◌-◌, ◌≡◌, true, cond, List, [], length}
use Rattle.block.specs.declared.Cut.{Cut}
use Rattle.cube_rule.specs.Edges.{pattern_of}
use Rattle.signs.specs.Windows.{window_corners, TwoRows}
use Rattle.laws.specs.Below.{below}
use Rattle.laws.specs.Bits.{holds}
use Rattle.cube_rule.specs.Plain.{mixed}
use Rattle.planes.specs.Planes.{pattern_at}

-- the loops of the cube x of the row
abbrev pub loops_at : (Cut → List ℕ → List ℕ) → List ℕ → List ℕ → Cut → ℕ → ℕ → List ℕ
loops_at loops_of lo hi cut nx x = loops_of cut (window_corners nx lo hi x)

-- ---- the cubes of a word

-- the list of x, if bit x of the word is set
abbrev pub picked : {A : Type 0} → ℕ → (ℕ → List A) → ℕ → List A
picked act f x = cond (holds act x) (f x) []

-- the masks of the cubes whose bits are set; the word's first cube is the cube p of the row
abbrev pub word_loops : (Cut → List ℕ → List ℕ) → List ℕ → List ℕ → Cut → ℕ → ℕ → ℕ → List ℕ
word_loops loops_of lo hi cut nx act p = below (picked act (λ (x : ℕ). loops_at loops_of lo hi cut nx (p + x))) 64

-- the cubes whose bits are set lie in the windows, their signs are mixed, and `e` has their sign patterns
pub record WordReady (lo hi : List ℕ) (cut : Cut) (nx p : ℕ) (e : List ℕ) (act : ℕ) : Type 0 where
  pub low_in : (x : ℕ) → x < 64 → holds act x ≡ true → p + x + 1 + nx < length lo
  pub high_in : (x : ℕ) → x < 64 → holds act x ≡ true → p + x + 1 + nx < length hi
  pub signs : (x : ℕ) → x < 64 → holds act x ≡ true → pattern_at e x ≡ pattern_of cut (window_corners nx lo hi (p + x))
  pub active : (x : ℕ) → x < 64 → holds act x ≡ true → mixed (holds (pattern_at e x)) ≡ true

-- ---- a row

-- the masks of the row's cubes
abbrev pub row_masks : (Cut → List ℕ → List ℕ) → List ℕ → List ℕ → Cut → ℕ → List ℕ
row_masks loops_of lo hi cut nx = below (loops_at loops_of lo hi cut nx) (nx - 1)

-- what a pass over a row requires: its windows, and the sign words of the planes that they are of
pub record RowReady (lo hi : List ℕ) (cut : Cut) (a b : List ℕ) (nx j : ℕ) : Type 0 where
  pub short : 2 ≤ nx
  pub long : nx ≤ 256
  pub low_long : length lo ≡ 2 * nx
  pub high_long : length hi ≡ 2 * nx
  pub lower : TwoRows cut nx lo j a
  pub upper : TwoRows cut nx hi j b
