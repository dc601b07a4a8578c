-- A row of cubes by its windows: rows j and j + 1 of the plane below, and the same rows of the plane above, 2 nx samples each.
-- Assumes nothing.
use Rattle.std.specs.Prelude.{ℕ, ◌+◌, ◌*◌, ◌≤◌, ◌<◌, ◌≡◌, List, [], ◌∷◌, length, get_or}
use Rattle.block.specs.declared.Cut.{Cut}
use Rattle.signs.specs.Steps.{row_from}

-- the corners 0 to 7 of the cube x of the row: corner x + 2y + 4z
unfoldable pub window_corners : ℕ → List ℕ → List ℕ → ℕ → List ℕ
window_corners nx lo hi x =
    get_or lo x 0 ∷ get_or lo (x + 1) 0 ∷ get_or lo (x + nx) 0 ∷ get_or lo (x + 1 + nx) 0
    ∷ get_or hi x 0 ∷ get_or hi (x + 1) 0 ∷ get_or hi (x + nx) 0 ∷ get_or hi (x + 1 + nx) 0 ∷ []

-- rows j and j + 1 of a plane's words are the signs of a window
pub record TwoRows (cut : Cut) (nx : ℕ) (window : List ℕ) (j : ℕ) (ws : List ℕ) : Type 0 where
  pub room : 5 * j + 10 ≤ length ws
  pub low : (w : ℕ) → w < 5 → get_or ws (5 * j + w) 0 ≡ row_from window cut.t 0 nx w
  pub high : (w : ℕ) → w < 5 → get_or ws (5 * j + 5 + w) 0 ≡ row_from window cut.t nx nx w

-- a window is the part of m samples from the index p on
pub record Part (s : List ℕ) (p m : ℕ) (window : List ℕ) : Type 0 where
  pub long : length window ≡ m
  pub at : (x : ℕ) → x < m → get_or window x 0 ≡ get_or s (p + x) 0
