-- What a step of the search promises: where a side ends, the walks so far, and a side by its walks.
-- Assumes nothing.
use Rattle.std.specs.Prelude.{ℕ, ◌+◌, ◌*◌, ◌/◌, ◌%◌, Bool, not, ◌&&◌, List, eqb}
use Rattle.laws.specs.Counting.{count}
use Rattle.closed.specs.Closed.{walked}

-- the place of the vertex at which side n ends
abbrev pub next_place : ℕ → ℕ
next_place n = 4 * (n / 4) + (n + 1) % 4

-- how many of the first k sides are walked from a to b
abbrev pub walks_before : List ℕ → ℕ → ℕ → ℕ → ℕ
walks_before quads a b k = count (walked quads a b) k

-- a side from a to b that is walked so often there and back is in order
abbrev pub sound_side : ℕ → ℕ → ℕ → ℕ → Bool
sound_side a b there back = not (eqb a b) && eqb there back
