-- The chains of sides: while they are made, and when they can be followed.
-- Assumes nothing.
use Rattle.std.specs.Prelude.{ℕ, ◌+◌, ◌≤◌, ◌<◌, ◌≡◌, List, length, get_or}
use Rattle.closed.specs.Closed.{from}
use Rattle.closed.specs.Chains.{first_from}

-- the chains of the sides from m on: the words at entry, and those now. `top` is one more than the highest vertex number.
pub record Chained (quads : List ℕ) (top m : ℕ) (old new : List ℕ) : Type 0 where
  pub long : length new ≡ length old
  pub heads : (v : ℕ) → v < top → get_or new v 0 ≡ first_from quads v m
  pub links : (i : ℕ) → m ≤ i → i < length quads → get_or new (top + i) 0 ≡ first_from quads (from quads i) (i + 1)
  pub behind : (p : ℕ) → top + length quads ≤ p → get_or new p 0 ≡ get_or old p 0

-- the chains can be followed in these words
pub record Followed (quads : List ℕ) (top : ℕ) (work : List ℕ) : Type 0 where
  pub room : top + length quads ≤ length work
  pub heads : (v : ℕ) → v < top → get_or work v 0 ≡ first_from quads v 0
  pub links : (i : ℕ) → i < length quads → get_or work (top + i) 0 ≡ first_from quads (from quads i) (i + 1)
