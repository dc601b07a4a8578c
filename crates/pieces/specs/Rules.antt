-- Words for the theorems about pieces: numbers below a bound, a vertex in no quad, and the whole part of a logarithm.
-- Assumes nothing.
use Rattle.std.specs.Prelude.{ℕ, suc, ◌^◌, ◌≤◌, ◌<◌, List, length}
use Rattle.trees.specs.Forest.{at}
use Rattle.pieces.specs.Chains.{VertexOf}

-- each number of a list is below n
abbrev pub AllBelow : ℕ → List ℕ → Type 0
AllBelow n quads = (k : ℕ) → k < length quads → at quads k < n

-- v is in no quad
abbrev pub InNoQuad : List ℕ → ℕ → Type 0
InNoQuad quads v = (q : ℕ) → VertexOf quads q v → ⊥

-- k is "the whole part of the base-two logarithm of n"
pub record WholeLog (n k : ℕ) : Type 0 where
  pub reaches : 2 ^ k ≤ n
  pub no_more : n < 2 ^ suc k
