-- What numbering the pieces promises of the links and sizes that it is lent. What it asks of them is in `trees`.
-- Assumes nothing.
use Rattle.std.specs.Prelude.{ℕ, ◌<◌, ◌≡◌, cond, not, List, eqb, ltb, length, set}
use Rattle.laws.specs.Bits.{bit}
use Rattle.laws.specs.Counting.{count}
use Rattle.laws.specs.Leading.{leading}
use Rattle.trees.specs.Forest.{at, top_of}

-- the lowest vertex below n with the top r
abbrev pub lowest_with : ℕ → (ℕ → ℕ) → ℕ → ℕ
lowest_with n root r = leading (λ (w : ℕ). not (eqb (root w) r)) n

-- the lowest vertex with the top that v has
abbrev pub low : ℕ → (ℕ → ℕ) → ℕ → ℕ
low n root v = lowest_with n root (root v)

-- links and sizes after vertex v has got its number, and 1 if the piece had none before: t is what a search from v finds
pub record NumberedTo (t v : ℕ) (up size up' size' : List ℕ) (r : ℕ) : Type 0 where
  pub links : up' ≡ cond (ltb t v) (set up v t) (set (set up t v) v v)
  pub sizes : size' ≡ cond (ltb t v) size (set (set size t 0) v (at size t))
  pub fresh : r ≡ bit (not (ltb t v))

abbrev pub NumberedOne : ℕ → List ℕ → List ℕ → List ℕ → List ℕ → ℕ → Type 0
NumberedOne v up size up' size' r = NumberedTo (top_of (at up) (length up) v) v up size up' size' r

-- each vertex has the lowest with its top as its number, by the links at entry, and each such vertex the count of those that have it
pub record Numbered (n : ℕ) (up up' size' : List ℕ) (r : ℕ) : Type 0 where
  pub up_length : length up' ≡ n
  pub size_length : length size' ≡ n
  pub number : (v : ℕ) → v < n → at up' v ≡ low n (top_of (at up) n) v
  pub sizes : (v : ℕ) → v < n → at size' v ≡ count (λ (w : ℕ). eqb (low n (top_of (at up) n) w) v) n
  pub pieces : r ≡ count (λ (v : ℕ). eqb (low n (top_of (at up) n) v) v) n
