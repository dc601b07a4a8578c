-- What a step of joining vertices asks of the links and sizes that it is lent, and what it promises of them.
-- Assumes nothing.
use Rattle.std.specs.Prelude.{ℕ, suc, ◌^◌, ◌≤◌, ◌<◌, ◌≡◌, List, eqb, length}
use Rattle.laws.specs.Counting.{count}
use Rattle.trees.specs.Forest.{State, at, top_of, links_of, united, join}

-- the stored state by its parts
abbrev pub stored : List ℕ → List ℕ → ℕ → State
stored up size longest = record { up = up; size = size; longest = longest }

-- Vertices below n that hang in trees. `root` is the top of each and `depth` the links on the way there.
pub record Trees (n : ℕ) (up size depth root : ℕ → ℕ) : Type 0 where
  pub inside : (v : ℕ) → v < n → root v < n
  pub tops : (v : ℕ) → v < n → up (root v) ≡ root v
  pub stay : (v : ℕ) → v < n → up v ≡ v → (root v ≡ v) × (depth v ≡ 0)
  pub step : (v : ℕ) → v < n → (up v ≡ v → ⊥) → (up v < n) × (root v ≡ root (up v)) × (depth v ≡ suc (depth (up v)))
  -- a tree of height d has at least 2 ^ d vertices
  pub heavy : (v : ℕ) → v < n → 2 ^ depth v ≤ size (root v)
  -- the size of a top is how many vertices hang under it, that of another vertex 0
  pub counted : (r : ℕ) → r < n → up r ≡ r → size r ≡ count (λ (v : ℕ). eqb (root v) r) n
  pub spent : (v : ℕ) → v < n → (up v ≡ v → ⊥) → size v ≡ 0

-- each search over these links comes to an end: a link leads one step nearer to the same top
pub record Ends (n : ℕ) (up : List ℕ) : Type 0 where
  pub long : length up ≡ n
  pub few : n < 4294967296
  pub nearer : (v : ℕ) → v < n → (at up v ≡ v → ⊥)
      → (at up v < n) × (top_of (at up) n v ≡ top_of (at up) n (at up v)) × (links_of (at up) n v ≡ suc (links_of (at up) n (at up v)))

-- the links and sizes are those of trees, and a search finds top and depth
pub record Standing (n : ℕ) (up size : List ℕ) : Type 0 where
  pub up_length : length up ≡ n
  pub size_length : length size ≡ n
  pub few : n < 4294967296
  pub trees : Trees n (at up) (at size) (links_of (at up) n) (top_of (at up) n)

-- two tops
pub record Tops (n : ℕ) (up : List ℕ) (a b : ℕ) : Type 0 where
  pub first_lt : a < n
  pub second_lt : b < n
  pub first_top : at up a ≡ a
  pub second_top : at up b ≡ b

-- links and sizes after two tops are united; what is counted of searches is the same
abbrev pub Unites : ℕ → ℕ → List ℕ → List ℕ → List ℕ → List ℕ → Type 0
Unites a b up size up' size' = (k : ℕ) → stored up' size' k ≡ united a b (stored up size k)

-- a search from v finds this top by so many links
pub record Follows (n : ℕ) (up : List ℕ) (v top links : ℕ) : Type 0 where
  pub inside : v < n
  pub finds : top ≡ top_of (at up) n v
  pub follows : links ≡ links_of (at up) n v

-- a search from some vertex does
pub record Reached (n : ℕ) (up : List ℕ) (top links : ℕ) : Type 0 where
  pub from : ℕ
  pub way : Follows n up from top links

-- the vertex whose way is known, whichever it is, is joined with w, and its way is known then
abbrev pub Joins : ℕ → List ℕ → List ℕ → ℕ → ℕ → ℕ → List ℕ → List ℕ → ℕ → ℕ → ℕ → Type 0
Joins w up size top links longest up' size' top' links' longest' =
    (v : ℕ) → Follows (length up) up v top links
    → (stored up' size' longest' ≡ join (length up) v w (stored up size longest)) × Follows (length up) up' v top' links'
