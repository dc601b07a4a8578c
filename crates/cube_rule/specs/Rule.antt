-- THE RULE of the loops, which says what they are without the way in which they are found (document 01, "Faces, loops and places").
-- `p` is a cube's sign pattern, `j` says which of its faces have their positive corners joined, `ms` are the masks.
use Rattle.std.specs.Prelude.{ℕ, ◌+◌, ◌^◌, ◌≤◌, ◌<◌, ◌≡◌, Bool, true, length, get_or}
use mathlib.Core.List.{List, [], ◌∷◌, Memᴰ}
use Rattle.std.specs.Int.Count.{ones, count_trailing_zeros}
use Rattle.laws.specs.Bits.{bit, holds}
use Rattle.block.specs.Rows.{lowest}
use Rattle.cube_rule.specs.Edges.{crossed}
use Rattle.cube_rule.specs.Faces.{ring_edge}
use Rattle.cube_rule.specs.Links.{linked_on}

-- how many masks hold the edge e
abbrev pub holders : ℕ → List ℕ → ℕ
holders e [] = 0
holders e (m ∷ ms) = bit (holds m e) + holders e ms

-- the place of the first mask that holds it
abbrev pub first_holder : ℕ → List ℕ → ℕ
first_holder e ms = lowest (λ (m : ℕ). holds m e) ms

-- S is the same at both ends of each link, on whichever face
abbrev pub Alike : ℕ → (ℕ → Bool) → (ℕ → Bool) → Type 0
Alike p j S = (f i k : ℕ) → f < 6 → i < 4 → k < 4 → linked_on (holds p) j f i k ≡ true → S (ring_edge f i) ≡ S (ring_edge f k)

-- one loop: a 12-bit mask of 3 to 12 edges
pub record Loop (p : ℕ) (j : ℕ → Bool) (m : ℕ) : Type 0 where
  pub small : m < 2 ^ 12
  pub three : 3 ≤ ones m
  pub twelve : ones m ≤ 12
  -- closed under links: both ends of a link are in it or neither
  pub closed : Alike p j (holds m)
  -- connected: whatever is the same at both ends of each link is the same at all of its edges
  pub whole : (S : ℕ → Bool) → Alike p j S → (a b : ℕ) → holds m a ≡ true → holds m b ≡ true → S a ≡ S b

pub record Rule (p : ℕ) (j : ℕ → Bool) (ms : List ℕ) : Type 0 where
  -- disjoint, and together the crossed edges: a crossed edge is in one loop, any other in none
  pub each : (e : ℕ) → e < 12 → holders e ms ≡ bit (crossed p e)
  pub loop : (m : ℕ) → Memᴰ m ms → Loop p j m
  pub four : length ms ≤ 4
  -- "the loops of a cube stand by their lowest edge": trailing zeros give the lowest edge of a mask
  pub order : (a b : ℕ) → a < b → b < length ms → count_trailing_zeros 32 (get_or ms a 0) < count_trailing_zeros 32 (get_or ms b 0)
