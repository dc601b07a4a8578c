-- Longest searches, computed, and a list whose pieces are told vertex by vertex (document 02, Six).
-- Assumes nothing.
use Prim.Native.Nat.{ℕ, zero, suc, ◌+◌, ◌*◌, ◌-◌, ◌^◌, ◌<◌}
use mathlib.Core.Path.{◌≡◌, refl}
use mathlib.Core.List.{List, [], ◌∷◌, ◌++◌}
use native.Mathlib.Omega.{arith}
use lib.Dec.{T, eqb}
use lib.ListN.{get_or}
use Rattle.laws.specs.Below.{below}
use Rattle.laws.specs.Counting.{count}
use Rattle.laws.proofs.Tests.{below as belowTest}
use Rattle.trees.specs.Forest.{top_of, links_of, join, after, longest_search}
use Rattle.pieces.specs.Chains.{VertexOf, none, one, PieceOf}
use Rattle.pieces.specs.Answer.{Numbers, sizes}
use Rattle.pieces.specs.Rules.{InNoQuad}
use Rattle.pieces.proofs.Chains.{alone_chain}

-- a quad of a and three times b
abbrev thrice : ℕ → ℕ → List ℕ
thrice a b = a ∷ b ∷ b ∷ b ∷ []

-- neighbouring blocks of 2 ^ j of 2 ^ k vertices are joined, each first vertex with the next, for j = 0 to k − 1; then the last vertex is searched
abbrev pub doubling : ℕ → List ℕ
doubling k =
    below (λ (j : ℕ). below (λ (i : ℕ). thrice (i * 2 ^ (j + 1)) (i * 2 ^ (j + 1) + 2 ^ j)) (2 ^ (k - 1 - j))) k
    ++ thrice (2 ^ k - 1) (2 ^ k - 1)

pub record Searches : Type 0 where
  -- both have one vertex, so the higher top goes under the lower: 1 under 0, and the second join follows that link
  pub tie : longest_search 2 (1 ∷ 0 ∷ 0 ∷ 0 ∷ []) ≡ 1
  -- two pieces of two: vertex 3 is two links away from the top then
  pub two_and_two : longest_search 4 (3 ∷ 2 ∷ 2 ∷ 2 ∷ 1 ∷ 0 ∷ 0 ∷ 0 ∷ 3 ∷ 1 ∷ 1 ∷ 1 ∷ []) ≡ 2
  -- a piece of one goes under a piece of two, so no way gets longer
  pub one_and_two : longest_search 3 (0 ∷ 1 ∷ 1 ∷ 1 ∷ 2 ∷ 1 ∷ 2 ∷ 1 ∷ []) ≡ 1
  -- one quad of four vertices
  pub one_quad : longest_search 4 (0 ∷ 1 ∷ 2 ∷ 3 ∷ []) ≡ 0
  -- the six quads of the paper's block
  pub six_quads : longest_search 8 (0 ∷ 4 ∷ 6 ∷ 2 ∷ 1 ∷ 3 ∷ 7 ∷ 5 ∷ 0 ∷ 1 ∷ 5 ∷ 4 ∷ 2 ∷ 6 ∷ 7 ∷ 3 ∷ 0 ∷ 2 ∷ 3 ∷ 1 ∷ 4 ∷ 5 ∷ 7 ∷ 6 ∷ []) ≡ 2
  -- the bound is reached: 2 ^ k vertices and k links, for k = 0 to 5
  pub reached : T (belowTest 6 (λ (k : ℕ). eqb (longest_search (2 ^ k) (doubling k)) k))

pub searches : Searches
unfolding after join top_of links_of below belowTest
searches = record { tie = refl; two_and_two = refl; one_and_two = refl; one_quad = refl; six_quads = refl; reached = tt }

-- ---- the quad 0, 1, 2, 3 of five vertices: a piece of four and vertex 4 alone

abbrev lone : List ℕ
lone = 0 ∷ 1 ∷ 2 ∷ 3 ∷ []

pub four_and_one : Numbers 5 lone (0 ∷ 0 ∷ 0 ∷ 0 ∷ 4 ∷ [])
four_and_one = record { for_each = refl; number = piece }
  where
    vertex : (i : ℕ) → i < 4 → (v : ℕ) → get_or lone (4 * 0 + i) 0 ≡ v → VertexOf lone 0 v
    vertex i h v e = record { place = i; place_lt = h; there = omega arith; is = e }

    joined : (v : ℕ) → VertexOf lone 0 v → PieceOf lone v 0
    joined v c = record { together = one 0 c (vertex 0 (omega arith) 0 refl); lowest = λ w d. omega arith }

    out : InNoQuad lone 4
    out zero c = go c.place c.place_lt c.is
      where
        go : (i : ℕ) → i < 4 → get_or lone (4 * 0 + i) 0 ≡ 4 → ⊥
        go zero h e = omega (arith, e)
        go (suc zero) h e = omega (arith, e)
        go (suc (suc zero)) h e = omega (arith, e)
        go (suc (suc (suc zero))) h e = omega (arith, e)
        go (suc (suc (suc (suc i)))) h e = omega arith
    out (suc q) c = omega (arith, c.there)

    piece : (v : ℕ) → v < 5 → PieceOf lone v (get_or (0 ∷ 0 ∷ 0 ∷ 0 ∷ 4 ∷ []) v 0)
    piece zero h = joined 0 (vertex 0 (omega arith) 0 refl)
    piece (suc zero) h = joined 1 (vertex 1 (omega arith) 1 refl)
    piece (suc (suc zero)) h = joined 2 (vertex 2 (omega arith) 2 refl)
    piece (suc (suc (suc zero))) h = joined 3 (vertex 3 (omega arith) 3 refl)
    piece (suc (suc (suc (suc zero)))) h = record { together = none; lowest = λ w d. omega (arith, alone_chain out d) }
    piece (suc (suc (suc (suc (suc v))))) h = absurd (omega arith)

pub four_and_one_sizes : sizes 5 (0 ∷ 0 ∷ 0 ∷ 0 ∷ 4 ∷ []) ≡ 4 ∷ 0 ∷ 0 ∷ 0 ∷ 1 ∷ []
unfolding below count
four_and_one_sizes = refl
