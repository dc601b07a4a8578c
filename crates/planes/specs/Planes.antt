-- What the words of two planes say of the cubes and edges between them, and the places of a word that count. A row has five words, the fifth without
-- a sign, so that every word of samples has a next one. Assumes nothing.
use Rattle.std.specs.Prelude.{ℕ, ◌+◌, ◌*◌, ◌/◌, ◌%◌, ◌^◌, List, [], ◌∷◌, ltb, get_or}
use Rattle.std.specs.Int.Bits.{bit_or, bit_xor}
use Rattle.laws.specs.Bits.{bit}
use Rattle.laws.specs.Pack.{pack}
use Rattle.mesh_rule.specs.Grid.{between}

-- ---- 64 cubes at once

-- a row's word one sample further on: the next word's lowest bit comes in on top
unfoldable pub further_of : ℕ → ℕ → ℕ
further_of lo hi = bit_or (lo / 2) (hi % 2 * 2 ^ 63)

-- the word q of a plane, one sample further on
abbrev pub further_at : List ℕ → ℕ → ℕ
further_at ws q = further_of (get_or ws q 0) (get_or ws (q + 1) 0)

-- word c of the eight has the signs of corner c, x + 2y + 4z, of the cubes whose corner 0 is in the word q; a is the plane below, b above
unfoldable pub eight_of : List ℕ → List ℕ → ℕ → List ℕ
eight_of a b q =
    get_or a q 0 ∷ further_at a q ∷ get_or a (q + 5) 0 ∷ further_at a (q + 5)
    ∷ get_or b q 0 ∷ further_at b q ∷ get_or b (q + 5) 0 ∷ further_at b (q + 5) ∷ []

-- the signs of corner c are not those of corner 0
abbrev pub unlike : List ℕ → ℕ → ℕ
unlike eight c = bit_xor (get_or eight 0 0) (get_or eight c 0)

-- bit i is set if the eight signs of cube i are not all alike
unfoldable pub active_of : List ℕ → ℕ
active_of eight =
    bit_or (unlike eight 1)
    (bit_or (unlike eight 2) (bit_or (unlike eight 3) (bit_or (unlike eight 4) (bit_or (unlike eight 5) (bit_or (unlike eight 6) (unlike eight 7))))))

-- the sign pattern of cube i: bit c is bit i of word c
unfoldable pub pattern_at : List ℕ → ℕ → ℕ
pattern_at eight i = pack (λ (c : ℕ). get_or eight c 0 / 2 ^ i % 2) 8

-- ---- 64 edges at once: bit i is set if the signs of the edge's ends differ

-- along x, along y, and along z from the plane a to the plane b above it
abbrev pub along_x : List ℕ → ℕ → ℕ
along_x a q = bit_xor (get_or a q 0) (further_at a q)

abbrev pub along_y : List ℕ → ℕ → ℕ
along_y a q = bit_xor (get_or a q 0) (get_or a (q + 5) 0)

abbrev pub along_z : List ℕ → List ℕ → ℕ → ℕ
along_z a b q = bit_xor (get_or a q 0) (get_or b q 0)

-- ---- the places of word w that count, x = 64 w + i

-- those below n
abbrev pub limit_of : ℕ → ℕ → ℕ
limit_of n w = pack (λ (i : ℕ). bit (ltb (64 * w + i) n)) 64

-- those that are neither first nor last of nx
abbrev pub inner_of : ℕ → ℕ → ℕ
inner_of nx w = pack (λ (i : ℕ). bit (between nx (64 * w + i))) 64
