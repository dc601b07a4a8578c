-- The loops of a cube, by an executable definition. What they are without it is `Rule`.
-- Assumes nothing.
use Rattle.std.specs.Prelude.{ℕ, zero, suc, ◌+◌, ◌*◌, ◌/◌, ◌%◌, ◌^◌, Bool, not, cond, List, [], ◌∷◌, eqb}
use Rattle.std.specs.Bool.{beq}
use Rattle.std.specs.Int.Bits.{bit_and, bit_or, bit_xor}
use Rattle.std.specs.Int.Count.{count_trailing_zeros}
use Rattle.laws.specs.Bits.{bit, holds}
use Rattle.block.specs.declared.Cut.{Cut}
use Rattle.cube_rule.specs.Edges.{pattern_of, crossed_mask}
use Rattle.cube_rule.specs.Faces.{ring_edge, ring_corner}
use Rattle.cube_rule.specs.Links.{ring_crossed, Decider, decisions}

-- ---- the links of a face, as two sets of its own edges (bit i for edge i), each a link or empty

-- the crossed edges of a ring with the signs a, b, c, d
abbrev pub ring_mask : Bool → Bool → Bool → Bool → ℕ
ring_mask a b c d =
    bit (ring_crossed a b c d 0) + 2 * bit (ring_crossed a b c d 1) + 4 * bit (ring_crossed a b c d 2) + 8 * bit (ring_crossed a b c d 3)

-- With four crossed edges (15): those that meet at corners 0 and 2 are 9 (edges 3, 0) and 6 (1, 2), those that meet at corners 1 and
-- 3 are 3 (0, 1) and 12 (2, 3). They meet at the negative corners if the positive ones are joined, else at the positive ones.
abbrev pub first_link : Bool → Bool → Bool → Bool → Bool → ℕ
first_link a b c d joined = cond (eqb (ring_mask a b c d) 15) (cond (beq a (not joined)) 9 3) (ring_mask a b c d)

abbrev pub second_link : Bool → Bool → Bool → Bool → Bool → ℕ
second_link a b c d joined = cond (eqb (ring_mask a b c d) 15) (cond (beq a (not joined)) 6 12) 0

-- a set of the edges of the face f as a set of the cube's edges
abbrev pub placed : ℕ → ℕ → ℕ
placed f m =
    m % 2 * 2 ^ ring_edge f 0 + m / 2 % 2 * 2 ^ ring_edge f 1 + m / 4 % 2 * 2 ^ ring_edge f 2 + m / 8 % 2 * 2 ^ ring_edge f 3

-- ---- the links of a cube with the sign pattern p, whose faces are decided by j: two for each face, 0 for none

abbrev pub face_link : (Bool → Bool → Bool → Bool → Bool → ℕ) → ℕ → ℕ → Bool → ℕ
face_link link p f j =
    placed f (link (holds p (ring_corner f 0)) (holds p (ring_corner f 1)) (holds p (ring_corner f 2)) (holds p (ring_corner f 3)) j)

abbrev pub links_from : ℕ → List ℕ → (ℕ → Bool) → List ℕ
links_from p [] j = []
links_from p (f ∷ fs) j = face_link first_link p f (j f) ∷ face_link second_link p f (j f) ∷ links_from p fs j

abbrev pub links_of : ℕ → (ℕ → Bool) → List ℕ
links_of p j = links_from p (0 ∷ 1 ∷ 2 ∷ 3 ∷ 4 ∷ 5 ∷ []) j

-- ---- loops

-- the lowest edge of a set
abbrev pub lowest_edge : ℕ → ℕ
lowest_edge m = count_trailing_zeros 32 m

-- a set of edges, with the other end of a link that has an edge in it
abbrev pub join : ℕ → ℕ → ℕ
join m l = cond (eqb (bit_and m l) 0) m (bit_or m l)

-- one round: what each link in turn adds
unfoldable pub grow : ℕ → List ℕ → ℕ
grow m [] = m
grow m (l ∷ ls) = grow (join m l) ls

-- the loop of the edge e: all that links lead to from it. Three rounds are enough, as `Rule` shows.
unfoldable pub loop_from : List ℕ → ℕ → ℕ
unfolding grow
loop_from ls e = grow (grow (grow (2 ^ e) ls) ls) ls

-- "the loops of a cube stand by their lowest edge": the loop of the lowest edge of m, then the loops of the edges of m that are not in
-- it, n loops at most
unfoldable pub loops_from : ℕ → List ℕ → ℕ → List ℕ
unfolding loop_from
loops_from zero ls m = []
loops_from (suc n) ls m = cond (eqb m 0) [] (let l = loop_from ls (lowest_edge m) in l ∷ loops_from n ls (bit_xor m l))

-- "at most four in a cube"
abbrev pub loops_in : ℕ → (ℕ → Bool) → List ℕ
loops_in p j = loops_from 4 (links_of p j) (crossed_mask p)

-- the loops of a cube of samples, by what decides its faces
unfoldable pub loops_by : Decider → Cut → List ℕ → List ℕ
unfolding loops_from
loops_by D cut corners = loops_in (pattern_of cut corners) (decisions D cut corners)
