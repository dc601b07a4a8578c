-- The test of the rule at every sign pattern and every way to decide its faces. Only a face with four crossed edges is decided, so
-- there are 656 cases, which antt computes.
-- Assumes nothing.
use mathlib.Core.Path.{◌≡◌, refl, subst}
use mathlib.Core.Bool.{Bool, true, false, not, cond, ◌&&◌, beq}
use mathlib.Core.Logic.{⊎_elim}
use mathlib.Core.List.{List, [], ◌∷◌}
use Prim.Native.Nat.{ℕ, ◌+◌, ◌-◌, ◌≤◌, ◌<◌, zero-le}
use native.Mathlib.Omega.{arith}
use lib.Dec.{T, eqb}
use lib.Count.{count_trailing_zeros}
use Rattle.laws.specs.Bits.{holds, mask_of}
use Rattle.laws.proofs.Tests.{both, left, right, below, below_at, lt_or_ge}
use Rattle.cube_rule.specs.Edges.{crossed_mask}
use Rattle.cube_rule.specs.Faces.{ring_corner}
use Rattle.cube_rule.specs.Loops.{ring_mask, first_link, second_link, placed, face_link, links_from, links_of, grow, loop_from, loops_from, loops_in}
use Rattle.cube_rule.specs.Plain.{alternate, alternate_on, mixed}
use Rattle.cube_rule.specs.Sorts.{joined_on, one, two}
use Rattle.cube_rule.proofs.Alike.{at, faces_of}
use Rattle.cube_rule.proofs.Tested.{Sort, good}

-- A test at the links of a face, and at whether it is doubtful with joined positive corners: at both ways where it has four crossed edges, else
-- at the one. `a` is the sign of its first corner, by which both ways tell whether the positive corners are joined.
unfoldable ways : ℕ → Bool → Bool → ℕ → (Bool → ℕ → ℕ → Bool) → Bool
ways f a four r k = elim four [
  | true ↦ both (k (not a) (placed f 9) (placed f 6)) (k a (placed f 3) (placed f 12))
  | false ↦ k false (placed f r) (placed f 0)
]

ways_at : (f : ℕ) (a four : Bool) (r : ℕ) (k : Bool → ℕ → ℕ → Bool) → T (ways f a four r k) → (j : Bool)
    → T (k (four && j) (placed f (cond four (cond (beq a (not j)) 9 3) r)) (placed f (cond four (cond (beq a (not j)) 6 12) 0)))
unfolding ways
ways_at f true true r k t true = right (k false (placed f 9) (placed f 6)) (k true (placed f 3) (placed f 12)) t
ways_at f true true r k t false = left (k false (placed f 9) (placed f 6)) (k true (placed f 3) (placed f 12)) t
ways_at f false true r k t true = left (k true (placed f 9) (placed f 6)) (k false (placed f 3) (placed f 12)) t
ways_at f false true r k t false = right (k true (placed f 9) (placed f 6)) (k false (placed f 3) (placed f 12)) t
ways_at f a false r k t j = t

abbrev ring_at : ℕ → ℕ → ℕ
ring_at p f = ring_mask (holds p (ring_corner f 0)) (holds p (ring_corner f 1)) (holds p (ring_corner f 2)) (holds p (ring_corner f 3))

unfoldable face_ways : ℕ → ℕ → (Bool → ℕ → ℕ → Bool) → Bool
unfolding ways
face_ways p f k = ways f (holds p (ring_corner f 0)) (eqb (ring_at p f) 15) (ring_at p f) k

face_at : (p f : ℕ) (k : Bool → ℕ → ℕ → Bool) → T (face_ways p f k) → (j : Bool)
    → T (k (eqb (ring_at p f) 15 && j) (face_link first_link p f j) (face_link second_link p f j))
unfolding face_ways
face_at p f k t j = ways_at f (holds p (ring_corner f 0)) (eqb (ring_at p f) 15) (ring_at p f) k t j

unfoldable all_ways : ℕ → List ℕ → (List Bool → List ℕ → Bool) → Bool
unfolding face_ways
all_ways p [] k = k [] []
all_ways p (f ∷ fs) k = face_ways p f (λ x a b. all_ways p fs (λ xs ls. k (x ∷ xs) (a ∷ b ∷ ls)))

abbrev joined_from : ℕ → List ℕ → (ℕ → Bool) → List Bool
joined_from p [] j = []
joined_from p (f ∷ fs) j = (eqb (ring_at p f) 15 && j f) ∷ joined_from p fs j

all_ways_at : (p : ℕ) (fs : List ℕ) (k : List Bool → List ℕ → Bool) → T (all_ways p fs k) → (j : ℕ → Bool) → T (k (joined_from p fs j) (links_from p fs j))
unfolding all_ways
all_ways_at p [] k t j = t
all_ways_at p (f ∷ fs) k t j =
    all_ways_at p fs (λ xs ls. k ((eqb (ring_at p f) 15 && j f) ∷ xs) (face_link first_link p f (j f) ∷ face_link second_link p f (j f) ∷ ls))
    (face_at p f (λ x a b. all_ways p fs (λ xs ls. k (x ∷ xs) (a ∷ b ∷ ls))) t (j f)) j

-- a face with four crossed edges is a doubtful one
four_alternate : (a b c d : Bool) → eqb (ring_mask a b c d) 15 ≡ alternate a b c d
four_alternate true true true true = refl
four_alternate true true true false = refl
four_alternate true true false true = refl
four_alternate true true false false = refl
four_alternate true false true true = refl
four_alternate true false true false = refl
four_alternate true false false true = refl
four_alternate true false false false = refl
four_alternate false true true true = refl
four_alternate false true true false = refl
four_alternate false true false true = refl
four_alternate false true false false = refl
four_alternate false false true true = refl
four_alternate false false true false = refl
four_alternate false false false true = refl
four_alternate false false false false = refl

abbrev faces : List ℕ
faces = 0 ∷ 1 ∷ 2 ∷ 3 ∷ 4 ∷ 5 ∷ []

joined_is : (p : ℕ) (j : ℕ → Bool) → joined_from p faces j ≡ faces_of (joined_on (holds p) j)
joined_is p j = rw (is 0, is 1, is 2, is 3, is 4, is 5)
  where
    is : (f : ℕ) → eqb (ring_at p f) 15 ≡ alternate_on (holds p) f
    is f = four_alternate (holds p (ring_corner f 0)) (holds p (ring_corner f 1)) (holds p (ring_corner f 2)) (holds p (ring_corner f 3))

-- what the tests say of a sign pattern
unfoldable pub sort_of : ℕ → (ℕ → Bool) → Sort
unfolding one two
sort_of p j = record { one = one (holds p) j; two = two (holds p) j; some = mixed (holds p) }

-- the test at a sign pattern
unfoldable good_pattern : ℕ → Bool
unfolding all_ways good sort_of crossed_mask mask_of loops_from loop_from grow count_trailing_zeros
good_pattern p = let m = crossed_mask p in all_ways p faces (λ xs ls. good (sort_of p (at xs)) m ls (loops_from 4 ls m))

-- In four parts, which takes half the memory of one
computed0 : T (below 64 (λ p. good_pattern (0 + p)))
unfolding below good_pattern
computed0 = tt

computed1 : T (below 64 (λ p. good_pattern (64 + p)))
unfolding below good_pattern
computed1 = tt

computed2 : T (below 64 (λ p. good_pattern (128 + p)))
unfolding below good_pattern
computed2 = tt

computed3 : T (below 64 (λ p. good_pattern (192 + p)))
unfolding below good_pattern
computed3 = tt

part : (k : ℕ) → T (below 64 (λ p. good_pattern (k + p))) → (p : ℕ) → k ≤ p → p < k + 64 → T (good_pattern p)
part k t p h g = subst (λ (x : ℕ). T (good_pattern x)) (back k p h) (below_at 64 (λ p. good_pattern (k + p)) t (p - k) (less k p h g))
  where
    back : (k p : ℕ) → k ≤ p → k + (p - k) ≡ p
    back k p h = omega arith

    less : (k p : ℕ) → k ≤ p → p < k + 64 → p - k < 64
    less k p h g = omega arith

computed : (p : ℕ) → p < 256 → T (good_pattern p)
computed p h =
    ⊎_elim (λ (a : p < 64). part 0 computed0 p zero-le a)
    (λ (a : 64 ≤ p). ⊎_elim (λ (b : p < 128). part 64 computed1 p a b)
    (λ (b : 128 ≤ p). ⊎_elim (λ (c : p < 192). part 128 computed2 p b c) (λ (c : 192 ≤ p). part 192 computed3 p c h) (lt_or_ge p 192))
    (lt_or_ge p 128))
    (lt_or_ge p 64)

pub good_always : (p : ℕ) → p < 256 → (j : ℕ → Bool) → T (good (sort_of p (joined_on (holds p) j)) (crossed_mask p) (links_of p j) (loops_in p j))
unfolding good_pattern
good_always p h j =
    subst (λ (xs : List Bool). T (good (sort_of p (at xs)) (crossed_mask p) (links_of p j) (loops_in p j))) (joined_is p j)
    (all_ways_at p faces (λ xs ls. good (sort_of p (at xs)) (crossed_mask p) ls (loops_from 4 ls (crossed_mask p))) (computed p h) j)
