-- The links of a face as sets: they are those of the face rule, each crossed edge has just one, and a face's set as a set of the
-- cube's edges has the same edges. By tests that antt computes over all signs and both decisions.
-- Assumes nothing.
use Prim.Native.Nat.{ℕ, ◌+◌, ◌<◌}
use mathlib.Core.Path.{◌≡◌}
use mathlib.Core.Bool.{Bool, true, not, ◌&&◌, ◌||◌, beq}
use lib.Dec.{T, eqb, ltb, eqb→eq, ltb→lt}
use Rattle.laws.specs.Bits.{bit, holds}
use Rattle.laws.proofs.Tests.{both, one_of, left, right, imply, is_true, same_eq, either_way, either_way_at, below, below_at, some, some_at}
use Rattle.cube_rule.specs.Faces.{ring_edge}
use Rattle.cube_rule.specs.Links.{ring_crossed, linked_if}
use Rattle.cube_rule.specs.Loops.{first_link, second_link, placed}

-- a test at all signs and both decisions
abbrev rings : (Bool → Bool → Bool → Bool → Bool → Bool) → Bool
rings f = either_way (λ a. either_way (λ b. either_way (λ c. either_way (λ d. either_way (λ j. f a b c d j)))))

rings_at : (f : Bool → Bool → Bool → Bool → Bool → Bool) → T (rings f) → (a b c d j : Bool) → T (f a b c d j)
rings_at f t a b c d j =
    either_way_at (λ j. f a b c d j)
    (either_way_at (λ d. either_way (λ j. f a b c d j))
    (either_way_at (λ c. either_way (λ d. either_way (λ j. f a b c d j)))
    (either_way_at (λ b. either_way (λ c. either_way (λ d. either_way (λ j. f a b c d j))))
    (either_way_at (λ a. either_way (λ b. either_way (λ c. either_way (λ d. either_way (λ j. f a b c d j))))) t a) b) c) d) j

-- ---- edges i and k are linked exactly if one of the two sets has them both

abbrev pub sets : Bool → Bool → Bool → Bool → Bool → ℕ → ℕ → Bool
sets a b c d j i k =
    not (eqb i k) && (holds (first_link a b c d j) i && holds (first_link a b c d j) k || holds (second_link a b c d j) i && holds (second_link a b c d j) k)

linked_test : Bool → Bool → Bool → Bool → Bool → Bool
linked_test a b c d j = below 4 (λ i. below 4 (λ k. beq (linked_if a b c d j i k) (sets a b c d j i k)))

linked_computed : T (rings linked_test)
unfolding linked_test below linked_if
linked_computed = tt

pub linked_sets : (a b c d j : Bool) (i k : ℕ) → i < 4 → k < 4 → linked_if a b c d j i k ≡ sets a b c d j i k
unfolding linked_test
linked_sets a b c d j i k hi hk =
    same_eq _ _ (below_at 4 (λ k. beq (linked_if a b c d j i k) (sets a b c d j i k))
    (below_at 4 (λ i. below 4 (λ k. beq (linked_if a b c d j i k) (sets a b c d j i k))) (rings_at linked_test linked_computed a b c d j) i hi) k hk)

small_test : Bool → Bool → Bool → Bool → Bool → Bool
small_test a b c d j = both (ltb (first_link a b c d j) 16) (ltb (second_link a b c d j) 16)

small_computed : T (rings small_test)
unfolding small_test
small_computed = tt

pub first_lt : (a b c d j : Bool) → first_link a b c d j < 16
unfolding small_test
first_lt a b c d j = ltb→lt (first_link a b c d j) 16 (left (ltb (first_link a b c d j) 16) _ (rings_at small_test small_computed a b c d j))

pub second_lt : (a b c d j : Bool) → second_link a b c d j < 16
unfolding small_test
second_lt a b c d j = ltb→lt (second_link a b c d j) 16 (right (ltb (first_link a b c d j) 16) _ (rings_at small_test small_computed a b c d j))

-- ---- a crossed edge has one link, any other none

abbrev link_count : Bool → Bool → Bool → Bool → Bool → ℕ → ℕ
link_count a b c d j i = bit (linked_if a b c d j i 0) + bit (linked_if a b c d j i 1) + bit (linked_if a b c d j i 2) + bit (linked_if a b c d j i 3)

one_link_test : Bool → Bool → Bool → Bool → Bool → Bool
one_link_test a b c d j = below 4 (λ i. eqb (link_count a b c d j i) (bit (ring_crossed a b c d i)))

one_link_computed : T (rings one_link_test)
unfolding one_link_test below linked_if
one_link_computed = tt

pub one_link : (a b c d j : Bool) (i : ℕ) → i < 4 → link_count a b c d j i ≡ bit (ring_crossed a b c d i)
unfolding one_link_test
one_link a b c d j i hi =
    eqb→eq (link_count a b c d j i) (bit (ring_crossed a b c d i))
    (below_at 4 (λ i. eqb (link_count a b c d j i) (bit (ring_crossed a b c d i))) (rings_at one_link_test one_link_computed a b c d j) i hi)

-- ---- a face's set among the cube's edges

kept_test : ℕ → ℕ → ℕ → Bool
kept_test f m i = beq (holds (placed f m) (ring_edge f i)) (holds m i)

kept_computed : T (below 6 (λ f. below 16 (λ m. below 4 (kept_test f m))))
unfolding below kept_test
kept_computed = tt

pub placed_at : (f m i : ℕ) → f < 6 → m < 16 → i < 4 → holds (placed f m) (ring_edge f i) ≡ holds m i
unfolding kept_test
placed_at f m i hf hm hi =
    same_eq _ _ (below_at 4 (kept_test f m) (below_at 16 (λ m. below 4 (kept_test f m)) (below_at 6 (λ f. below 16 (λ m. below 4 (kept_test f m))) kept_computed f hf) m hm) i hi)

from_test : ℕ → ℕ → ℕ → Bool
from_test f m e = one_of (not (holds (placed f m) e)) (some 4 (λ i. both (eqb e (ring_edge f i)) (holds m i)))

from_computed : T (below 6 (λ f. below 16 (λ m. below 12 (from_test f m))))
unfolding below some from_test
from_computed = tt

pub placed_from : (f m e : ℕ) → f < 6 → m < 16 → e < 12 → holds (placed f m) e ≡ true → (i : ℕ) × (i < 4) × (e ≡ ring_edge f i) × (holds m i ≡ true)
unfolding from_test
placed_from f m e hf hm he x =
    let r = some_at 4 (λ i. both (eqb e (ring_edge f i)) (holds m i)) (imply (holds (placed f m) e) _
    (below_at 12 (from_test f m) (below_at 16 (λ m. below 12 (from_test f m)) (below_at 6 (λ f. below 16 (λ m. below 12 (from_test f m))) from_computed f hf) m hm) e he) x) in
    (r.0, r.1, eqb→eq e (ring_edge f r.0) (left (eqb e (ring_edge f r.0)) (holds m r.0) r.2), is_true (holds m r.0) (right (eqb e (ring_edge f r.0)) (holds m r.0) r.2))
