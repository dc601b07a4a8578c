-- The tables of edges and faces have the cube's geometry, each by one computed test: an edge runs along its axis, lies on just the
-- faces that both its corners lie on, which are two, and stands in a face's ring between two corners.
-- Assumes nothing.
use Prim.Native.Nat.{ℕ, ◌+◌, ◌/◌, ◌%◌, ◌^◌, ◌<◌}
use mathlib.Core.Path.{◌≡◌, refl, ap₂, ◌∙◌}
use mathlib.Core.Bool.{Bool, true, false, ◌&&◌, ◌||◌, beq}
use mathlib.Core.Logic.{◌⊎◌, inl, inr, ⊎_elim}
use lib.Dec.{T, eqb, ltb, eqb→eq, ltb→lt}
use Rattle.laws.specs.Bits.{differ}
use Rattle.laws.specs.Counting.{count}
use Rattle.laws.proofs.Tests.{both, one_of, left, right, cases, same_eq, below, below_at}
use Rattle.cube_rule.specs.Edges.{lower, upper, axis_of, corner_on}
use Rattle.cube_rule.specs.Faces.{ring_edge, ring_corner}
use Rattle.cube_rule.specs.Links.{next}

-- ---- an edge runs from its lower corner to the upper one, along its axis

along : ℕ → Bool
along e = both (ltb (lower e) 8) (both (ltb (upper e) 8) (both (eqb (corner_on (axis_of e) (lower e)) 0) (eqb (upper e) (lower e + 2 ^ axis_of e))))

edges_along_lem : T (below 12 along)
unfolding below along
edges_along_lem = tt

module _ (e : ℕ) (h : e < 12) where
  at_edge : T (along e)
  at_edge = below_at 12 along edges_along_lem e h

  rest : T (both (ltb (upper e) 8) (both (eqb (corner_on (axis_of e) (lower e)) 0) (eqb (upper e) (lower e + 2 ^ axis_of e))))
  unfolding along
  rest = right (ltb (lower e) 8) _ at_edge

  pub lower_lt : lower e < 8
  unfolding along
  lower_lt = ltb→lt (lower e) 8 (left (ltb (lower e) 8) _ at_edge)

  pub upper_lt : upper e < 8
  upper_lt = ltb→lt (upper e) 8 (left (ltb (upper e) 8) _ rest)

  pub lower_at_zero : corner_on (axis_of e) (lower e) ≡ 0
  lower_at_zero = eqb→eq (corner_on (axis_of e) (lower e)) 0 (left (eqb (corner_on (axis_of e) (lower e)) 0) _ (right (ltb (upper e) 8) _ rest))

  pub upper_is : upper e ≡ lower e + 2 ^ axis_of e
  upper_is = eqb→eq (upper e) (lower e + 2 ^ axis_of e) (right (eqb (corner_on (axis_of e) (lower e)) 0) _ (right (ltb (upper e) 8) _ rest))

-- ---- an edge is on the face x=0 exactly if both its corners have x = 0, and so for all six: face f is at f % 2 on the axis f / 2

-- the edge e is one of the face f
abbrev on_face : ℕ → ℕ → Bool
on_face f e = eqb e (ring_edge f 0) || eqb e (ring_edge f 1) || eqb e (ring_edge f 2) || eqb e (ring_edge f 3)

-- both its corners are on f's side of the axis
abbrev both_ends : ℕ → ℕ → Bool
both_ends f e = eqb (corner_on (f / 2) (lower e)) (f % 2) && eqb (corner_on (f / 2) (upper e)) (f % 2)

on_face_test : ℕ → ℕ → Bool
on_face_test f e = beq (on_face f e) (both_ends f e)

on_face_computed : T (below 6 (λ f. below 12 (on_face_test f)))
unfolding below on_face_test
on_face_computed = tt

pub on_face_ends : (f e : ℕ) → f < 6 → e < 12
    → (eqb e (ring_edge f 0) || eqb e (ring_edge f 1) || eqb e (ring_edge f 2) || eqb e (ring_edge f 3))
    ≡ (eqb (corner_on (f / 2) (lower e)) (f % 2) && eqb (corner_on (f / 2) (upper e)) (f % 2))
unfolding on_face_test
on_face_ends f e hf he = same_eq _ _ (below_at 12 (on_face_test f) (below_at 6 (λ f. below 12 (on_face_test f)) on_face_computed f hf) e he)

-- ---- each edge is on exactly two faces

abbrev faces_of : ℕ → ℕ
faces_of e = count (λ (f : ℕ). on_face f e) 6

two_faces_test : ℕ → Bool
two_faces_test e = eqb (faces_of e) 2

two_faces_computed : T (below 12 two_faces_test)
unfolding below two_faces_test count
two_faces_computed = tt

pub edge_on_two_faces : (e : ℕ) → e < 12 → count (λ (f : ℕ). eqb e (ring_edge f 0) || eqb e (ring_edge f 1) || eqb e (ring_edge f 2) || eqb e (ring_edge f 3)) 6 ≡ 2
unfolding two_faces_test
edge_on_two_faces e h = eqb→eq (faces_of e) 2 (below_at 12 two_faces_test two_faces_computed e h)

-- ---- edge i of a face joins its corner i to the next, so neighbours in the ring share a corner

abbrev joins : ℕ → ℕ → ℕ → Bool
joins e a b = one_of (both (eqb (lower e) a) (eqb (upper e) b)) (both (eqb (lower e) b) (eqb (upper e) a))

ring_test : ℕ → ℕ → Bool
ring_test f i = both (both (ltb (ring_edge f i) 12) (ltb (ring_corner f i) 8)) (joins (ring_edge f i) (ring_corner f i) (ring_corner f (next i)))

ring_computed : T (below 6 (λ f. below 4 (ring_test f)))
unfolding below ring_test
ring_computed = tt

module _ (f i : ℕ) (hf : f < 6) (hi : i < 4) where
  at_ring : T (ring_test f i)
  at_ring = below_at 4 (ring_test f) (below_at 6 (λ f. below 4 (ring_test f)) ring_computed f hf) i hi

  pub ring_corner_lt : ring_corner f i < 8
  unfolding ring_test
  ring_corner_lt = ltb→lt (ring_corner f i) 8 (right (ltb (ring_edge f i) 12) _ (left (both (ltb (ring_edge f i) 12) (ltb (ring_corner f i) 8)) _ at_ring))

  pub ring_edge_joins : ((lower (ring_edge f i) ≡ ring_corner f i) × (upper (ring_edge f i) ≡ ring_corner f (next i)))
      ⊎ ((lower (ring_edge f i) ≡ ring_corner f (next i)) × (upper (ring_edge f i) ≡ ring_corner f i))
  unfolding ring_test
  ring_edge_joins =
      ⊎_elim (λ t. inl (pair (ring_corner f i) (ring_corner f (next i)) t)) (λ t. inr (pair (ring_corner f (next i)) (ring_corner f i) t))
      (cases (ends (ring_corner f i) (ring_corner f (next i))) (ends (ring_corner f (next i)) (ring_corner f i)) (right (both (ltb (ring_edge f i) 12) (ltb (ring_corner f i) 8)) _ at_ring))
    where
      ends : ℕ → ℕ → Bool
      ends a b = both (eqb (lower (ring_edge f i)) a) (eqb (upper (ring_edge f i)) b)

      pair : (a b : ℕ) → T (both (eqb (lower (ring_edge f i)) a) (eqb (upper (ring_edge f i)) b)) → (lower (ring_edge f i) ≡ a) × (upper (ring_edge f i) ≡ b)
      pair a b t = (eqb→eq (lower (ring_edge f i)) a (left (eqb (lower (ring_edge f i)) a) _ t), eqb→eq (upper (ring_edge f i)) b (right (eqb (lower (ring_edge f i)) a) _ t))

differ_comm : (a b : Bool) → differ a b ≡ differ b a
differ_comm true true = refl
differ_comm true false = refl
differ_comm false true = refl
differ_comm false false = refl

-- so an edge of a face is crossed if the signs of the two corners in the ring differ
pub ring_edge_crossed : (s : ℕ → Bool) (f i : ℕ) → f < 6 → i < 4
    → differ (s (lower (ring_edge f i))) (s (upper (ring_edge f i))) ≡ differ (s (ring_corner f i)) (s (ring_corner f (next i)))
ring_edge_crossed s f i hf hi =
    ⊎_elim (λ w. ap₂ (λ (a b : ℕ). differ (s a) (s b)) w.0 w.1)
    (λ w. ap₂ (λ (a b : ℕ). differ (s a) (s b)) w.0 w.1 ∙ differ_comm (s (ring_corner f (next i))) (s (ring_corner f i)))
    (ring_edge_joins f i hf hi)
