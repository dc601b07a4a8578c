-- The links of a face, found by masks of the cube's edges, are those of the rule. That the crossed edges of a face are those of the cube
-- on the face is a test that antt computes at each sign pattern and face.
-- Assumes nothing.
use mathlib.Core.Path.{◌≡◌, refl, sym, ap, ap₂, ◌∙◌}
use mathlib.Core.Bool.{Bool, true, false, not, cond, beq}
use mathlib.Core.List.{List, [], ◌∷◌}
use Prim.Native.Nat.{ℕ, zero, suc, ◌+◌, ◌*◌, ◌<◌}
use native.Mathlib.Numerals.{add-one}
use native.Mathlib.Omega.{arith}
use native.Mathlib.Nat.{zero-mul}
use lib.Dec.{T, eqb, eqb→eq, lit<}
use lib.Bits.{bit_and, bit_xor}
use lib.ListN.{get_or, set}
use Rattle.laws.specs.Bits.{differ, holds}
use Rattle.laws.proofs.Tests.{both, left, right, same_eq, below, below_at}
use Rattle.block.specs.declared.Cut.{Cut}
use Rattle.block.specs.Grey.{positive}
use Rattle.cube_rule.specs.Edges.{corner_sample, pattern_of, crossed_mask}
use Rattle.cube_rule.specs.Faces.{ring_corner}
use Rattle.cube_rule.specs.Links.{decisions}
use Rattle.cube_rule.specs.Decider.{joined}
use Rattle.cube_rule.specs.Loops.{ring_mask, first_link, second_link, placed, face_link}
use Rattle.cube_rule.proofs.Laws.{pattern_lt, pattern_sign}
use Rattle.cube_rule.proofs.Tables.{ring_corner_lt}
use Rattle.cube.specs.declared.Face.{Face}
use Rattle.cube.specs.declared.Links.{Links}
use Rattle.cube.specs.Faces.{cut_face}

-- the corners and the masks of the face f
abbrev pub face_of : ℕ → Face
face_of f = record {
  around = ring_corner f 0 ∷ ring_corner f 1 ∷ ring_corner f 2 ∷ ring_corner f 3 ∷ [];
  ring = placed f 15;
  corner = placed f 9;
  next = placed f 3;
}

-- the table of all six
abbrev pub all_faces : List Face
all_faces = face_of 0 ∷ face_of 1 ∷ face_of 2 ∷ face_of 3 ∷ face_of 4 ∷ face_of 5 ∷ []

face_at : (d : Face) (f : ℕ) → f < 6 → get_or all_faces f d ≡ face_of f
face_at d zero h = refl
face_at d (suc zero) h = refl
face_at d (suc (suc zero)) h = refl
face_at d (suc (suc (suc zero))) h = refl
face_at d (suc (suc (suc (suc zero)))) h = refl
face_at d (suc (suc (suc (suc (suc zero))))) h = refl
face_at d (suc (suc (suc (suc (suc (suc f)))))) h = absurd (omega arith)

-- the crossed edges of the face f at the sign pattern p, as a set of its own edges
abbrev crossed_on : ℕ → ℕ → ℕ
crossed_on f p = ring_mask (holds p (ring_corner f 0)) (holds p (ring_corner f 1)) (holds p (ring_corner f 2)) (holds p (ring_corner f 3))

-- ---- the crossed edges of a face are those of the cube that are on it, and it has four if these are its whole ring

abbrev same_edges : ℕ → ℕ → Bool
same_edges p f = eqb (placed f (crossed_on f p)) (bit_and (crossed_mask p) (placed f 15))

abbrev same_four : ℕ → ℕ → Bool
same_four p f = beq (eqb (crossed_on f p) 15) (eqb (bit_and (crossed_mask p) (placed f 15)) (placed f 15))

crossed_alike : ℕ → ℕ → Bool
crossed_alike p f = both (same_edges p f) (same_four p f)

crossed_alike_computed : T (below 256 (λ (p : ℕ). below 6 (crossed_alike p)))
unfolding below crossed_alike crossed_mask
crossed_alike_computed = tt

crossed_alike_lem : (p f : ℕ) → p < 256 → f < 6 → T (crossed_alike p f)
crossed_alike_lem p f p-lt f_lt = below_at 6 (crossed_alike p) (below_at 256 (λ (p : ℕ). below 6 (crossed_alike p)) crossed_alike_computed p p-lt) f f_lt

same_edges_lem : (p f : ℕ) → p < 256 → f < 6 → placed f (crossed_on f p) ≡ bit_and (crossed_mask p) (placed f 15)
unfolding crossed_alike
same_edges_lem p f p-lt f_lt = eqb→eq _ _ (left (same_edges p f) (same_four p f) (crossed_alike_lem p f p-lt f_lt))

same_four_lem : (p f : ℕ) → p < 256 → f < 6 → eqb (crossed_on f p) 15 ≡ eqb (bit_and (crossed_mask p) (placed f 15)) (placed f 15)
unfolding crossed_alike
same_four_lem p f p-lt f_lt = same_eq _ _ (right (same_edges p f) (same_four p f) (crossed_alike_lem p f p-lt f_lt))

-- ---- the edges of a face but two are the other two

others : ℕ → ℕ → ℕ → Bool
others m n f = eqb (bit_xor (placed f 15) (placed f m)) (placed f n)

others_at : (m n : ℕ) → T (below 6 (others m n)) → (f : ℕ) → f < 6 → bit_xor (placed f 15) (placed f m) ≡ placed f n
unfolding others
others_at m n t f h = eqb→eq _ _ (below_at 6 (others m n) t f h)

-- ---- the links, where x are the crossed edges of the face f and m the same as edges of the cube

module _ (f : ℕ) (f_lt : f < 6) (m x : ℕ) (edges : placed f x ≡ m) where
  first_cut : (four first : Bool) → ◌≡◌ {A = ℕ} (cond four (cond first (placed f 9) (placed f 3)) m) (placed f (cond four (cond first 9 3) x))
  first_cut true true = refl
  first_cut true false = refl
  first_cut false first = sym edges

  second_cut : (four first : Bool) → ◌≡◌ {A = ℕ} (cond four (cond first (bit_xor (placed f 15) (placed f 9)) (bit_xor (placed f 15) (placed f 3))) 0) (placed f (cond four (cond first 6 12) 0))
  unfolding below others
  second_cut true true = others_at 9 6 tt f f_lt
  second_cut true false = others_at 3 12 tt f f_lt
  second_cut false first = simp zero-mul

-- two signs differ if the one is the other's opposite
differ_not : (a b : Bool) → differ a b ≡ beq a (not b)
differ_not true true = refl
differ_not true false = refl
differ_not false true = refl
differ_not false false = refl

-- what is found on the face f, where m are the cube's crossed edges
abbrev found_on : Cut → List ℕ → ℕ → ℕ → Links
found_on cut corners m f =
    cut_face (face_of f) (bit_and m (placed f 15)) (differ (positive cut (corner_sample corners (ring_corner f 0))) (decisions joined cut corners f))

-- the links of the first f faces by the rule, in twelve places
unfoldable pub links_to : Cut → List ℕ → ℕ → List ℕ
links_to cut corners zero = 0 ∷ 0 ∷ 0 ∷ 0 ∷ 0 ∷ 0 ∷ 0 ∷ 0 ∷ 0 ∷ 0 ∷ 0 ∷ 0 ∷ []
links_to cut corners (suc f) =
    set (set (links_to cut corners f) (2 * f) (face_link first_link (pattern_of cut corners) f (decisions joined cut corners f)))
    (2 * f + 1) (face_link second_link (pattern_of cut corners) f (decisions joined cut corners f))

module _ (cut : Cut) (corners : List ℕ) (m : ℕ) (m-is : m ≡ crossed_mask (pattern_of cut corners)) where
  -- is what the rule says of it
  links_on_lem : (f : ℕ) → f < 6
      → ((found_on cut corners m f).first ≡ face_link first_link (pattern_of cut corners) f (decisions joined cut corners f))
      × ((found_on cut corners m f).second ≡ face_link second_link (pattern_of cut corners) f (decisions joined cut corners f))
  links_on_lem f f_lt =
      let p = pattern_of cut corners in
      let x = crossed_on f p in
      let n = bit_and m (placed f 15) in
      let first = beq (holds p (ring_corner f 0)) (not (decisions joined cut corners f)) in
      let edges : placed f x ≡ n = rw m-is (same_edges_lem p f (pattern_lt cut corners) f_lt) in
      let four : eqb n (placed f 15) ≡ eqb x 15 = rw m-is (sym (same_four_lem p f (pattern_lt cut corners) f_lt)) in
      let sign : differ (positive cut (corner_sample corners (ring_corner f 0))) (decisions joined cut corners f) ≡ first =
      ap (λ (a : Bool). differ a (decisions joined cut corners f)) (sym (pattern_sign cut corners (ring_corner f 0) (ring_corner_lt f 0 f_lt (lit< tt))))
      ∙ differ_not (holds p (ring_corner f 0)) (decisions joined cut corners f) in
      let told : (u v w : ℕ) → _ = λ (u v w : ℕ). ap₂ (λ (b c : Bool). cond b (cond c u v) w) four sign in (
        told (placed f 9) (placed f 3) n ∙ first_cut f f_lt n x edges (eqb x 15) first,
        told (bit_xor (placed f 15) (placed f 9)) (bit_xor (placed f 15) (placed f 3)) 0 ∙ second_cut f f_lt n x edges (eqb x 15) first,
      )

  -- so one face more, with the links l as the code finds them by its table of faces
  pub links_more : {f : ℕ} {links : List ℕ} (faces : List Face) → faces ≡ all_faces → (d : Face) → f < 6 → links ≡ links_to cut corners f
      → (l : Links) → l ≡ (let face = get_or faces f d in
      let sample : (i : ℕ) → ℕ = λ i. corner_sample corners (get_or face.around i 0) in
      cut_face face (bit_and m face.ring) (differ (positive cut (sample 0)) (joined cut (sample 0) (sample 1) (sample 2) (sample 3))))
      → set (set links (2 * f) l.first) (2 * f + 1) l.second ≡ links_to cut corners (f + 1)
  unfolding links_to
  links_more {f} faces t d f_lt e l l-is =
      let found : l ≡ found_on cut corners m f = rw (t, face_at d f f_lt) at l-is in
      rw (add-one f, e, found, (links_on_lem f f_lt).0, (links_on_lem f f_lt).1)
