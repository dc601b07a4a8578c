-- What the words say of the plain cubes: a cube whose bit is set has the signs of a plain one.
-- Assumes nothing.
use mathlib.Core.Path.{◌≡◌, refl, sym, ◌∙◌}
use mathlib.Core.Bool.{Bool, true, false, not, ◌&&◌, ◌||◌}
use mathlib.Core.List.{List}
use Prim.Native.Nat.{ℕ, zero, suc, ◌*◌, ◌+◌, ◌<◌}
use native.Mathlib.Omega.{arith}
use lib.ListN.{get_or}
use Rattle.laws.specs.Bits.{differ, holds}
use Rattle.cube_rule.specs.Faces.{ring_corner}
use Rattle.cube_rule.specs.Plain.{alternate_on, doubtful_on, uneven, plain}
use Rattle.cube_rule.proofs.Alike.{plain_same}
use Rattle.cube_rule.proofs.Tables.{ring_corner_lt}
use Rattle.planes.specs.Planes.{pattern_at}
use Rattle.faces.specs.Faces.{without_of, alternate_at, alternates_of, uneven_of, doubtful_of, plain_among, plain_of}
use Rattle.planes.proofs.BitSays.{Says, says_or, says_xor}
use Rattle.planes.proofs.ActiveCubes.{sign, unlike, says_active, pattern_holds}

-- the bits of one word that another does not have
pub says_without : (i : ℕ) {a b : ℕ} {x y : Bool} → Says i a x → Says i b y → Says i (without_of a b) (x && not y)
says_without i {a} {b} {x} {y} p q = record { is = (says_xor i (says_or i p q) q).is ∙ less x y }
  where
    less : (x y : Bool) → differ (x || y) y ≡ (x && not y)
    less true true = refl
    less true false = refl
    less false true = refl
    less false false = refl

-- 64 cubes at once
module _ (i : ℕ) (e : List ℕ) where
  -- round the face f
  round : (f : ℕ) → Says i (alternate_at e f) (alternate_on (sign i e) f)
  round f =
      says_without i (unlike i e (ring_corner f 0) (ring_corner f 1)) (says_or i (unlike i e (ring_corner f 0) (ring_corner f 2)) (unlike i e (ring_corner f 1) (ring_corner f 3)))

  -- the word of the face f, by the list of all six
  pub says_face : (f : ℕ) → f < 6 → Says i (get_or (alternates_of e) f 0) (alternate_on (sign i e) f)
  unfolding alternates_of
  says_face zero h = round 0
  says_face (suc zero) h = round 1
  says_face (suc (suc zero)) h = round 2
  says_face (suc (suc (suc zero))) h = round 3
  says_face (suc (suc (suc (suc zero)))) h = round 4
  says_face (suc (suc (suc (suc (suc zero))))) h = round 5
  says_face (suc (suc (suc (suc (suc (suc f)))))) h = absurd (omega arith)

  says_uneven : Says i (uneven_of e) (uneven (sign i e))
  says_uneven = says_or i (unlike i e 0 7) (says_or i (unlike i e 1 6) (says_or i (unlike i e 2 5) (unlike i e 3 4)))

  pub says_doubtful : (axis : ℕ) → axis < 3 → Says i (doubtful_of (alternates_of e) axis) (doubtful_on (sign i e) axis)
  says_doubtful axis h = says_or i (says_face (2 * axis) (omega arith)) (says_face (2 * axis + 1) (omega arith))

  pub says_plain : Says i (plain_of e) (plain (sign i e))
  unfolding plain_among plain
  says_plain =
      says_without i (says_active i e)
      (says_or i (says_doubtful 0 (omega arith)) (says_or i (says_doubtful 1 (omega arith)) (says_or i (says_doubtful 2 (omega arith)) (says_without i (says_active i e) says_uneven))))

-- a cube whose bit is set has the sign pattern of a plain one
pub plain_bit : (e : List ℕ) (i : ℕ) → holds (plain_of e) i ≡ plain (holds (pattern_at e i))
plain_bit e i = (says_plain i e).is ∙ sym (plain_same (holds (pattern_at e i)) (sign i e) (pattern_holds i e))

-- and one whose bit of the face f is set has signs that alternate round it
pub face_bit : (e : List ℕ) (i f : ℕ) → f < 6 → holds (get_or (alternates_of e) f 0) i ≡ alternate_on (holds (pattern_at e i)) f
face_bit e i f h =
    let s : (c : ℕ) → c < 4 → holds (pattern_at e i) (ring_corner f c) ≡ sign i e (ring_corner f c) = λ c k. pattern_holds i e (ring_corner f c) (ring_corner_lt f c h k) in
    (says_face i e f h).is ∙ rw (s 0 (omega arith), s 1 (omega arith), s 2 (omega arith), s 3 (omega arith))
