-- What the words say of the cubes with exactly one loop and of those with exactly two.
-- Assumes nothing.
use mathlib.Core.Path.{◌≡◌, refl, sym, ◌∙◌}
use mathlib.Core.Bool.{Bool}
use mathlib.Core.List.{List}
use Prim.Native.Nat.{ℕ, zero, suc, ◌<◌}
use native.Mathlib.Omega.{arith}
use lib.ListN.{get_or}
use Rattle.laws.specs.Bits.{holds}
use Rattle.cube_rule.specs.Sorts.{odd_in_three, two_in_three, two_in_four, mostly, three, six, rarer, odd, some, lone, one, two}
use Rattle.cube_rule.proofs.Alike.{one_same, two_same}
use Rattle.planes.specs.Planes.{pattern_at}
use Rattle.faces.specs.Faces.{alternates_of}
use Rattle.sorts.specs.Sorting.{odd_in_three_of, two_in_three_of, two_in_four_of, mostly_of, three_of, six_of, rarer_at, rarer_of, odd_of, some_of, lone_of, one_of, two_of}
use Rattle.planes.proofs.BitSays.{Says, says_and, says_or, says_xor}
use Rattle.faces.proofs.PlainCubes.{says_without, says_face, says_doubtful, says_plain}
use Rattle.planes.proofs.ActiveCubes.{sign, says_sign, unlike, says_active, pattern_holds}

module _ (i : ℕ) where
  odd_three : {a b c : ℕ} {x y z : Bool} → Says i a x → Says i b y → Says i c z → Says i (odd_in_three_of a b c) (odd_in_three x y z)
  odd_three p q r = says_xor i (says_xor i p q) r

  two_three : {a b c : ℕ} {x y z : Bool} → Says i a x → Says i b y → Says i c z → Says i (two_in_three_of a b c) (two_in_three x y z)
  two_three p q r = says_or i (says_and i p q) (says_and i r (says_xor i p q))

  two_four : {a b c d : ℕ} {x y z u : Bool} → Says i a x → Says i b y → Says i c z → Says i d u → Says i (two_in_four_of a b c d) (two_in_four x y z u)
  two_four p q r s = says_or i (says_and i p q) (says_or i (says_and i r s) (says_and i (says_or i p q) (says_or i r s)))

  module _ (e joined : List ℕ) where
    abbrev joins : ℕ → Bool
    joins f = holds (get_or joined f 0) i

    says_joined : (f : ℕ) → Says i (get_or joined f 0) (joins f)
    says_joined f = record { is = refl }

    says_mostly : Says i (mostly_of e) (mostly (sign i e))
    unfolding mostly_of mostly
    says_mostly =
        two_four (two_three (says_sign i e 0) (says_sign i e 1) (says_sign i e 2)) (two_three (says_sign i e 3) (says_sign i e 4) (says_sign i e 5))
        (says_and i (says_sign i e 6) (says_sign i e 7))
        (two_three (odd_three (says_sign i e 0) (says_sign i e 1) (says_sign i e 2)) (odd_three (says_sign i e 3) (says_sign i e 4) (says_sign i e 5)) (unlike i e 6 7))

    says_three : Says i (three_of (alternates_of e)) (three (sign i e))
    says_three = says_and i (says_doubtful i e 0 (omega arith)) (says_and i (says_doubtful i e 1 (omega arith)) (says_doubtful i e 2 (omega arith)))

    says_six : Says i (six_of (alternates_of e)) (six (sign i e))
    says_six = says_and i says_three (says_and i (says_face i e 0 (omega arith)) (says_face i e 1 (omega arith)))

    abbrev rarer_words : List ℕ
    rarer_words = rarer_of (alternates_of e) joined (mostly_of e)

    rarer_at_lem : (f : ℕ) → f < 6 → Says i (rarer_at (alternates_of e) joined (mostly_of e) f) (rarer (sign i e) joins f)
    rarer_at_lem f h = says_xor i (says_joined f) (says_and i (says_face i e f h) says_mostly)

    says_rarer : (f : ℕ) → f < 6 → Says i (get_or rarer_words f 0) (rarer (sign i e) joins f)
    unfolding rarer_of
    says_rarer zero h = rarer_at_lem 0 h
    says_rarer (suc zero) h = rarer_at_lem 1 h
    says_rarer (suc (suc zero)) h = rarer_at_lem 2 h
    says_rarer (suc (suc (suc zero))) h = rarer_at_lem 3 h
    says_rarer (suc (suc (suc (suc zero)))) h = rarer_at_lem 4 h
    says_rarer (suc (suc (suc (suc (suc zero))))) h = rarer_at_lem 5 h
    says_rarer (suc (suc (suc (suc (suc (suc f)))))) h = absurd (omega arith)

    says_odd : Says i (odd_of rarer_words) (odd (sign i e) joins)
    says_odd =
        says_xor i (says_rarer 0 (omega arith))
        (says_xor i (says_rarer 1 (omega arith))
        (says_xor i (says_rarer 2 (omega arith))
        (says_xor i (says_rarer 3 (omega arith)) (says_xor i (says_rarer 4 (omega arith)) (says_rarer 5 (omega arith))))))

    says_some : Says i (some_of rarer_words) (some (sign i e) joins)
    says_some =
        says_or i (says_rarer 0 (omega arith))
        (says_or i (says_rarer 1 (omega arith))
        (says_or i (says_rarer 2 (omega arith))
        (says_or i (says_rarer 3 (omega arith)) (says_or i (says_rarer 4 (omega arith)) (says_rarer 5 (omega arith))))))

    says_lone : Says i (lone_of (three_of (alternates_of e)) rarer_words) (lone (sign i e) joins)
    says_lone = says_and i says_some (says_xor i says_odd says_three)

    says_one : Says i (one_of e (alternates_of e) joined) (one (sign i e) joins)
    unfolding one_of one
    says_one = says_or i (says_plain i e) (says_without i says_lone says_six)

    says_two : Says i (two_of e (alternates_of e) joined) (two (sign i e) joins)
    unfolding two_of two
    says_two = says_without i (says_active i e) (says_or i (says_plain i e) (says_or i says_lone (says_or i says_six (says_without i says_three says_some))))

    -- a cube whose bit is set is one with exactly one loop, by its sign pattern and its joined faces
    pub one_bit : holds (one_of e (alternates_of e) joined) i ≡ one (holds (pattern_at e i)) (λ f. holds (get_or joined f 0) i)
    one_bit = says_one.is ∙ sym (one_same (holds (pattern_at e i)) (sign i e) (pattern_holds i e) joins joins (λ f h. refl))

    -- one with exactly two
    pub two_bit : holds (two_of e (alternates_of e) joined) i ≡ two (holds (pattern_at e i)) (λ f. holds (get_or joined f 0) i)
    two_bit = says_two.is ∙ sym (two_same (holds (pattern_at e i)) (sign i e) (pattern_holds i e) joins joins (λ f h. refl))
