-- What the words say of the signs of a cube: its pattern, and that an active cube is one of mixed signs.
-- Assumes nothing.
use mathlib.Core.Path.{◌≡◌, refl, sym, ap, ◌∙◌}
use mathlib.Core.Bool.{Bool}
use mathlib.Core.List.{List}
use Prim.Native.Nat.{ℕ, ◌/◌, ◌%◌, ◌^◌, ◌<◌}
use lib.Bits.{bit_xor}
use lib.ListN.{get_or}
use Rattle.laws.specs.Bits.{bit, differ, holds}
use Rattle.laws.proofs.Pack.{pack_cong, pack_mask}
use Rattle.laws.proofs.Words.{digit_holds}
use Rattle.laws.proofs.Bits.{holds_mask}
use Rattle.cube_rule.specs.Plain.{mixed}
use Rattle.cube_rule.proofs.Alike.{mixed_same}
use Rattle.planes.specs.Planes.{active_of, pattern_at}
use Rattle.planes.proofs.BitSays.{Says, says_or, says_xor}

module _ (i : ℕ) (e : List ℕ) where
  abbrev pub sign : ℕ → Bool
  sign c = holds (get_or e c 0) i

  pub says_sign : (c : ℕ) → Says i (get_or e c 0) (sign c)
  says_sign c = record { is = refl }

  pub unlike : (a b : ℕ) → Says i (bit_xor (get_or e a 0) (get_or e b 0)) (differ (sign a) (sign b))
  unlike a b = says_xor i (says_sign a) (says_sign b)

  pub says_active : Says i (active_of e) (mixed sign)
  unfolding active_of
  says_active =
      says_or i (unlike 0 1)
      (says_or i (unlike 0 2) (says_or i (unlike 0 3) (says_or i (unlike 0 4) (says_or i (unlike 0 5) (says_or i (unlike 0 6) (unlike 0 7))))))

  -- the cube's pattern has these signs
  pub pattern_holds : (c : ℕ) → c < 8 → holds (pattern_at e i) c ≡ sign c
  unfolding pattern_at
  pattern_holds c h =
      ap (λ (p : ℕ). holds p c) (pack_cong (λ c. get_or e c 0 / 2 ^ i % 2) (λ c. bit (sign c)) 8 (λ c h. digit_holds (get_or e c 0) i) ∙ pack_mask sign 8)
      ∙ holds_mask sign 8 c h

-- an active cube has a sign pattern of mixed signs
pub active_bit : (e : List ℕ) (i : ℕ) → holds (active_of e) i ≡ mixed (holds (pattern_at e i))
active_bit e i = (says_active i e).is ∙ sym (mixed_same (holds (pattern_at e i)) (sign i e) (pattern_holds i e))
