-- Texts put one behind the other, and a number digit by digit.
-- Assumes nothing.
use Prim.Native.Nat.{ℕ, ◌+◌, ◌-◌, ◌/◌, ◌%◌, ◌^◌, ◌≤◌}
use mathlib.Core.Path.{◌≡◌, sym, ap}
use mathlib.Core.List.{List, [], ◌∷◌, ◌++◌}
use native.Mathlib.Nat.{sub_self, div-one}
use native.Mathlib.Numerals.{add-one}
use native.Mathlib.Omega.{arith}
use lib.ListN.{set}
use lib.Pow.{shr-shr}
use Rattle.laws.specs.Put.{Put}
use Rattle.laws.proofs.Puts.{put_one, put_none, put_then}
use Rattle.reading.specs.Text.{hex_of}
use Rattle.reading.specs.Steps.{glyph}

-- ---- digits

-- the digits of v that stand above the last `left` bits, and one more of them
pub hex_more : (v left i : ℕ) → hex_of i (v / 2 ^ (left + 4)) ++ glyph (v / 2 ^ left % 16) ∷ [] ≡ hex_of (i + 1) (v / 2 ^ left)
unfolding hex_of
hex_more v left i =
    rw (add-one i) (ap (λ (u : ℕ). hex_of i u ++ glyph (v / 2 ^ left % 16) ∷ []) (sym (shr-shr v left 4)))

-- the same as a loop meets it: next - at digits are put, and `left` bits are left
module _ (out : List ℕ) (at v : ℕ) where
  abbrev pub PutTo : ℕ → List ℕ → ℕ → Type 0
  PutTo left out' next = Put out at (hex_of (next - at) (v / 2 ^ left)) out' next

  pub hex_start : (left : ℕ) → PutTo left out at
  unfolding hex_of
  hex_start left = rw (sub_self at) (put_none out at)

  pub hex_digit : (left : ℕ) (out' : List ℕ) (next g : ℕ) → at ≤ next → 4 ≤ left → g ≡ glyph (v / 2 ^ (left - 4) % 16)
      → PutTo left out' next → PutTo (left - 4) (set out' next g) (next + 1)
  hex_digit left out' next g h l e p =
      let bits : left ≡ left - 4 + 4 = omega arith in
      let more : next + 1 - at ≡ next - at + 1 = omega arith in
      rw (e, more, ← hex_more v (left - 4) (next - at)) (put_then _ (rw bits at p) (put_one out' next (glyph (v / 2 ^ (left - 4) % 16))))

  pub hex_end : (k left : ℕ) (out' : List ℕ) (next : ℕ) → left ≡ 0 → next - at ≡ k → PutTo left out' next → Put out at (hex_of k v) out' next
  hex_end k left out' next e f p = rw (e, f, div-one) at p
