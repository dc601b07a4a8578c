-- The sixteen digits: what a byte is worth, the byte of a number, and that the one undoes the other.
-- Assumes nothing.
use Prim.Native.Nat.{ℕ, ◌+◌, ◌-◌, ◌≤◌, ◌<◌}
use mathlib.Core.Path.{◌≡◌, sym, ◌∙◌}
use mathlib.Core.Bool.{Bool, true, false, cond, ◌&&◌}
use native.Mathlib.Omega.{arith}
use lib.Dec.{T, ltb, eqb}
use lib.ListN.{get_or}
use borrow.Author.Tests.{lt-ltb, le-ltb, eqb-true}
use Rattle.laws.proofs.Tests.{below, below_at, is_true}
use Rattle.block.specs.Rows.{lowest}
use Rattle.reading.specs.Text.{digits, digit_of}
use Rattle.reading.specs.Steps.{glyph}

-- the same by comparisons
abbrev worth : ℕ → ℕ
worth b = cond (ltb b 48) 16 (cond (ltb b 58) (b - 48) (cond (ltb b 65) 16 (cond (ltb b 71) (b - 55) 16)))

all_bytes : T (below 257 (λ (b : ℕ). eqb (digit_of b) (worth b)))
unfolding below digits lowest
all_bytes = tt

worth_is : (b : ℕ) → b ≤ 256 → digit_of b ≡ worth b
worth_is b h = eqb-true (digit_of b) (worth b) (is_true _ (below_at 257 (λ (b : ℕ). eqb (digit_of b) (worth b)) all_bytes b (omega arith)))

module _ (b : ℕ) (h : b ≤ 256) where
  pub before_digits : b < 48 → 16 ≡ digit_of b
  before_digits l = sym (worth_is b h ∙ rw (lt-ltb b 48 l))

  pub decimal_digit : 48 ≤ b → b < 58 → b - 48 ≡ digit_of b
  decimal_digit g l = sym (worth_is b h ∙ rw (le-ltb b 48 g, lt-ltb b 58 l))

  pub between_digits : 58 ≤ b → b < 65 → 16 ≡ digit_of b
  between_digits g l = sym (worth_is b h ∙ rw (le-ltb b 48 (omega arith), le-ltb b 58 g, lt-ltb b 65 l))

  pub letter : 65 ≤ b → b < 71 → b - 55 ≡ digit_of b
  letter g l = sym (worth_is b h ∙ rw (le-ltb b 48 (omega arith), le-ltb b 58 (omega arith), le-ltb b 65 g, lt-ltb b 71 l))

  pub behind_digits : 71 ≤ b → 16 ≡ digit_of b
  behind_digits g = sym (worth_is b h ∙ rw (le-ltb b 48 (omega arith), le-ltb b 58 (omega arith), le-ltb b 65 (omega arith), le-ltb b 71 g))

-- the digit of a number
abbrev glyph_by : ℕ → ℕ
glyph_by d = cond (ltb d 10) (48 + d) (55 + d)

all_digits : T (below 16 (λ (d : ℕ). eqb (glyph d) (glyph_by d) && eqb (digit_of (glyph d)) d))
unfolding below digits lowest
all_digits = tt

and_left : (a b : Bool) → T (a && b) → T a
and_left true b t = tt
and_left false b t = t

and_right : (a b : Bool) → T (a && b) → T b
and_right true b t = t
and_right false b t = absurd t

module _ (d : ℕ) (h : d < 16) where
  both_at : T (eqb (glyph d) (glyph_by d) && eqb (digit_of (glyph d)) d)
  both_at = below_at 16 (λ (d : ℕ). eqb (glyph d) (glyph_by d) && eqb (digit_of (glyph d)) d) all_digits d h

  glyph_is : glyph d ≡ glyph_by d
  glyph_is = eqb-true _ _ (is_true _ (and_left (eqb (glyph d) (glyph_by d)) _ both_at))

  pub glyph_low : d < 10 → 48 + d ≡ glyph d
  glyph_low l = sym (glyph_is ∙ rw (lt-ltb d 10 l))

  pub glyph_high : 10 ≤ d → 55 + d ≡ glyph d
  glyph_high g = sym (glyph_is ∙ rw (le-ltb d 10 g))

  -- a digit that is written is read as it was
  pub digit_back : digit_of (get_or digits d 0) ≡ d
  digit_back = eqb-true _ _ (is_true _ (and_right (eqb (glyph d) (glyph_by d)) _ both_at))
