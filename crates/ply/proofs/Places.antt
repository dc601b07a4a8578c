-- A coordinate of a vertex is a number with the sign plus, from 0 to the far side of the box. So no NaN is ever written.
-- Assumes nothing.
use Prim.Native.Nat.{ℕ, ◌+◌, ◌*◌, ◌^◌, ◌≤◌, ◌<◌}
use mathlib.Core.Path.{◌≡◌, refl, sym, subst}
use mathlib.Core.Bool.{Bool, true, false}
use native.Mathlib.Nat.{mul-one}
use native.Mathlib.Omega.{arith}
use lib.Dec.{T, eqb, eqb→eq, lit≤}
use lib.IntN.{ℤ}
use lib.Ieee.{Float, nan, inf, fin, binary64, up, down, add, mul, lt, le}
use lib.Ieee.Fits.{and_l, and_r}
use Rattle.laws.proofs.Within.{Within, wider, at_most, add_within, mul_within, mul_most, add_minus_zero, whole_value, whole_within, plain_number, plain_least}
use Rattle.place.specs.Crossing.{float}
use Rattle.place.specs.Place.{plus_zero, one}
use Rattle.vertex_lists.specs.Rows.{from_zero_to_one}
use Rattle.ply.specs.Rows.{good_spacing}
use Rattle.ply.specs.File.{millimetres}
use Rattle.ply.specs.Words.{Number}

holds : {b : Bool} → b ≡ true → T b
holds e = subst T (sym e) tt

-- ---- cube coordinate plus offset

-- minus zero is the only float with the sign minus that is at least 0
minus_zero : (m : ℕ) (e : ℤ) → T (le plus_zero (fin true m e)) → m * up e ≡ 0
unfolding le
minus_zero m e t = omega (arith, eqb→eq (0 * 1 * down e) (m * up e * 1) (and_l (eqb (0 * 1 * down e) (m * up e * 1)) _ t), mul-one (m * up e))

sum_within : (c : ℕ) (x : Float) → c + 1 ≤ 2 ^ 53 → T (le plus_zero x) → T (le x one) → Within (c + 1) (add binary64 (float c) x)
unfolding le
sum_within c nan h a b = absurd a
sum_within c (inf true) h a b = absurd a
sum_within c (inf false) h a b = absurd b
sum_within c (fin true m e) h a b = wider (add binary64 (float c) (fin true m e)) (omega arith) (add_minus_zero binary64 (float c) m e c (omega (arith, h)) (minus_zero m e a) (whole_within binary64 c c (omega (arith, h)) (omega arith)))
sum_within c (fin false m e) h a b =
    add_within binary64 (float c) (fin false m e) c 1 h (whole_within binary64 c c (omega (arith, h)) (omega arith)) (at_most (fin false m e) one 1 tt (refl, refl) b)

-- ---- a spacing

spacing_most : (s : Float) → T (lt plus_zero s) → T (le s (float 1000)) → Within 1000 s
unfolding lt le
spacing_most nan a b = absurd a
spacing_most (inf true) a b = absurd a
spacing_most (inf false) a b = at_most (inf false) (float 1000) 1000 tt (whole_value binary64 1000 (lit≤ tt)) b
spacing_most (fin true m e) a b = absurd a
spacing_most (fin false m e) a b = at_most (fin false m e) (float 1000) 1000 tt (whole_value binary64 1000 (lit≤ tt)) b

-- ---- a coordinate, in a box of w cubes along its axis

module _ (c w : ℕ) (offset spacing : Float) (inside : c < w) (small : w ≤ 255) (o : from_zero_to_one offset ≡ true) (s : good_spacing spacing ≡ true) where
  sum : Within w (add binary64 (float c) offset)
  unfolding from_zero_to_one
  sum =
      wider (add binary64 (float c) offset) (omega (arith, inside))
      (sum_within c offset (omega (arith, inside, small)) (and_l (le plus_zero offset) (le offset one) (holds o)) (and_r (le plus_zero offset) (le offset one) (holds o)))

  step : Within 1000 spacing
  unfolding good_spacing
  step = spacing_most spacing (and_l (lt plus_zero spacing) (le spacing (float 1000)) (holds s)) (and_r (lt plus_zero spacing) (le spacing (float 1000)) (holds s))

  -- it is finite, has the sign plus, and is at most 1000 millimetres a cube
  pub coordinate_within : Within (w * 1000) (millimetres c offset spacing)
  unfolding millimetres
  coordinate_within = mul_within binary64 (add binary64 (float c) offset) spacing w 1000 (omega (arith, small)) sum step

  -- no NaN is written
  pub coordinate_number : Number (millimetres c offset spacing)
  coordinate_number = plain_number (millimetres c offset spacing) coordinate_within.0

  -- from 0 to the far side of the box: w cubes, times the spacing, rounded once
  pub coordinate_inside : T (le plus_zero (millimetres c offset spacing)) × T (le (millimetres c offset spacing) (mul binary64 (float w) spacing))
  unfolding millimetres
  coordinate_inside = (
    plain_least (millimetres c offset spacing) coordinate_within.0,
    mul_most binary64 (add binary64 (float c) offset) spacing w (omega (arith, small)) sum step.0,
  )
