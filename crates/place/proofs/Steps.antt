-- The local coordinate by cases, and the code's constant.
-- Assumes nothing.
use mathlib.Core.Path.{◌≡◌, refl, sym}
use mathlib.Core.Bool.{cond}
use Prim.Native.Nat.{ℕ, zero, suc, ◌/◌, ◌<◌}
use native.Mathlib.Omega.{arith}
use lib.Dec.{eqb}
use lib.Ieee.{Float, binary64, of_bits, of_int}
use borrow.Author.Tests.{eq-eqb, ne_eqb}
use Rattle.cube_rule.specs.Edges.{lower, corner_on}
use Rattle.place.specs.Crossing.{float}
use Rattle.place.specs.Place.{plus_zero, one, local}

-- the code's 0.0
pub zero_bits : of_bits binary64 0 ≡ plus_zero
unfolding of_bits
zero_bits = refl

-- a coordinate of a corner, as a float
float_side : (s : ℕ) → s < 2 → float s ≡ cond (eqb s 0) plus_zero one
unfolding of_int
float_side zero h = refl
float_side (suc zero) h = refl
float_side (suc (suc s)) h = absurd (omega arith)

module _ (a e : ℕ) (f : Float) where
  -- along the edge
  pub local_along : e / 4 ≡ a → local a e f ≡ f
  unfolding local
  local_along h = simp (eq-eqb (e / 4) a h)

  -- across it
  pub local_across : (e / 4 ≡ a → ⊥) → (c : ℕ) → c ≡ lower e → local a e f ≡ float (corner_on a c)
  unfolding local
  local_across h c is = rw (ne_eqb (e / 4) a h, is) (sym (float_side (corner_on a (lower e)) (omega arith)))
