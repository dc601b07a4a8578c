-- Each fraction and each coordinate of each offset is at least 0 and at most 1, and has the sign plus.
-- A sum over the mask's edges is at most the number of edges summed, since no rounding carries it past a whole number.
-- Assumes nothing.
use mathlib.Core.Path.{◌≡◌, refl, sym, ◌∙◌, subst}
use mathlib.Core.Bool.{Bool, true, false, cond, not}
use mathlib.Core.List.{List, [], ◌∷◌}
use Prim.Native.Nat.{ℕ, zero, suc, ◌+◌, ◌*◌, ◌/◌, ◌%◌, ◌^◌, ◌≤◌, ◌<◌}
use native.Mathlib.Nat.{le_refl, le_trans, le_of_eq, le-add_right, le_of_suc-le, mul-one}
use native.Mathlib.Omega.{arith}
use lib.Count.{ones, ones-le}
use lib.Dec.{T, leb, eqb, lit<, lit≤}
use lib.Ieee.{Float, nan, inf, fin, binary64, up, down, add, is_nan}
use lib.Ieee.Order.{le_of_values}
use lib.Ieee.Positive.{den_pos}
use borrow.Author.Tests.{leb-true, leb-false, eqb-true}
use Rattle.laws.specs.Bits.{differ, holds}
use Rattle.laws.proofs.Bits.{ones_pos}
use Rattle.laws.proofs.Within.{Within, wider, either, add_within, whole_within, div_within, plain_least}
use Rattle.block.specs.declared.Cut.{Cut}
use Rattle.block.specs.Answer.{accepted}
use Rattle.block.specs.Grey.{cut_of, positive, apart, no_threshold, SixteenBit}
use Rattle.cube_rule.specs.Edges.{lower, upper, axis_of, corner_on, corner_sample, crossed_at}
use Rattle.place.specs.declared.Crossing.TheVariants.{At}
use Rattle.place.specs.Crossing.{gap, float, fraction, EdgeAnswered}
use Rattle.place.specs.Place.{plus_zero, one, local, fraction_at, sum_on, mean_on, place_of}
use Rattle.place.specs.Unit.{InUnit, Inside}
use Rattle.place.proofs.Answers.{refused_by, edge_answers}
use Rattle.place.proofs.Counts.{count_below, count_le, count_small}

-- ---- what is within 1 is in the unit

-- it is a number, from 0 to 1, with the sign plus
in_unit : (x : Float) → Within 1 x → InUnit x
in_unit nan w = absurd w.0
in_unit (inf s) w = absurd w.0
in_unit (fin true m e) w = absurd w.0
in_unit (fin false m e) w = record {
  plus = (m, e, refl);
  at_least = plain_least (fin false m e) tt;
  at_most = le_of_values (fin false m e) one (m * up e) (down e) 1 1 (den_pos (fin false m e)) (lit< tt) (refl, refl) (refl, refl) (le_trans (le_of_eq (mul-one (m * up e))) w.1);
}

-- what is in the unit is no NaN
pub unit_number : (x : Float) → InUnit x → T (not (is_nan x))
unfolding is_nan
unit_number x u = subst (λ (y : Float). T (not (is_nan y))) (sym u.plus.2) tt

-- plus zero is
pub zero_in_unit : InUnit plus_zero
zero_in_unit = in_unit plus_zero (tt, lit≤ tt)

-- ---- a fraction

-- t lies between ends that differ in sign
between : (cut : Cut) (p q : ℕ) → apart cut p q ≡ true → (gap cut.t p ≤ gap q p) × (0 < gap q p)
between cut p q h = go (positive cut p) (positive cut q) refl refl h
  where
    go : (x y : Bool) → leb cut.t p ≡ x → leb cut.t q ≡ y → differ x y ≡ true → (gap cut.t p ≤ gap q p) × (0 < gap q p)
    go true true a b h = let z : ◌≡◌ {A = ℕ} 0 1 = cc in absurd (omega arith)
    go true false a b h = let u = leb-true cut.t p a in let v = leb-false cut.t q b in (omega arith, omega arith)
    go false true a b h = let u = leb-false cut.t p a in let v = leb-true cut.t q b in (omega arith, omega arith)
    go false false a b h = let z : ◌≡◌ {A = ℕ} 0 1 = cc in absurd (omega arith)

-- 16-bit ends are so near that an f64 holds their distance
gap_small : (p q : ℕ) → p < 65536 → q < 65536 → gap q p ≤ 2 ^ 53
gap_small p q h k = omega arith

-- the fraction of ends that differ in sign
fraction_within : (cut : Cut) (p q : ℕ) → p < 65536 → q < 65536 → apart cut p q ≡ true → Within 1 (fraction cut p q)
unfolding fraction
fraction_within cut p q P Q h =
    let b = between cut p q h in
    let N = gap_small p q P Q in
    div_within binary64 (float (gap cut.t p)) (gap q p) b.1 N (whole_within binary64 (gap cut.t p) (gap q p) N b.0)

-- every fraction that the edge question answers, for 16-bit ends
pub fraction_in_unit : (p q t : ℕ) (f : Float) → p < 65536 → q < 65536 → EdgeAnswered p q t (At f) → InUnit f
fraction_in_unit p q t f P Q said =
    in_unit f
    (go (no_threshold cut) (apart cut p q) (fraction_within cut p q P Q) (said ∙ edge_answers p q t))
  where
    cut : Cut
    cut = cut_of t 0

    go : (a d : Bool) → (d ≡ true → Within 1 (fraction (cut_of t 0) p q))
        → accepted (f ∷ []) ≡ cond a (refused_by 3 t) (cond d (accepted (fraction (cut_of t 0) p q ∷ [])) (accepted []))
        → Within 1 f
    go true d w e = let z : ◌≡◌ {A = ℕ} 0 1 = cc in absurd (omega arith)
    go false true w e = let is : fraction (cut_of t 0) p q ≡ f = cc in subst (Within 1) is (w refl)
    go false false w e = let z : ◌≡◌ {A = ℕ} 0 1 = cc in absurd (omega arith)

-- ---- a place

-- the mask m is a set of crossed edges of a cube, and not the empty one
pub record CrossedSet (cut : Cut) (corners : List ℕ) (m : ℕ) : Type 0 where
  pub some : 0 < m
  pub small : m < 4096
  pub crossed : (e : ℕ) → e < 12 → holds m e ≡ true → crossed_at cut corners e ≡ true

-- the coordinate of a crossing
local_within : (a e : ℕ) (f : Float) → Within 1 f → Within 1 (local a e f)
unfolding local
local_within a e f w = either (eqb (axis_of e) a) 1 f _ w (either (eqb (corner_on a (lower e)) 0) 1 plus_zero one (tt, lit≤ tt) (tt, lit≤ tt))

module _ (a m : ℕ) (cut : Cut) (corners : List ℕ) (grey : SixteenBit corners) (set : CrossedSet cut corners m) where
  -- the coordinate of a crossing that the mask holds
  held_within : (e : ℕ) → e < 12 → holds m e ≡ true → Within 1 (local a e (fraction_at cut corners e))
  unfolding fraction_at
  held_within e l h =
      local_within a e (fraction_at cut corners e)
      (fraction_within cut (corner_sample corners (lower e)) (corner_sample corners (upper e)) (grey (lower e)) (grey (upper e)) (set.crossed e l h))

  -- a sum is at most the number of edges summed
  sum_within : (n : ℕ) → n ≤ 12 → Within (count_below m n) (sum_on a m cut corners n)
  unfolding sum_on count_below
  sum_within zero l = (tt, lit≤ tt)
  sum_within (suc e) l = go (holds m e) refl (sum_within e (le_of_suc-le l))
    where
      sum : Float
      sum = sum_on a m cut corners e

      crossing : Float
      crossing = local a e (fraction_at cut corners e)

      go : (b : Bool) → holds m e ≡ b → Within (count_below m e) (sum_on a m cut corners e)
          → Within (count_below m e + m / 2 ^ e % 2) (cond b (add binary64 (sum_on a m cut corners e) (local a e (fraction_at cut corners e))) (sum_on a m cut corners e))
      go true h w =
          subst (λ (k : ℕ). Within (count_below m e + k) (add binary64 sum crossing)) (sym (eqb-true (m / 2 ^ e % 2) 1 h))
          (add_within binary64 sum crossing (count_below m e) 1 (omega (arith, count_small m e)) w (held_within e l h))
      go false h w = wider sum (le-add_right (count_below m e) (m / 2 ^ e % 2)) w

  -- the mean
  mean_within : Within 1 (mean_on a m cut corners)
  unfolding mean_on
  mean_within =
      div_within binary64 (sum_on a m cut corners 12) (ones m) (ones_pos 12 m set.small set.some) (le_trans (ones-le 12 m set.small) (lit≤ tt))
      (wider (sum_on a m cut corners 12) (count_le m 12) (sum_within 12 (le_refl 12)))

-- every coordinate of the place of a set of crossed edges that is not empty, for 16-bit samples and every threshold
pub place_in_unit : (cut : Cut) (corners : List ℕ) (m : ℕ) → SixteenBit corners → CrossedSet cut corners m → Inside (place_of cut corners m)
unfolding place_of
place_in_unit cut corners m grey set = (on 0, on 1, on 2)
  where
    on : (a : ℕ) → InUnit (mean_on a m cut corners)
    on a = in_unit (mean_on a m cut corners) (mean_within a m cut corners grey set)
