-- The floor of a float from 0 to 65,535: the sum with 2 to the power of 23, less that, is one of the two whole numbers next to it, and a comparison tells which.
-- Assumes nothing.
use mathlib.Core.Path.{◌≡◌, refl, sym, ap, ap₂, ◌∙◌, subst}
use mathlib.Core.Bool.{Bool, true, false, true≢false}
use Prim.Native.Nat.{ℕ, zero, suc, ◌+◌, ◌-◌, ◌*◌, ◌/◌, ◌≤◌, ◌<◌}
use native.Mathlib.Nat.{mul-one, mul_right_comm, zero-mul, add-mul-div_right, mul-le-mul_right, mul-lt-mul_of_pos_right, le-div_iff_mul-le, div-lt_iff_lt-mul}
use native.Mathlib.Omega.{arith}
use lib.Dec.{ltb}
use lib.IntN.{pos}
use borrow.Author.Tests.{lt-ltb, le-ltb, ltb-true, ltb-false}
use lib.Ieee.{Float, nan, inf, fin, binary32, up, down, round, sum, add, sub, lt}
use lib.Ieee.Fits.{down_pos}
use lib.Ieee.Exact.{HasValue}
use lib.Ieee.Nearest.{closest}
use lib.Ieee.Positive.{num, den, den_pos}
use Rattle.readings.specs.Steps.{InRange, WholeOf}
use Rattle.readings.proofs.Wholes.{closest_low, closest_high, round_closest, sub_whole}

-- 2 to the power of 23, and 1
abbrev pub big : Float
big = fin false 1 (pos 23)

abbrev pub one : Float
one = fin false 1 (pos 0)

big_value : HasValue big false 8388608 1
big_value = (refl, refl)

one_value : HasValue one false 1 1
one_value = (refl, refl)

-- ---- what a float in the range is, as a fraction

pub range_most : (x : Float) → InRange x → num x ≤ 65535 * den x
range_most nan h = absurd h
range_most (inf s) h = absurd h
range_most (fin true m e) h = omega (arith, ap (λ (z : ℕ). z * up e) h)
range_most (fin false m e) h = h

minus_sum : (a b c : ℕ) → a < b → sum binary32 true a false b c ≡ round binary32 false (b - a) c
unfolding sum
minus_sum a b c h = rw (lt-ltb a b h)

-- the sum with 2 to the power of 23, of minus zero too
add_big : (x : Float) → InRange x → add binary32 x big ≡ round binary32 false (num x + 8388608 * den x) (den x)
unfolding add
add_big nan h = absurd h
add_big (inf s) h = absurd h
add_big (fin true (suc m) e) h = absurd (never m h)
  where
    never : (m : ℕ) → suc m ≡ 0 → ⊥
    never m h = omega arith
add_big (fin true zero e) h =
    minus_sum (0 * up e * 1) (8388608 * down e) (down e * 1) (let p = down_pos e in omega arith)
    ∙ ap₂ (λ (a c : ℕ). round binary32 false a c) (same (0 * up e) (8388608 * down e) (zero-mul (up e))) (mul-one (down e))
  where
    same : (a b : ℕ) → a ≡ 0 → b - a * 1 ≡ a + b
    same a b e = omega arith
add_big (fin false m e) h = ap₂ (λ (a c : ℕ). round binary32 false a c) (ap (λ (z : ℕ). z + 8388608 * down e) (mul-one (m * up e))) (mul-one (down e))

-- ---- one of the two whole numbers next to x

record Next (x y : Float) : Type 0 where
  at : ℕ
  is : HasValue y false at 1
  low : num x / den x ≤ at
  high : at ≤ suc (num x / den x)

abbrev pub near : Float → Float
near x = sub binary32 (add binary32 x big) big

whole_small : (x : Float) → InRange x → num x / den x ≤ 65535
whole_small x h = go ((div-lt_iff_lt-mul (den_pos x)).1 (under (num x) (den x) (den_pos x) (range_most x h)))
  where
    under : (a d : ℕ) → 0 < d → a ≤ 65535 * d → a < 65536 * d
    under a d p h = omega arith

    go : num x / den x < 65536 → num x / den x ≤ 65535
    go l = omega arith

near_next : (x : Float) → InRange x → Next x (near x)
near_next x h =
    let a = num x + 8388608 * den x in
    let p = den_pos x in
    let m = range_most x h in
    let v : HasValue (round binary32 false a (den x)) false (closest a (den x)) 1 = round_closest a (den x) p (from (num x) (den x)) (under (num x) (den x) p m) in
    let q : a / den x ≡ num x / den x + 8388608 = add-mul-div_right (num x) 8388608 p in
    let k = num x / den x in
    let s = whole_small x h in
    made (closest a (den x)) (a / den x) k q (closest_low a (den x)) (closest_high a (den x)) s (subst (λ (z : Float). HasValue z false (closest a (den x)) 1) (sym (add_big x h)) v) refl
  where
    from : (a d : ℕ) → 8388608 * d ≤ a + 8388608 * d
    from a d = omega arith

    under : (a d : ℕ) → 0 < d → a ≤ 65535 * d → a + 8388608 * d < 16777216 * d
    under a d p h = omega arith

    made : (n w k : ℕ) → w ≡ k + 8388608 → w ≤ n → n ≤ suc w → k ≤ 65535 → HasValue (add binary32 x big) false n 1 → num x / den x ≡ k → Next x (near x)
    made n w k q l g s v e = record {
      at = n - 8388608;
      is = sub_whole (add binary32 x big) big n 8388608 v big_value (omega arith) (omega arith);
      low = omega arith;
      high = omega arith;
    }

-- ---- the comparison with x

ltb_scale : (a b c : ℕ) → 0 < c → ltb (a * c) (b * c) ≡ ltb a b
ltb_scale a b c C = go (ltb a b) refl
  where
    go : (t : Bool) → ltb a b ≡ t → ltb (a * c) (b * c) ≡ t
    go true e = lt-ltb (a * c) (b * c) (mul-lt-mul_of_pos_right (ltb-true a b e) C)
    go false e = le-ltb (a * c) (b * c) (mul-le-mul_right c (ltb-false a b e))

pub lt_whole : (x y : Float) (p : ℕ) → InRange x → HasValue y false p 1 → lt x y ≡ ltb (num x) (p * den x)
unfolding lt
lt_whole nan y p h v = absurd h
lt_whole (inf s) y p h v = absurd h
lt_whole (fin s m e) nan p h v = absurd v
lt_whole (fin s m e) (inf t) p h v = absurd v
lt_whole (fin s m e) (fin true n d) p h v = absurd (true≢false v.0)
lt_whole (fin true m e) (fin false n d) p h v =
    let z : m * up e ≡ 0 = ap (λ (k : ℕ). k * up e) h ∙ zero-mul (up e) in
    let w : n * up d * down e ≡ p * down e * down d = ap (λ (k : ℕ). k * down e) (sym (mul-one (n * up d)) ∙ v.1) ∙ mul_right_comm p (down d) (down e) in
    ap₂ (λ (a b : ℕ). ltb a b) (sym (zero-mul (down d))) (ap₂ (λ (a b : ℕ). a * down d + b) z w ∙ ap (λ (a : ℕ). a + p * down e * down d) (zero-mul (down d)) ∙ plus (p * down e * down d))
    ∙ ltb_scale 0 (p * down e) (down d) (down_pos d)
    ∙ ap (λ (a : ℕ). ltb a (p * down e)) (sym z)
  where
    plus : (b : ℕ) → 0 + b ≡ b
    plus b = omega arith
lt_whole (fin false m e) (fin false n d) p h v =
    ap (λ (b : ℕ). ltb (m * up e * down d) b) (ap (λ (k : ℕ). k * down e) (sym (mul-one (n * up d)) ∙ v.1) ∙ mul_right_comm p (down d) (down e))
    ∙ ltb_scale (m * up e) (p * down e) (down d) (down_pos d)

-- ---- the two ways

-- what is near is above x: it is one too much
pub whole_above : (x : Float) → InRange x → lt x (near x) ≡ true → WholeOf x (sub binary32 (near x) one)
whole_above x h t =
    let n = near_next x h in
    let l : num x / den x < n.at = (div-lt_iff_lt-mul (den_pos x)).1 (ltb-true (num x) (n.at * den x) (sym (lt_whole x (near x) n.at h n.is) ∙ t)) in
    let s = whole_small x h in
    let e : n.at - 1 ≡ num x / den x = omega (arith, n.high) in
    subst (λ (k : ℕ). HasValue (sub binary32 (near x) one) false k 1) e (sub_whole (near x) one n.at 1 n.is one_value (omega arith) (omega (arith, n.high)))

-- it is not: it is the whole part
pub whole_there : (x : Float) → InRange x → lt x (near x) ≡ false → WholeOf x (near x)
whole_there x h t =
    let n = near_next x h in
    let l : n.at ≤ num x / den x = (le-div_iff_mul-le (den_pos x)).1 (ltb-false (num x) (n.at * den x) (sym (lt_whole x (near x) n.at h n.is) ∙ t)) in
    let e : n.at ≡ num x / den x = omega (arith, n.low) in
    subst (λ (k : ℕ). HasValue (near x) false k 1) e n.is
