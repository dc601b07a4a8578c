-- Signed machine integers: the difference of two small numbers, the product of two i32 with a u32 on top of it, and what a local's bits read back as.
-- Assumes nothing.
use mathlib.Core.Path.{◌≡◌}
use mathlib.Core.Bool.{Bool, true, false, cond}
use Prim.Native.Nat.{ℕ, zero, suc, ◌+◌, ◌-◌, ◌*◌, ◌^◌, ◌≤◌, ◌<◌}
use native.Mathlib.Nat.{mul-le-mul}
use native.Mathlib.Omega.{arith}
use lib.Dec.{ltb}
use lib.IntN.{ℤ, pos, negsuc, neg_ℤ, ◌+ℤ◌, ◌-ℤ◌, ◌*ℤ◌}
use lib.Signed.{mag}
use mir.Syntax.{Width, w32, w64}
use mir.Val.{Fits, SFits, hbits, to_z, of_z}
use mir.Facts.{to_z_pos, to_z-of_z}

-- ---- the size of a difference and of a product

mag_cond : (c : Bool) (x y : ℤ) {H : ℕ} → mag x < H → mag y < H → mag (cond c x y) < H
mag_cond true x y p q = p
mag_cond false x y p q = q

-- the difference of two numbers below H
pub mag_diff : (a b : ℕ) {H : ℕ} → a < H → b < H → mag (pos a -ℤ pos b) < H
mag_diff a zero {H} p q = omega arith
mag_diff a (suc b) {H} p q = mag_cond (ltb a (suc b)) (negsuc (suc b - suc a)) (pos (a - suc b)) (omega arith) (omega arith)

mag_neg : (n H : ℕ) → n ≤ H → mag (neg_ℤ (pos n)) ≤ H
mag_neg zero H p = omega arith
mag_neg (suc n) H p = omega arith

-- the product of two signed numbers of a size below H
pub mag_product : (x y : ℤ) {H : ℕ} → mag x < H → mag y < H → mag (x *ℤ y) ≤ H * H
mag_product (pos a) (pos b) {H} p q = mul-le-mul (omega arith) (omega arith)
mag_product (pos a) (negsuc b) {H} p q = mag_neg (a * suc b) (H * H) (mul-le-mul (omega arith) (omega arith))
mag_product (negsuc a) (pos b) {H} p q = mag_neg (suc a * b) (H * H) (mul-le-mul (omega arith) (omega arith))
mag_product (negsuc a) (negsuc b) {H} p q = mul-le-mul (omega arith) (omega arith)

-- a signed number and one that has no sign
mag_plus : (z : ℤ) (n : ℕ) → mag (z +ℤ pos n) ≤ mag z + n
mag_plus (pos a) n = omega arith
mag_plus (negsuc a) n = go (ltb n (suc a))
  where
    go : (b : Bool) → mag (cond b (negsuc (suc a - suc n)) (pos (n - suc a))) ≤ a + n
    go true = omega arith
    go false = omega arith

-- ---- a product of two i32 with a u32 on top

-- it fits an i64
pub raised_fits : {x y : ℤ} {n : ℕ} → SFits w32 x → SFits w32 y → Fits w32 n → SFits w64 (x *ℤ y +ℤ pos n)
raised_fits {x} {y} {n} f g h = record { sfits = small (mag_plus (x *ℤ y) n) (mag_product x y f.sfits g.sfits) h.fits }
  where
    small : {a b : ℕ} → a ≤ b + n → b ≤ 2 ^ 31 * 2 ^ 31 → n < 2 ^ 32 → a < 2 ^ 63
    small p q r = omega arith

-- a u32 in an i64 is the number itself
pub read_u32 : {n : ℕ} → Fits w32 n → to_z w64 n ≡ pos n
read_u32 {n} f = to_z_pos w64 (wider f.fits)
  where
    wider : {n : ℕ} → n < 2 ^ 32 → n < 2 ^ 63
    wider h = omega arith

-- ---- a signed number that a call gave, as its `.ok` bounds it, is read back from its bits

pub back : (w : Width) {z : ℤ} → mag z < 2 ^ hbits w → to_z w (of_z w z) ≡ z
back w {z} h = to_z-of_z {w = w} {z = z} (record { sfits = h })
