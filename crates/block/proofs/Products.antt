-- Products of three axis lengths stay below the product of their limits.
-- Assumes nothing.
use Prim.Native.Nat.{ℕ, ◌*◌, ◌≤◌}
use native.Mathlib.Nat.{mul-le-mul}

pub product_le : (a b c x y z : ℕ) → a ≤ x → b ≤ y → c ≤ z → a * (b * c) ≤ x * (y * z)
product_le a b c x y z p q r = mul-le-mul p (mul-le-mul q r)
