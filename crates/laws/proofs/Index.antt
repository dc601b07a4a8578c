-- The index of (i,j,k) in a box: it is below the box's size, and its coordinates are read back by / and %.
-- Assumes nothing.
use Prim.Native.Nat.{ℕ, zero, suc, ◌+◌, ◌*◌, ◌/◌, ◌%◌, ◌≤◌, ◌<◌}
use mathlib.Core.Path.{◌≡◌, ◌∙◌}
use native.Mathlib.Nat.{add-mul-mod_self_left, mod-eq_of_lt, add-mul-div_left, div-eq_of_lt, zero-add, mul-le-mul_left, mul-add, mul-one, mod-add-div, mod-lt, div-lt_iff_lt-mul, mul_comm, zero-mul}
use native.Mathlib.Omega.{arith}
use Rattle.laws.specs.Index.{index_in}

-- a pair: i + w * y is below w * m where i is below w and y below m
pub pair_lt : (w m i y : ℕ) → i < w → y < m → i + w * y < w * m
pair_lt w m i y hi hy = omega (arith, rw (mul-add, mul-one) at (mul-le-mul_left w (next hy)))
  where
    next : y < m → y + 1 ≤ m
    next h = omega arith

pub pair_mod : (w i y : ℕ) → i < w → (i + w * y) % w ≡ i
pair_mod w i y h = add-mul-mod_self_left i w y ∙ mod-eq_of_lt h

pub pair_div : (w i y : ℕ) → i < w → (i + w * y) / w ≡ y
pair_div w i y h = add-mul-div_left i y (omega arith) ∙ rw (div-eq_of_lt h, zero-add)

module _ (w h i j k : ℕ) (hi : i < w) (hj : j < h) where
  pub index_lt : (d : ℕ) → k < d → index_in w h i j k < w * (h * d)
  index_lt d hk = pair_lt w (h * d) i (j + h * k) hi (pair_lt h d j k hj hk)

  pub index_x : index_in w h i j k % w ≡ i
  index_x = pair_mod w i (j + h * k) hi

  pub index_y : index_in w h i j k / w % h ≡ j
  index_y = rw (pair_div w i (j + h * k) hi) (pair_mod h j k hj)

  pub index_z : index_in w h i j k / w / h ≡ k
  index_z = rw (pair_div w i (j + h * k) hi) (pair_div h j k hj)

-- and back: a number is the index of what / and % read from it
pub index_of : (w h p : ℕ) → index_in w h (p % w) (p / w % h) (p / w / h) ≡ p
index_of w h p = rw (mod-add-div (p / w) h) (mod-add-div p w)

-- rows of the width w hold the place p, so w is not 0
pub wide : (w m p : ℕ) → p < w * m → 0 < w
wide zero m p h = absurd (omega (arith, h, zero-mul m))
wide (suc w) m p h = omega arith

pair_x : (w m p : ℕ) → p < w * m → p % w < w
pair_x w m p h = mod-lt p (wide w m p h)

pair_y : (w m p : ℕ) → p < w * m → p / w < m
pair_y w m p h = (div-lt_iff_lt-mul (wide w m p h)).1 (rw (mul_comm w m) at h)

-- what / and % read from a number below w * (h * d) are the coordinates of a place in the box
pub index_box : (w h d p : ℕ) → p < w * (h * d) → (p % w < w) × (p / w % h < h) × (p / w / h < d)
index_box w h d p l = let y = pair_y w (h * d) p l in (pair_x w (h * d) p l, pair_x h d (p / w) y, pair_y h d (p / w) y)
