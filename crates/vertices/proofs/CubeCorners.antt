-- The corners of a cube by the windows of its row: they are those of the cube in its block, and samples of the windows.
-- Assumes nothing.
use Prim.Native.Nat.{ℕ, ◌+◌, ◌*◌, ◌-◌, ◌<◌, ◌≤◌}
use mathlib.Core.Path.{◌≡◌, ap, sym, ◌∙◌}
use mathlib.Core.List.{List}
use native.Mathlib.Nat.{mul-le-mul_left}
use native.Mathlib.Omega.{arith}
use lib.ListN.{get_or}
use Rattle.laws.proofs.Index.{pair_lt}
use Rattle.block.specs.declared.Size.{Size}
use Rattle.mesh_rule.specs.Grid.{corners_at, corners_of}
use Rattle.mesh_rule.specs.Layers.{row_cube, row_sample}
use Rattle.mesh_rule.proofs.Numbers.{corners_of_number}
use Rattle.signs.specs.Windows.{window_corners, Part}

-- two rows are inside the samples
pub rows_in : (nx ny nz j k : ℕ) → j + 1 < ny → k < nz → nx * (j + ny * k) + 2 * nx ≤ nx * (ny * nz)
rows_in nx ny nz j k hj hk = omega (arith, mul-le-mul_left nx (next (ny * k) (ny * nz) (pair_lt ny nz (j + 1) k hj hk)))
  where
    next : (a b : ℕ) → j + 1 + a < b → j + a + 2 ≤ b
    next a b h = omega arith

-- the windows of the row j of layer k
pub record Windows (n : Size) (s : List ℕ) (j k : ℕ) (lo hi : List ℕ) : Type 0 where
  pub low : Part s (row_sample n.nx n.ny j k) (2 * n.nx) lo
  pub high : Part s (row_sample n.nx n.ny j (k + 1)) (2 * n.nx) hi

module _ (n : Size) (s : List ℕ) (j k : ℕ) (lo hi : List ℕ) (p : Windows n s j k lo hi) where
  abbrev at : ℕ → ℕ
  at q = get_or s q 0

  window_at : (x : ℕ) → x + 1 < n.nx → window_corners n.nx lo hi x ≡ corners_at n s x j k
  unfolding window_corners
  window_at x h =
      rw (
        p.low.at x (omega arith),
        p.low.at (x + 1) (omega arith),
        p.low.at (x + n.nx) (omega arith),
        p.low.at (x + 1 + n.nx) (omega arith),
        p.high.at x (omega arith),
        p.high.at (x + 1) (omega arith),
        p.high.at (x + n.nx) (omega arith),
        p.high.at (x + 1 + n.nx) (omega arith),
        here (row_sample n.nx n.ny j k) x,
        here (row_sample n.nx n.ny j k) (x + 1),
        above n.nx n.ny k x,
        above n.nx n.ny k (x + 1),
        here (row_sample n.nx n.ny j (k + 1)) x,
        here (row_sample n.nx n.ny j (k + 1)) (x + 1),
        above n.nx n.ny (k + 1) x,
        above n.nx n.ny (k + 1) (x + 1),
      )
    where
      here : (r i : ℕ) → r + i ≡ i + r
      here r i = omega arith

      above : (w h z i : ℕ) → w * (j + h * z) + (i + w) ≡ i + w * (j + 1 + h * z)
      above w h z i = omega arith

  -- they are those of the cube with its number
  pub window_corners_lem : (x : ℕ) → x < n.nx - 1 → j < n.ny - 1 → window_corners n.nx lo hi x ≡ corners_of n s (row_cube n.nx n.ny j k + x)
  window_corners_lem x hx hj =
      window_at x (omega arith) ∙ sym (corners_of_number n s x j k hx hj) ∙ ap (corners_of n s) (number (n.nx - 1) (n.ny - 1))
    where
      number : (w h : ℕ) → x + w * (j + h * k) ≡ w * (j + h * k) + x
      number w h = omega arith
