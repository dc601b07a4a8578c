-- How many of its lowest digits a mask has set: no more than all that it has, and no more than the digits.
-- Assumes nothing.
use mathlib.Core.Path.{◌≡◌, sym, ap, ◌∙◌}
use Prim.Native.Nat.{ℕ, zero, suc, ◌+◌, ◌/◌, ◌%◌, ◌^◌, ◌≤◌}
use native.Mathlib.Nat.{le_refl, le_trans, le_of_eq, le-add_right, zero-add, div-one, add_assoc}
use native.Mathlib.Numerals.{add-one}
use native.Mathlib.Omega.{arith}
use lib.Pow.{shr-shr}
use lib.Count.{ones, ones_step}

-- how many of the lowest k
unfoldable pub count_below : ℕ → ℕ → ℕ
count_below m zero = 0
count_below m (suc k) = count_below m k + m / 2 ^ k % 2

-- and the others
count_rest : (m k : ℕ) → ones m ≡ count_below m k + ones (m / 2 ^ k)
unfolding count_below
count_rest m zero = simp (zero-add, div-one)
count_rest m (suc k) =
    count_rest m k
    ∙ ap (λ (n : ℕ). count_below m k + n) (ones_step (m / 2 ^ k) ∙ ap (λ (n : ℕ). m / 2 ^ k % 2 + ones n) (shr-shr m k 1 ∙ ap (λ (j : ℕ). m / 2 ^ j) (add-one k)))
    ∙ sym (add_assoc (count_below m k) (m / 2 ^ k % 2) (ones (m / 2 ^ suc k)))

-- no more than all
pub count_le : (m k : ℕ) → count_below m k ≤ ones m
count_le m k = le_trans (le-add_right (count_below m k) (ones (m / 2 ^ k))) (le_of_eq (sym (count_rest m k)))

-- no more than k
pub count_small : (m k : ℕ) → count_below m k ≤ k
unfolding count_below
count_small m zero = le_refl 0
count_small m (suc k) = let h = count_small m k in omega arith
