-- Reading a place of the input, and how far the places of rows and samples reach.
-- Assumes nothing.
use Prim.Native.Nat.{ℕ, zero, suc, ◌+◌, ◌*◌, ◌/◌, ◌%◌, ◌≤◌, ◌<◌}
use mathlib.Core.Path.{◌≡◌, refl, sym}
use mathlib.Core.List.{List, [], ◌∷◌}
use native.Mathlib.Nat.{not-suc-le-zero, le_of_suc-le-suc, mul-le-mul, div-le_self, mod-lt}
use native.Mathlib.Omega.{arith}
use lib.ListN.{length, get_or}
use Rattle.reading.specs.Text.{read_at, digit_of, number_at}

-- ---- a place

-- before the end, whatever is read behind it
pub get_or-other : {A : Type 0} (xs : List A) (i : ℕ) (d e : A) → i < length xs → get_or xs i d ≡ get_or xs i e
get_or-other [] i d e h = absurd (not-suc-le-zero h)
get_or-other (x ∷ xs) zero d e h = refl
get_or-other (x ∷ xs) (suc i) d e h = get_or-other xs i d e (le_of_suc-le-suc h)

-- a number of four digits
pub four_digits : (bytes : List ℕ) (p : ℕ)
    → number_at bytes p 4
    ≡ ((digit_of (read_at bytes p) % 16 * 16 + digit_of (read_at bytes (p + 1)) % 16) * 16 + digit_of (read_at bytes (p + 2)) % 16) * 16 + digit_of (read_at bytes (p + 3)) % 16
unfolding number_at
four_digits bytes p = let e : p + 0 ≡ p = omega arith in rw e (omega arith)

pub number_small : (bytes : List ℕ) (p : ℕ) → number_at bytes p 4 < 65536
number_small bytes p = rw (four_digits bytes p) (small _ _ _ _)
  where
    small : (a b c d : ℕ) → ((a % 16 * 16 + b % 16) * 16 + c % 16) * 16 + d % 16 < 65536
    small a b c d = omega arith

-- from what each of its digits counts
pub number_read : (bytes : List ℕ) (p d₀ d₁ d₂ d₃ : ℕ)
    → d₀ ≡ digit_of (read_at bytes p) % 16 → d₁ ≡ digit_of (read_at bytes (p + 1)) % 16 → d₂ ≡ digit_of (read_at bytes (p + 2)) % 16 → d₃ ≡ digit_of (read_at bytes (p + 3)) % 16
    → ((d₀ * 16 + d₁) * 16 + d₂) * 16 + d₃ ≡ number_at bytes p 4
number_read bytes p d₀ d₁ d₂ d₃ e₀ e₁ e₂ e₃ = rw (e₀, e₁, e₂, e₃) (sym (four_digits bytes p))

-- ---- the rows from line 2 on

-- rows of at most 8 samples, at most 64 of them
pub rows_small : (nx j : ℕ) → nx ≤ 8 → j ≤ 64 → j * (4 * nx + 1) ≤ 2112
rows_small nx j h l = mul-le-mul l (wide nx h)
  where
    wide : (nx : ℕ) → nx ≤ 8 → 4 * nx + 1 ≤ 33
    wide nx h = omega arith

-- the place of a sample, of at most 512
pub sample_place_small : (nx i : ℕ) → 0 < nx → nx ≤ 8 → i < 512 → (i / nx * (4 * nx + 1) ≤ 16896) × (4 * (i % nx) < 32)
sample_place_small nx i p h l = (mul-le-mul (below i (i / nx) l (div-le_self i nx)) (wide nx h), inside nx (i % nx) h (mod-lt i p))
  where
    wide : (nx : ℕ) → nx ≤ 8 → 4 * nx + 1 ≤ 33
    wide nx h = omega arith

    below : (i q : ℕ) → i < 512 → q ≤ i → q ≤ 512
    below i q l d = omega arith

    inside : (nx r : ℕ) → nx ≤ 8 → r < nx → 4 * r < 32
    inside nx r h d = omega arith
