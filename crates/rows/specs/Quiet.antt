-- A row without an active cube, by the words of two planes. Assumes nothing.
use Rattle.std.specs.Prelude.{ℕ, zero, suc, ◌+◌, ◌*◌, ◌-◌, ◌/◌, Bool, true, ◌&&◌, List, eqb}
use Rattle.std.specs.Int.Bits.{bit_and}
use Rattle.planes.specs.Planes.{eight_of, active_of, limit_of}

-- the cubes of word w of the row j whose corners have both signs
abbrev pub active_in : List ℕ → List ℕ → ℕ → ℕ → ℕ → ℕ
active_in a b nx j w = bit_and (active_of (eight_of a b (5 * j + w))) (limit_of (nx - 1) w)

-- how many words hold a row of cubes
abbrev pub words_in_row : ℕ → ℕ
words_in_row nx = (nx - 1 + 63) / 64

-- the test holds of every number below n
unfoldable pub every : (ℕ → Bool) → ℕ → Bool
every f zero = true
every f (suc n) = every f n && f n

-- there is none in the row
abbrev pub quiet_row : List ℕ → List ℕ → ℕ → ℕ → Bool
quiet_row a b nx j = every (λ (w : ℕ). eqb (active_in a b nx j w) 0) (words_in_row nx)
