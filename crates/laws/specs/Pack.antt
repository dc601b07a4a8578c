-- A word of bits made of a function from places to bits: what the passes over words say. What is promised is said by `mask_of`, and `pack_mask` leads from the one
-- to the other. Assumes nothing.
use Rattle.std.specs.Prelude.{ℕ, zero, suc, ◌+◌, ◌*◌, ◌^◌}

-- bit i of the word is f i, for i below n; each f i is 0 or 1
unfoldable pub pack : (ℕ → ℕ) → ℕ → ℕ
pack f zero = 0
pack f (suc n) = f n * 2 ^ n + pack f n
