-- How many numbers pass a test, and the sum of a function. Where a test is summed as 0 or 1, they are the same (`total_count`).
use Rattle.std.specs.Prelude.{ℕ, zero, suc, ◌+◌, Bool}
use Rattle.laws.specs.Bits.{bit}

-- how many numbers below n pass the test
unfoldable pub count : (ℕ → Bool) → ℕ → ℕ
count f zero = 0
count f (suc n) = count f n + bit (f n)

-- f 0 + f 1 + .. + f (n − 1)
unfoldable pub total : (ℕ → ℕ) → ℕ → ℕ
total f zero = 0
total f (suc n) = f n + total f n
