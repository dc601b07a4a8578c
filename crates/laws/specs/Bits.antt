-- Sets of numbers as masks: bit e of a mask stands for the number e.
use Rattle.std.specs.Prelude.{ℕ, zero, suc, ◌+◌, ◌*◌, ◌/◌, ◌%◌, ◌^◌, Bool, true, false, not, eqb}
use Rattle.std.specs.Bool.{beq}

-- 1 for true, 0 for false
abbrev pub bit : Bool → ℕ
bit true = 1
bit false = 0

-- one holds and the other does not
abbrev pub differ : Bool → Bool → Bool
differ a b = not (beq a b)

-- the mask m holds the number e: its bit e is set
abbrev pub holds : ℕ → ℕ → Bool
holds m e = eqb (m / 2 ^ e % 2) 1

-- the mask of the numbers below n that pass the test
unfoldable pub mask_of : (ℕ → Bool) → ℕ → ℕ
mask_of f zero = 0
mask_of f (suc e) = mask_of f e + bit (f e) * 2 ^ e
