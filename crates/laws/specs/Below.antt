-- Lists over an index, one after the other, and a list put over the front of a buffer.
use Rattle.std.specs.Prelude.{ℕ, zero, suc, List, [], ◌++◌, length, drop}

-- f 0, f 1, .., f (n − 1), one after the other
unfoldable pub below : {A : Type 0} → (ℕ → List A) → ℕ → List A
below f zero = []
below f (suc n) = below f n ++ f n

-- xs at the front, and what stood behind it in the buffer
unfoldable pub over : {A : Type 0} → List A → List A → List A
over xs buffer = xs ++ drop (length xs) buffer
