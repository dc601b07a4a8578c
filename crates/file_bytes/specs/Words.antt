-- What is read back from the bytes of a number. No promise is stated with it: theorems say that what was written is read.
use Rattle.std.specs.Prelude.{ℕ, ◌+◌, ◌*◌, ◌-◌, List, [], ◌∷◌}

-- digits from the left to the right, behind what was read before
abbrev pub read_from : ℕ → List ℕ → ℕ
read_from n [] = n
read_from n (b ∷ bs) = read_from (n * 10 + (b - 48)) bs

abbrev pub read_decimal : List ℕ → ℕ
read_decimal = read_from 0

-- bytes of which the lowest stands first
abbrev pub read_little : List ℕ → ℕ
read_little [] = 0
read_little (b ∷ bs) = b + 256 * read_little bs
