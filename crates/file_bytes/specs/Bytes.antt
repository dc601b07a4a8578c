-- How text and numbers stand in a file, as lists of bytes (document 02, Three).
use Rattle.std.specs.Prelude.{ℕ, zero, suc, ◌+◌, ◌/◌, ◌%◌, cond, List, [], ◌∷◌, ◌++◌, ltb}
use Prim.Native.String.{String}
use Prim.Native.String.{[] as none, ◌∷◌ as ◌▷◌}
use Prim.Native.Char.{code}

-- the characters of a text, a byte each
unfoldable pub ascii : String → List ℕ
ascii none = []
ascii (c ▷ s) = code c ∷ ascii s

-- the digit of a number below 10
abbrev pub digit : ℕ → ℕ
digit d = 48 + d

-- "counts in decimal without leading zeros": a number that has at most k digits
unfoldable pub decimal_in : ℕ → ℕ → List ℕ
decimal_in zero n = []
decimal_in (suc k) n = cond (ltb n 10) [] (decimal_in k (n / 10)) ++ digit (n % 10) ∷ []

-- n has at most n + 1 digits
abbrev pub decimal : ℕ → List ℕ
decimal n = decimal_in (suc n) n

-- "little-endian": a number in k bytes, the lowest first
unfoldable pub little_endian : ℕ → ℕ → List ℕ
little_endian zero v = []
little_endian (suc k) v = v % 256 ∷ little_endian k (v / 256)
