-- How long a file is, that no coordinate in it is a NaN, and what a reader takes from its bytes. No promise is stated with it: theorems say that the file has this
-- length and no NaN, and that what was written is read.
use Rattle.std.specs.Prelude.{ℕ, ◌+◌, ◌*◌, ◌<◌, not, List, T, length, take, drop, Float}
use Rattle.std.specs.Float.Ieee.{is_nan, of_bits}
use Rattle.std.specs.Float.{binary64}
use Rattle.block.specs.declared.Size.{Size}
use Rattle.file_bytes.specs.Bytes.{decimal}
use Rattle.file_bytes.specs.Words.{read_little}
use Rattle.ply.specs.declared.Spacing.{Spacing}
use Rattle.ply.specs.File.{place_on}

-- the bytes of a header, and of a file
abbrev pub header_length : ℕ → ℕ → ℕ
header_length vertices faces = 170 + length (decimal vertices) + length (decimal faces)

abbrev pub file_length : ℕ → ℕ → ℕ
file_length vertices faces = header_length vertices faces + 24 * vertices + 17 * faces

-- a float that is no NaN, and that each coordinate of the vertices before this one is such
abbrev pub Number : Float → Type 0
Number x = T (not (is_nan x))

abbrev pub AllNumbers : Size → List ℕ → List Float → Spacing → ℕ → Type 0
AllNumbers n words offsets spacing count = (v a : ℕ) → v < count → a < 3 → Number (place_on n words offsets spacing v a)

-- a double, and an int that is not negative, at a place
abbrev pub double_at : List ℕ → ℕ → Float
double_at bytes p = of_bits binary64 (read_little (take 8 (drop p bytes)))

abbrev pub int_at : List ℕ → ℕ → ℕ
int_at bytes p = read_little (take 4 (drop p bytes))
