-- Lines of upper-case hexadecimal (document 01, "The program"): digits, numbers and lines, over a list of bytes.
use Rattle.std.specs.Prelude.{ℕ, zero, suc, ◌+◌, ◌*◌, ◌/◌, ◌%◌, Bool, cond, List, [], ◌∷◌, ◌++◌, ltb, eqb, get_or}
use Rattle.laws.specs.Leading.{leading}
use Rattle.block.specs.Rows.{lowest}

-- the sixteen digits, as bytes: 0 to 9, then A to F
unfoldable pub digits : List ℕ
digits = 48 ∷ 49 ∷ 50 ∷ 51 ∷ 52 ∷ 53 ∷ 54 ∷ 55 ∷ 56 ∷ 57 ∷ 65 ∷ 66 ∷ 67 ∷ 68 ∷ 69 ∷ 70 ∷ []

-- what a byte is worth as a digit: 16 for a byte that is none
abbrev pub digit_of : ℕ → ℕ
digit_of b = lowest (eqb b) digits

abbrev pub is_digit : ℕ → Bool
is_digit b = ltb (digit_of b) 16

abbrev pub LF : ℕ
LF = 10

-- past the last byte stands the end of the input, which is no byte: a byte is below 256
abbrev pub ended : ℕ
ended = 256

abbrev pub read_at : List ℕ → ℕ → ℕ
read_at bytes p = get_or bytes p ended

-- the number whose k digits stand at p, the highest first. A byte that is no digit counts as 0; its line is refused
unfoldable pub number_at : List ℕ → ℕ → ℕ → ℕ
number_at bytes p zero = 0
number_at bytes p (suc k) = number_at bytes p k * 16 + digit_of (read_at bytes (p + k)) % 16

-- "lines of upper-case hexadecimal, each ended by one LF": whether b is right in column c, from 0, of a line of n digits
abbrev pub right_byte : ℕ → ℕ → ℕ → Bool
right_byte n c b = cond (ltb c n) (is_digit b) (eqb b LF)

-- how many bytes of the line of n digits that begins at p are right before the first wrong one; n + 1 where the line is right
unfoldable pub right_bytes : List ℕ → ℕ → ℕ → ℕ
right_bytes bytes p n = leading (λ (c : ℕ). right_byte n c (read_at bytes (p + c))) (n + 1)

-- a number in k digits, the highest first
unfoldable pub hex_of : ℕ → ℕ → List ℕ
hex_of zero v = []
hex_of (suc k) v = hex_of k (v / 16) ++ get_or digits (v % 16) 0 ∷ []
