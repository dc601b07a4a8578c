-- The steps by which the words are made: the signs of a row's samples as bytes, and the words of rows from an index on.
-- Assumes nothing.
use Rattle.std.specs.Prelude.{ℕ, ◌+◌, ◌*◌, ◌/◌, ◌%◌, ◌≤◌, ◌≡◌, ◌&&◌, List, [], ◌∷◌, leb, ltb, length, get_or}
use Rattle.laws.specs.Bits.{bit}
use Rattle.laws.specs.Pack.{pack}
use Rattle.block.specs.declared.Cut.{Cut}

-- the sign of sample x of a row of nx samples whose first has the index base, and 0 past the row
abbrev pub sign_byte : List ℕ → ℕ → ℕ → ℕ → ℕ → ℕ
sign_byte s t base nx x = bit (ltb x nx && leb t (get_or s (x + base) 0))

-- the signs of a row, a byte each, and 0 past it
abbrev pub SignBytes : List ℕ → ℕ → ℕ → ℕ → List ℕ → Type 0
SignBytes s t base nx bytes = (x : ℕ) → get_or bytes x 0 ≡ sign_byte s t base nx x

-- bytes of 0 or 1
abbrev pub BitBytes : List ℕ → Type 0
BitBytes bytes = (x : ℕ) → get_or bytes x 0 ≤ 1

-- eight bytes from the index p on as one word, the first lowest
abbrev pub eight_bytes : List ℕ → ℕ → ℕ
eight_bytes bytes p =
    get_or bytes p 0 + 256 * get_or bytes (p + 1) 0 + 65536 * get_or bytes (p + 2) 0 + 16777216 * get_or bytes (p + 3) 0
    + 4294967296 * get_or bytes (p + 4) 0 + 1099511627776 * get_or bytes (p + 5) 0 + 281474976710656 * get_or bytes (p + 6) 0 + 72057594037927936 * get_or bytes (p + 7) 0

-- 256 bytes of 0 or 1 as four words, and a fifth of 0
abbrev pub words_of : List ℕ → List ℕ
words_of bytes =
    pack (λ (i : ℕ). get_or bytes (64 * 0 + i) 0) 64 ∷ pack (λ (i : ℕ). get_or bytes (64 * 1 + i) 0) 64 ∷ pack (λ (i : ℕ). get_or bytes (64 * 2 + i) 0) 64 ∷ pack (λ (i : ℕ). get_or bytes (64 * 3 + i) 0) 64 ∷ 0 ∷ []

-- word w of a row of nx samples whose first has the index base
unfoldable pub row_from : List ℕ → ℕ → ℕ → ℕ → ℕ → ℕ
row_from s t base nx w = pack (λ (i : ℕ). sign_byte s t base nx (64 * w + i)) 64

-- the five words of such a row
abbrev pub words_from : List ℕ → ℕ → ℕ → ℕ → List ℕ
words_from s t base nx = row_from s t base nx 0 ∷ row_from s t base nx 1 ∷ row_from s t base nx 2 ∷ row_from s t base nx 3 ∷ row_from s t base nx 4 ∷ []

-- the five words of a row of samples
abbrev pub five_words : List ℕ → Cut → List ℕ
five_words row cut = words_from row cut.t 0 (length row)

-- word q of plane k, five to a row
abbrev pub plane_from : List ℕ → ℕ → ℕ → ℕ → ℕ → ℕ → ℕ
plane_from s t nx ny k q = row_from s t (nx * (q / 5 + ny * k)) nx (q % 5)
