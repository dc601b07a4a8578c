-- The signs of a plane of samples as words of 64 bits. A row has five words, the fifth without a sign, so that every word of samples has a next
-- one. `n` is the size, `s` the samples. Assumes nothing.
use Rattle.std.specs.Prelude.{ℕ, ◌+◌, ◌*◌, ◌/◌, ◌%◌, ◌<◌, ◌≡◌, ◌&&◌, List, [], ◌∷◌, ltb, length, get_or}
use Rattle.laws.specs.Below.{below}
use Rattle.laws.specs.Bits.{bit}
use Rattle.laws.specs.Pack.{pack}
use Rattle.block.specs.declared.Cut.{Cut}
use Rattle.block.specs.declared.Size.{Size}
use Rattle.mesh_rule.specs.Grid.{metal}

-- the sign of sample x of the row j of plane k: 1 for metal, 0 for hollow and past the row's end
unfoldable pub row_sign : Size → List ℕ → Cut → ℕ → ℕ → ℕ → ℕ
row_sign n s cut j k x = bit (ltb x n.nx && metal n s cut x j k)

-- word w of a row: its bit i is the sign of sample 64 w + i
abbrev pub row_word : Size → List ℕ → Cut → ℕ → ℕ → ℕ → ℕ
row_word n s cut j k w = pack (λ (i : ℕ). row_sign n s cut j k (64 * w + i)) 64

-- the words of plane k, five to a row
abbrev pub plane_words : Size → List ℕ → Cut → ℕ → List ℕ
plane_words n s cut k = below (λ (q : ℕ). row_word n s cut (q / 5) k (q % 5) ∷ []) (5 * n.ny)

-- a buffer for the largest plane, 256 rows, that holds the words of plane k
pub record Plane (n : Size) (s : List ℕ) (cut : Cut) (k : ℕ) (ws : List ℕ) : Type 0 where
  pub room : length ws ≡ 1280
  pub word : (j w : ℕ) → j < n.ny → w < 5 → get_or ws (5 * j + w) 0 ≡ row_word n s cut j k w
