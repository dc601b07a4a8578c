-- What is remembered between two planes, in a lent buffer of words: the samples of the last plane, two to a word, and behind them two words for each
-- place of a row of cubes, the numbers of the last layer's vertices.
-- Assumes nothing.
use Rattle.std.specs.Prelude.{ℕ, zero, suc, ◌+◌, ◌*◌, ◌/◌, ◌%◌, ◌<◌, ◌≡◌, ◌&&◌, List, [], ◌∷◌, ltb, length, get_or, drop}
use Rattle.laws.specs.Below.{below}
use Rattle.laws.specs.Bits.{bit}
use Rattle.laws.specs.Pack.{pack}
use Rattle.block.specs.declared.Cut.{Cut}
use Rattle.block.specs.declared.Size.{Size}
use Rattle.block.specs.Grey.{positive}
use Rattle.block.specs.Numbering.{sample_count}
use Rattle.mesh_rule.specs.Layers.{plane_size}
use Rattle.quads.specs.Writing.{RowTable}

-- a half of a word: 0 is the low one
abbrev pub half_of : ℕ → ℕ → ℕ
half_of w zero = w % 65536
half_of w (suc h) = w / 65536

-- the sample i of a plane that is remembered, and of one that is lent
abbrev pub sample_in : List ℕ → ℕ → ℕ
sample_in work i = half_of (get_or work (i / 2) 0) (i % 2)

abbrev pub item_at : List ℕ → ℕ → ℕ
item_at plane i = get_or plane i 0

-- two samples as a word
abbrev pub pair_of : ℕ → ℕ → ℕ
pair_of a b = a + 65536 * b

-- a plane, two samples to a word
abbrev pub packed : List ℕ → List ℕ
packed plane = below (λ (i : ℕ). pair_of (get_or plane (2 * i) 0) (get_or plane (2 * i + 1) 0) ∷ []) ((length plane + 1) / 2)

-- the first m items of a window are the samples of a part of words
abbrev pub Windowed : List ℕ → ℕ → List ℕ → Type 0
Windowed part m window = (x : ℕ) → x < m → get_or window x 0 ≡ sample_in part x

-- the signs of the first j rows of a plane, five words to a row, where f i is its sample i
abbrev pub SignedTo : ℕ → (ℕ → ℕ) → Cut → ℕ → List ℕ → Type 0
SignedTo nx f cut j ws = (i w : ℕ) → i < j → w < 5 → get_or ws (5 * i + w) 0 ≡ pack (λ (x : ℕ). bit (ltb (64 * w + x) nx && positive cut (f (nx * i + (64 * w + x))))) 64

-- a block whose planes k and k + 1 are at hand: the lower is remembered, the upper is lent
pub record Shown (n : Size) (k : ℕ) (work plane s : List ℕ) : Type 0 where
  pub samples : length s ≡ sample_count n
  pub lower : (i : ℕ) → i < plane_size n → get_or s (plane_size n * k + i) 0 ≡ sample_in work i
  pub upper : (i : ℕ) → i < plane_size n → get_or s (plane_size n * (k + 1) + i) 0 ≡ item_at plane i

-- where the numbers of row j stand
abbrev pub table_at : Size → ℕ → ℕ
table_at n j = plane_size n + 2 * (n.nx * j)

-- the numbers of the layer z stand there, row by row
abbrev pub LayerTables : (Cut → List ℕ → List ℕ) → Size → List ℕ → Cut → ℕ → List ℕ → Type 0
LayerTables loops_of n s cut z work = (j : ℕ) → j + 1 < n.ny → RowTable loops_of n s cut j z (drop (table_at n j) work)
