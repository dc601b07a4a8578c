-- The vertex numbers of a row of cubes, by cube and edge: two words a cube, the number of its first vertex, and which of its vertices each edge
-- has. A word tells an edge by its bit, as the mask does; what else a word holds does not matter. `g` are the masks of the row's cubes and `f` the words of their vertices, one for each mask.
-- Assumes nothing.
use Rattle.std.specs.Prelude.{ℕ, zero, suc, ◌+◌, ◌*◌, ◌/◌, ◌-◌, ◌%◌, ◌^◌, ◌≤◌, ◌<◌, ◌≡◌, Bool, true, false, not, cond, ◌&&◌, ◌||◌, List, [], ◌∷◌, ltb, leb, eqb, length, get_or}
use Rattle.std.proofs.lemmas.List.Edits.{sets}
use Rattle.std.specs.Int.Bits.{bit_or}
use Rattle.laws.specs.Below.{below}

-- which of a cube's vertices, 0 to 3, has the edge e: bit e is its low digit, bit 16 + e its high one
unfoldable pub which_of : List ℕ → ℕ
which_of ws = bit_or (get_or ws 1 0) (get_or ws 3 0) % 65536 + 65536 * (bit_or (get_or ws 2 0) (get_or ws 3 0) % 65536)

-- the number that a row's numbers give the vertex of cube x at the edge e
unfoldable pub vertex_in : List ℕ → ℕ → ℕ → ℕ
vertex_in numbers x e =
    (get_or numbers (2 * x) 0 + (get_or numbers (2 * x + 1) 0 % 65536 / 2 ^ e % 2 + 2 * (get_or numbers (2 * x + 1) 0 / 65536 / 2 ^ e % 2))) % 4294967296

-- what stands in a place of a cube with the words ws: what is noted, or what stood there if it has no vertex
abbrev pub noted_if : List ℕ → ℕ → ℕ → ℕ
noted_if [] new old = old
noted_if (w ∷ ws) new old = new

-- the cube x, with the words ws and the first vertex v, is noted
abbrev pub CubeNoted : List ℕ → ℕ → ℕ → List ℕ → List ℕ → Type 0
CubeNoted ws x v old new = new ≡ sets old (2 * x) (v ∷ which_of ws ∷ [])

-- the m cubes from `from` on are noted, with the first vertex v, and nothing else is touched
pub record Noted (g f : ℕ → List ℕ) (from m v : ℕ) (old new : List ℕ) : Type 0 where
  pub long : length new ≡ length old
  pub before : (q : ℕ) → q < 2 * from → get_or new q 0 ≡ get_or old q 0
  pub behind : (q : ℕ) → 2 * (from + m) ≤ q → get_or new q 0 ≡ get_or old q 0
  pub first : (y : ℕ) → y < m → get_or new (2 * (from + y)) 0 ≡ noted_if (f y) (v + length (below g y)) (get_or old (2 * (from + y)) 0)
  pub which : (y : ℕ) → y < m → get_or new (2 * (from + y) + 1) 0 ≡ noted_if (f y) (which_of (f y)) (get_or old (2 * (from + y) + 1) 0)

-- the numbers of a row of m cubes, with the first vertex v, whatever stands at a cube that has no vertex
pub record Numbered (g f : ℕ → List ℕ) (m v : ℕ) (numbers : List ℕ) : Type 0 where
  pub first : (x : ℕ) → x < m → 0 < length (f x) → get_or numbers (2 * x) 0 ≡ v + length (below g x)
  pub which : (x : ℕ) → x < m → 0 < length (f x) → get_or numbers (2 * x + 1) 0 ≡ which_of (f x)

-- ---- a row read back from the words buffer

-- the word of the vertex v of a part of the words buffer, if it is of the cube d
abbrev pub word_for : List ℕ → ℕ → ℕ → ℕ
word_for part d v = cond (ltb (2 * v + 1) (length part) && eqb (get_or part (2 * v) 0) d) (get_or part (2 * v + 1) 0) 0

-- the vertex v is the first of its cube from the vertex `from` on
abbrev pub is_first : List ℕ → ℕ → ℕ → Bool
is_first part from v = eqb v from || not (eqb (get_or part (2 * v - 2) 0) (get_or part (2 * v) 0))

-- the words of the vertices of the cube of the vertex v, of which it is the first
abbrev pub four_for : List ℕ → ℕ → List ℕ
four_for part v =
    let d = get_or part (2 * v) 0 in
    word_for part d v ∷ word_for part d (v + 1) ∷ word_for part d (v + 2) ∷ word_for part d (v + 3) ∷ []

-- the words of m cubes, f x of the cube c + x, stand in a part of the words buffer from its vertex `from` on, and only later cubes behind them
pub record RowOf (f : ℕ → List ℕ) (m c from : ℕ) (part : List ℕ) : Type 0 where
  pub room : 2 * (from + length (below f m)) ≤ length part
  pub cube : (x l : ℕ) → x < m → l < length (f x) → get_or part (2 * (from + length (below f x) + l)) 0 ≡ c + x
  pub word : (x l : ℕ) → x < m → l < length (f x) → get_or part (2 * (from + length (below f x) + l) + 1) 0 ≡ get_or (f x) l 0
  pub later : (u : ℕ) → from + length (below f m) ≤ u → 2 * u + 1 < length part → c + m ≤ get_or part (2 * u) 0
  pub four : (x : ℕ) → x < m → length (f x) ≤ 4

-- a promise of `note_row`: whatever row stands there is noted, and r is the vertex behind it
abbrev pub RowRead : ℕ → ℕ → ℕ → ℕ → List ℕ → List ℕ → ℕ → Type 0
RowRead m c from first part numbers r = (f : ℕ → List ℕ) → RowOf f m c from part → (r ≡ from + length (below f m)) × Numbered f f m (first + from) numbers

-- the vertex v of a part of the words buffer is of one of the m cubes from the cube c on
abbrev pub in_row : List ℕ → ℕ → ℕ → ℕ → Bool
in_row part c m v = ltb (2 * v + 1) (length part) && (leb c (get_or part (2 * v) 0) && ltb (get_or part (2 * v) 0) (c + m))

-- the numbers with the vertex v noted, if it is the first of its cube
abbrev pub noted_vertex : List ℕ → ℕ → ℕ → ℕ → ℕ → List ℕ → List ℕ
noted_vertex part from first c v numbers = cond (is_first part from v) (sets numbers (2 * (get_or part (2 * v) 0 - c)) ((first + v) ∷ which_of (four_for part v) ∷ [])) numbers

-- the numbers with n vertices noted, one by one from the vertex `from` on
unfoldable pub noted_from : List ℕ → ℕ → ℕ → ℕ → ℕ → List ℕ → List ℕ
noted_from part from first c zero numbers = numbers
noted_from part from first c (suc n) numbers = noted_vertex part from first c (from + n) (noted_from part from first c n numbers)

-- the other promise of `note_row`, whatever the part holds: the vertices from `from` on are noted, up to the first, r, that is not of the row
pub record RowNoted (m c from first : ℕ) (part old new : List ℕ) (r : ℕ) : Type 0 where
  pub behind : from ≤ r
  pub each : (v : ℕ) → from ≤ v → v < r → in_row part c m v ≡ true
  pub last : in_row part c m r ≡ false
  pub noted : new ≡ noted_from part from first c (r - from) old
