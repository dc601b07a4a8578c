-- The vertices of a row of cubes, 64 cubes at a time: what the buffers hold of the cubes of a word whose bits are set and of the row, and what the
-- passes over rows and layers require and promise. `lo` and `hi` are the row's windows, `n` is the size of a block, `s` its samples. `first` is the
-- number of the vertex that stands first in the buffers, and the vertices are written from the vertex place v on, so the first of them has the number
-- first + v.
-- Assumes nothing.
use Rattle.std.specs.Prelude.{ℕ, ◌+◌, ◌*◌, ◌-◌, ◌≤◌, ◌<◌, ◌≡◌, true, List, length, Float}
use Rattle.laws.specs.Below.{below}
use Rattle.laws.specs.Bits.{holds}
use Rattle.block.specs.declared.Cut.{Cut}
use Rattle.block.specs.declared.Size.{Size}
use Rattle.block.specs.Numbering.{sample_count}
use Rattle.block.specs.declared.Checked.TheVariants.{Passes}
use Rattle.block.specs.Rows.{threshold_row}
use Rattle.block.specs.Size.{Limits}
use Rattle.signs.specs.Signs.{Plane}
use Rattle.rows.specs.Rows.{loops_at, picked, word_loops, row_masks}
use Rattle.cube_vertices.specs.Cubes.{names_at, words_at, offsets_at, Stored}
use Rattle.notes.specs.Tables.{Noted}

-- ---- the cubes of a word

-- of the cubes whose bits are set; the word's first cube is the cube p of the row and has the number c
module _ (loops_of : Cut → List ℕ → List ℕ) (lo hi : List ℕ) (cut : Cut) (nx act p : ℕ) where
  abbrev pub word_words : ℕ → List ℕ
  word_words c = below (picked act (λ (x : ℕ). words_at loops_of lo hi cut nx (c + x) (p + x))) 64

  abbrev pub word_offsets : List Float
  word_offsets = below (picked act (λ (x : ℕ). offsets_at loops_of lo hi cut nx (p + x))) 64

-- row 3 passes the threshold, there is room for the vertices from the place v on, and numbers fit
pub record WordRoom (loops_of : Cut → List ℕ → List ℕ) (lo hi : List ℕ) (cut : Cut) (nx p act c first v : ℕ) (words : List ℕ) (offsets : List Float) (numbers : List ℕ) : Type 0 where
  pub small : c ≤ 16777216
  pub threshold : threshold_row cut ≡ Passes
  pub words_room : 2 * (v + length (word_loops loops_of lo hi cut nx act p)) ≤ length words
  pub offsets_room : 3 * (v + length (word_loops loops_of lo hi cut nx act p)) ≤ length offsets
  pub numbers_room : (x : ℕ) → x < 64 → holds act x ≡ true → 2 * (p + x) + 2 ≤ length numbers
  pub few : first + (v + length (word_loops loops_of lo hi cut nx act p)) < 4294967296

pub record WordWritten (loops_of : Cut → List ℕ → List ℕ) (lo hi : List ℕ) (cut : Cut) (nx p act c first v : ℕ) (words₀ words : List ℕ) (offsets₀ offsets : List Float) (old new : List ℕ) (r : ℕ) : Type 0 where
  pub stored : Stored v (word_loops loops_of lo hi cut nx act p) (word_words loops_of lo hi cut nx act p c) (word_offsets loops_of lo hi cut nx act p) words₀ words offsets₀ offsets r
  pub noted : Noted (picked act (λ (x : ℕ). loops_at loops_of lo hi cut nx (p + x))) (picked act (λ (x : ℕ). names_at loops_of lo hi cut nx (p + x))) p 64 (first + v) old new

-- ---- a row

-- of the row's cubes
module _ (loops_of : Cut → List ℕ → List ℕ) (lo hi : List ℕ) (cut : Cut) (nx : ℕ) where
  abbrev pub row_words : ℕ → List ℕ
  row_words c = below (λ (x : ℕ). words_at loops_of lo hi cut nx (c + x) x) (nx - 1)

  abbrev pub row_offsets : List Float
  row_offsets = below (offsets_at loops_of lo hi cut nx) (nx - 1)

-- what a pass that writes the row requires besides `RowReady`: row 3 passes the threshold, there is room from the place v on, and numbers fit
pub record RowRoom (loops_of : Cut → List ℕ → List ℕ) (lo hi : List ℕ) (cut : Cut) (nx c first v : ℕ) (words : List ℕ) (offsets : List Float) (numbers : List ℕ) : Type 0 where
  pub small : c ≤ 16711680
  pub threshold : threshold_row cut ≡ Passes
  pub words_room : 2 * (v + length (row_masks loops_of lo hi cut nx)) ≤ length words
  pub offsets_room : 3 * (v + length (row_masks loops_of lo hi cut nx)) ≤ length offsets
  pub numbers_room : length numbers ≡ 512
  pub few : first + (v + length (row_masks loops_of lo hi cut nx)) < 4294967296

-- the row's vertices were written from the place v on, and their numbers noted
pub record RowWritten (loops_of : Cut → List ℕ → List ℕ) (lo hi : List ℕ) (cut : Cut) (nx c first v : ℕ) (words₀ words : List ℕ) (offsets₀ offsets : List Float) (old new : List ℕ) (r : ℕ) : Type 0 where
  pub stored : Stored v (row_masks loops_of lo hi cut nx) (row_words loops_of lo hi cut nx c) (row_offsets loops_of lo hi cut nx) words₀ words offsets₀ offsets r
  pub noted : Noted (loops_at loops_of lo hi cut nx) (names_at loops_of lo hi cut nx) 0 (nx - 1) (first + v) old new

-- ---- a layer of a block

-- What a pass over layer k requires: a size within its limits and as many samples as it has, and the sign words of the planes k and k + 1, which are
-- planes of the block.
pub record Ready (n : Size) (s : List ℕ) (cut : Cut) (a b : List ℕ) (k : ℕ) : Type 0 where
  pub limits : Limits n
  pub samples : length s ≡ sample_count n
  pub lower : Plane n s cut k a
  pub upper : Plane n s cut (k + 1) b
  pub inside : k + 1 < n.nz
