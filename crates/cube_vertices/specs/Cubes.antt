-- One cube of a row: its loops, and what the vertex buffers hold of it. `lo` and `hi` are the row's windows, `nx` the length of a row of
-- samples, `x` the cube's place in the row.
-- Assumes nothing.
use Rattle.std.specs.Prelude.{ℕ, ◌+◌, ◌*◌, ◌≤◌, ◌<◌, ◌≡◌, Bool, true, List, [], ◌∷◌, map, length, Float}
use Rattle.std.proofs.lemmas.List.Edits.{sets}
use Rattle.block.specs.declared.Cut.{Cut}
use Rattle.block.specs.declared.Checked.TheVariants.{Passes}
use Rattle.block.specs.Rows.{threshold_row}
use Rattle.cube_rule.specs.Edges.{pattern_of, crossed_mask}
use Rattle.place.specs.Place.{place_of}
use Rattle.cell.specs.Answer.{word_of}
use Rattle.mesh_rule.specs.Buffers.{triples}
use Rattle.mesh_rule.specs.Layers.{pairs}
use Rattle.signs.specs.Windows.{window_corners}
use Rattle.cube_vertices.specs.declared.Spot.{Spot}
use Rattle.notes.specs.Tables.{CubeNoted}

module _ (loops_of : Cut → List ℕ → List ℕ) where
  -- the words of a cube's vertices, and what the buffers hold of the cube with number c, by its corners
  abbrev pub names_by : Cut → List ℕ → List ℕ
  names_by cut corners = map (word_of corners) (loops_of cut corners)

  abbrev pub words_by : Cut → List ℕ → ℕ → List ℕ
  words_by cut corners c = pairs c (names_by cut corners)

  abbrev pub offsets_by : Cut → List ℕ → List Float
  offsets_by cut corners = triples (map (place_of cut corners) (loops_of cut corners))

  -- the same by its place in the row
  module _ (lo hi : List ℕ) (cut : Cut) (nx : ℕ) where
    abbrev pub names_at : ℕ → List ℕ
    names_at x = names_by cut (window_corners nx lo hi x)

    abbrev pub words_at : ℕ → ℕ → List ℕ
    words_at c x = words_by cut (window_corners nx lo hi x) c

    abbrev pub offsets_at : ℕ → List Float
    offsets_at x = offsets_by cut (window_corners nx lo hi x)

-- Vertices with the masks ms, the words ws and the offsets os were written from the vertex place v on, and r is the place behind them.
pub record Stored (v : ℕ) (ms ws : List ℕ) (os : List Float) (words₀ words : List ℕ) (offsets₀ offsets : List Float) (r : ℕ) : Type 0 where
  pub number : r ≡ v + length ms
  pub words_are : words ≡ sets words₀ (2 * v) ws
  pub offsets_are : offsets ≡ sets offsets₀ (3 * v) os
  -- a vertex takes two words and three coordinates
  pub two : length ws ≡ 2 * length ms
  pub three : length os ≡ 3 * length ms

-- `crossed` has the cube's crossed edges, and `single` is said only of a cube with one loop, all of them
pub record CubeReady (loops_of : Cut → List ℕ → List ℕ) (cut : Cut) (corners : List ℕ) (crossed : ℕ) (single : Bool) : Type 0 where
  pub edges : crossed ≡ crossed_mask (pattern_of cut corners)
  pub one : single ≡ true → loops_of cut corners ≡ crossed ∷ []

-- row 3 passes the threshold, both buffers have room for its vertices, there is room for its numbers, and they fit
pub record CubeRoom (loops_of : Cut → List ℕ → List ℕ) (cut : Cut) (corners : List ℕ) (spot : Spot) (words : List ℕ) (offsets : List Float) (numbers : List ℕ) : Type 0 where
  pub threshold : threshold_row cut ≡ Passes
  pub words_room : 2 * (spot.v + length (loops_of cut corners)) ≤ length words
  pub offsets_room : 3 * (spot.v + length (loops_of cut corners)) ≤ length offsets
  pub numbers_room : 2 * spot.x + 2 ≤ length numbers
  pub few : spot.first + spot.v < 4294967296

-- its vertices are written and noted
pub record CubeWritten (loops_of : Cut → List ℕ → List ℕ) (cut : Cut) (corners : List ℕ) (spot : Spot) (words₀ words : List ℕ) (offsets₀ offsets : List Float) (old new : List ℕ) (r : ℕ) : Type 0 where
  pub stored : Stored spot.v (loops_of cut corners) (words_by loops_of cut corners spot.c) (offsets_by loops_of cut corners) words₀ words offsets₀ offsets r
  pub noted : CubeNoted (names_by loops_of cut corners) spot.x (spot.first + spot.v) old new
