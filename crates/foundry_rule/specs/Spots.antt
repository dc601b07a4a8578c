-- A vertex and a quad of a foreign mesh by cubes and words alone, as the code looks at them: whether the cube of a vertex has its word, whether a quad lies round a
-- crossed inner edge as 01's table says, and a number for each that tells it from every other of ours. Theorems tie them to what is found (`known_by_cube`,
-- `ours_by_table`, `vertex_keys`, `quad_keys`), so they need no belief.
-- Assumes nothing.
use Rattle.std.specs.Prelude.{ℕ, zero, suc, ◌+◌, ◌*◌, ◌-◌, Bool, false, cond, ◌&&◌, ◌||◌, List, [], ◌∷◌, map, eqb, ltb, leb, get_or}
use Rattle.laws.specs.Bits.{holds}
use Rattle.laws.specs.Filled.{filled}
use Rattle.block.specs.declared.Cut.{Cut}
use Rattle.block.specs.declared.Size.{Size}
use Rattle.block.specs.Numbering.{X, Y, Z, cube_count}
use Rattle.cube_rule.specs.Decider.{loops_of}
use Rattle.cell.specs.Answer.{word_of, mark_of}
use Rattle.mesh_rule.specs.Grid.{corners_of, metal}
use Rattle.mesh_rule.specs.Layers.{layer_size}
use Rattle.mesh_rule.specs.Mesh.{Quad, turned, cube_loops}
use Rattle.mesh_rule.specs.Orientation.{coordinate}
use Rattle.foundry_rule.specs.Judged.{begun_next}

-- w is one of these numbers
unfoldable pub among : ℕ → List ℕ → Bool
among w [] = false
among w (x ∷ xs) = eqb w x || among w xs

-- the word w is that of a loop of the cube c
abbrev pub own_word : Size → List ℕ → Cut → ℕ → ℕ → Bool
own_word n s cut c w = ltb c (cube_count n) && among w (map (word_of (corners_of n s c)) (cube_loops loops_of n s cut c))

-- the place of a mask among four, 4 where it is none of them
abbrev pub place_among : ℕ → List ℕ → ℕ
place_among m masks =
    cond (eqb m (get_or masks 0 0)) 0 (cond (eqb m (get_or masks 1 0)) 1 (cond (eqb m (get_or masks 2 0)) 2 (cond (eqb m (get_or masks 3 0)) 3 4)))

-- the place of the word w among those of a cube's loops, and among those of the cube c of a block; 4 where it is none of them
unfoldable pub word_place : Cut → List ℕ → ℕ → ℕ
word_place cut corners w = cond (leb w (mark_of corners)) 4 (place_among (w - mark_of corners) (filled 4 0 (loops_of cut corners)))

unfoldable pub place_in : Size → List ℕ → Cut → ℕ → ℕ → ℕ
unfolding word_place
place_in n s cut c w = cond (ltb c (cube_count n)) (word_place cut (corners_of n s c) w) 4

-- the place of the highest of four numbers; of equal ones, the first
abbrev pub highest_of : ℕ → ℕ → ℕ → ℕ → ℕ
highest_of a b c d = cond (ltb (cond (ltb a b) b a) (cond (ltb c d) d c)) (cond (ltb c d) 3 2) (cond (ltb a b) 1 0)

-- the quad begun so that its vertex in the place h is the third
abbrev pub led_by : ℕ → Quad → Quad
led_by zero q = begun_next (begun_next q)
led_by (suc zero) q = begun_next (begun_next (begun_next q))
led_by (suc (suc zero)) q = q
led_by (suc (suc (suc h))) q = begun_next q

module _ (words : List ℕ) where
  -- cube and word of a vertex
  abbrev pub cube_at : ℕ → ℕ
  cube_at v = get_or words (2 * v) 0

  abbrev pub word_at : ℕ → ℕ
  word_at v = get_or words (2 * v + 1) 0

  -- a number for a vertex: its cube, and the place of its word there
  abbrev pub vertex_key : Size → List ℕ → Cut → ℕ → ℕ
  vertex_key n s cut v = 4 * cube_at v + place_in n s cut (cube_at v) (word_at v)

  -- begun so that the third vertex is in the highest cube
  abbrev pub led : Quad → Quad
  led q = led_by (highest_of (cube_at q.v0) (cube_at q.v1) (cube_at q.v2) (cube_at q.v3)) q

  -- second and fourth cube lie r and p before the third, the first lies both before it, and the words hold the edges
  abbrev pub lies : ℕ → ℕ → ℕ → ℕ → ℕ → ℕ → Quad → Bool
  lies r p e0 e1 e2 e3 q =
      eqb (cube_at q.v1 + r) (cube_at q.v2) && eqb (cube_at q.v3 + p) (cube_at q.v2) && eqb (cube_at q.v0 + (r + p)) (cube_at q.v2)
      && holds (word_at q.v0) e0 && holds (word_at q.v1) e1 && holds (word_at q.v2) e2 && holds (word_at q.v3) e3

  -- the same, round an edge whose lower sample is off two faces of the box, at u and v from them
  abbrev pub along_by : ℕ → ℕ → ℕ → ℕ → ℕ → ℕ → ℕ → ℕ → Quad → Bool
  along_by u v r p e0 e1 e2 e3 q = ltb 0 u && ltb 0 v && lies r p e0 e1 e2 e3 q

  -- 01's table by cube numbers, for rows and layers of so many cubes and for those of a block: a quad whose lower sample is (i,j,k), with second and fourth in the
  -- table's order
  abbrev pub round_by : ℕ → ℕ → ℕ → ℕ → ℕ → Quad → Bool
  round_by wide layer i j k q = along_by j k layer wide 3 2 0 1 q || along_by i k 1 layer 7 5 4 6 q || along_by i j wide 1 11 10 8 9 q

  abbrev pub lies_round : Size → ℕ → ℕ → ℕ → Quad → Bool
  lies_round n i j k q = round_by (n.nx - 1) (layer_size n) i j k q

  -- the quad is that of a crossed inner edge; its third vertex is in the highest cube, whose first corner is the lower sample
  unfoldable pub fits : Size → List ℕ → Cut → Quad → Bool
  fits n s cut q =
      let c = cube_at q.v2 in
      let i = coordinate n X c in
      let j = coordinate n Y c in
      let k = coordinate n Z c in
      lies_round n i j k (turned (metal n s cut i j k) q)

  -- the axis of a quad's edge, by how far apart its first and its third cube lie, for rows and layers of so many cubes and for those of a block
  abbrev pub axis_by : ℕ → ℕ → Quad → ℕ
  axis_by wide layer q =
      cond (eqb (cube_at q.v0 + (layer + wide)) (cube_at q.v2)) 0
      (cond (eqb (cube_at q.v0 + (1 + layer)) (cube_at q.v2)) 1 2)

  abbrev pub axis_at : Size → Quad → ℕ
  axis_at n q = axis_by (n.nx - 1) (layer_size n) q

  -- a number for a quad of a mesh with so many vertices: its axis and its third vertex
  abbrev pub quad_key : Size → ℕ → Quad → ℕ
  quad_key n count q = axis_at n (led q) * count + (led q).v2
