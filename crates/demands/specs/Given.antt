-- Demand 2, as what a caller of `mesh` finds after an answer that is no refusal: the counts and the three buffers, and what they say of the block.
use Rattle.std.specs.Prelude.{ℕ, ◌+◌, ◌*◌, ◌≤◌, ◌<◌, ◌≡◌, true, ◌↔◌, length, get_or}
use mathlib.Core.List.{List, Memᴰ}
use Rattle.std.specs.Float.{nan}
use Rattle.laws.specs.Below.{over}
use Rattle.laws.specs.Counting.{count}
use Rattle.block.specs.declared.Cut.{Cut}
use Rattle.block.specs.declared.Size.{Size}
use Rattle.block.specs.Grey.{positive, SixteenBit}
use Rattle.block.specs.Numbering.{X, Y, Z, sample_count, cube_count}
use Rattle.block.specs.Size.{size_of}
use Rattle.cube_rule.specs.Decider.{joined, divisor, loops_of}
use Rattle.cube_rule.specs.Edges.{corner_sample, pattern_of}
use Rattle.cube_rule.specs.Faces.{ring_corner}
use Rattle.cube_rule.specs.Links.{ring_count, decisions}
use Rattle.cube_rule.specs.Rule.{Rule}
use Rattle.cube_rule.specs.Saddle.{form, Saddle}
use Rattle.place.specs.Unit.{InUnit}
use Rattle.cell.specs.Answer.{word_of}
use Rattle.mesh_rule.specs.Buffers.{mesh_words, mesh_offsets, mesh_quads}
use Rattle.mesh_rule.specs.Grid.{corners_of, crossed_inner}
use Rattle.mesh_rule.specs.Mesh.{quad, cube_loops, vertices, vertex_of}
use Rattle.mesh_rule.specs.Orientation.{QuadOf}
use Rattle.demands.specs.Answers.{MeshCall}

module _ {nx ny nz : ℕ} {s : List ℕ} {cut : Cut} (a : MeshCall nx ny nz s cut) where
  abbrev size : Size
  size = size_of nx ny nz

  -- the sample at corner i round the face f of the cube with number c
  abbrev round : ℕ → ℕ → ℕ → ℕ
  round c f i = corner_sample (corners_of size s c) (ring_corner f i)

  -- of the face f of the cube with number c: that all its four edges are crossed, the divisor of its saddle, and at the point u of u + w along its first side and v of
  -- v + x along its second, that this is the saddle, and the form there
  abbrev Doubtful : ℕ → ℕ → Type 0
  Doubtful c f = ring_count (positive cut (round c f 0)) (positive cut (round c f 1)) (positive cut (round c f 2)) (positive cut (round c f 3)) ≡ 4

  abbrev divisor_at : ℕ → ℕ → ℕ
  divisor_at c f = divisor cut (round c f 0) (round c f 1) (round c f 2) (round c f 3)

  abbrev SaddleAt : ℕ → ℕ → ℕ → ℕ → ℕ → ℕ → Type 0
  SaddleAt c f = Saddle (round c f 0) (round c f 1) (round c f 2) (round c f 3)

  abbrev form_at : ℕ → ℕ → ℕ → ℕ → ℕ → ℕ → ℕ
  form_at c f = form (round c f 0) (round c f 1) (round c f 2) (round c f 3)

  pub record MeshGiven : Type 0 where
    -- the vertices, one for each loop of each cube, in order: cube number and word. What stood behind them is kept
    pub words : a.words_after ≡ over (mesh_words loops_of size s cut) a.words
    pub vertex_count_lem : a.counts.vertices ≡ length (vertices loops_of size s cut)
    -- vertex v, of a cube of the block and one of its loops, and what the buffer holds of it
    pub each_vertex : (v : ℕ) → v < a.counts.vertices
        → (get_or a.words_after (2 * v) 0 ≡ (vertex_of loops_of size s cut v).cube)
        × (get_or a.words_after (2 * v + 1) 0 ≡ word_of (corners_of size s (vertex_of loops_of size s cut v).cube) (vertex_of loops_of size s cut v).mask)
        × ((vertex_of loops_of size s cut v).cube < cube_count size)
        × Memᴰ (vertex_of loops_of size s cut v).mask (cube_loops loops_of size s cut (vertex_of loops_of size s cut v).cube)
    -- the loops of a cube are those of THE RULE, its doubtful faces being decided by `joined`
    pub loops : (c : ℕ) → Rule (pattern_of cut (corners_of size s c)) (decisions joined cut (corners_of size s c)) (cube_loops loops_of size s cut c)
    -- and that is by the saddle: where all four edges of a face are crossed, its positive corners are joined exactly if the form there is at least t + n/S, with the
    -- noise figure n and the divisor S, which is above 0
    pub noisy_saddles : (c f u w v x : ℕ) → Doubtful c f → 0 < u + w → 0 < v + x → SaddleAt c f u w v x
        → (0 < divisor_at c f) × ((decisions joined cut (corners_of size s c) f ≡ true)
        ↔ ((cut.t * divisor_at c f + cut.noise) * ((u + w) * (v + x)) ≤ divisor_at c f * form_at c f u w v x))
    -- so without noise exactly if it is at least t
    pub saddles : cut.noise ≡ 0 → (c f u w v x : ℕ) → Doubtful c f → 0 < u + w → 0 < v + x → SaddleAt c f u w v x
        → (decisions joined cut (corners_of size s c) f ≡ true) ↔ (cut.t * ((u + w) * (v + x)) ≤ form_at c f u w v x)
    -- the places of the loops, each coordinate from 0 to 1 with the sign plus
    pub offsets : a.offsets_after ≡ over (mesh_offsets loops_of size s cut) a.offsets
    pub in_unit : SixteenBit s → (k : ℕ) → k < 3 * a.counts.vertices → InUnit (get_or a.offsets_after k nan)
    -- the quads in 01's order, as many as crossed inner edges
    pub quads : a.quads_after ≡ over (mesh_quads loops_of size s cut) a.quads
    pub quad_count_lem : a.counts.quads
        ≡ count (crossed_inner size s cut X) (sample_count size) + count (crossed_inner size s cut Y) (sample_count size) + count (crossed_inner size s cut Z) (sample_count size)
    -- each is that of a crossed inner edge: its vertices have the edge in their masks, in the four cubes, and it faces from metal to hollow
    pub each_quad : (q : ℕ) → q < a.counts.quads
        → QuadOf loops_of size s cut
        (quad (get_or a.quads_after (4 * q) 0) (get_or a.quads_after (4 * q + 1) 0) (get_or a.quads_after (4 * q + 2) 0) (get_or a.quads_after (4 * q + 3) 0))
    -- never more than these
    pub most : (a.counts.vertices ≤ 66325500) × (a.counts.quads ≤ 49354740)
