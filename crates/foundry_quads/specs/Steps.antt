-- What the steps that look at the foundry's quads are given and hand on. `n` is the size of the block, `s` its samples.
-- Assumes nothing.
use Rattle.std.specs.Prelude.{◌≡◌, ℕ, ◌+◌, ◌-◌, ◌<◌, ◌≤◌, Bool, ◌&&◌, List, ◌==◌}
use Rattle.laws.specs.Bits.{holds}
use Rattle.block.specs.declared.Cut.{Cut}
use Rattle.block.specs.declared.Size.{Size}
use Rattle.block.specs.Numbering.{cube_count}
use Rattle.block.specs.Steps.{Sampled}
use Rattle.mesh_rule.specs.Layers.{layer_size}
use Rattle.mesh_rule.specs.Mesh.{Quad, quad}
use Rattle.foundry_rule.specs.Distinct.{QuadsBelow}
use Rattle.foundry_rule.specs.Judged.{vertex_total, named_quad, as_sent}
use Rattle.foundry_rule.specs.Spots.{cube_at, word_at, led, fits, quad_key}
use Rattle.repeats.specs.Fresh.{fresh}
use Rattle.foundry_quads.specs.declared.Four.{Four}

-- four vertex numbers as a quad
abbrev pub as_quad : Four → Quad
as_quad f = quad f.a f.b f.c f.d

-- four numbers below a count
pub record FourBelow (count : ℕ) (f : Four) : Type 0 where
  pub a_below : f.a < count
  pub b_below : f.b < count
  pub c_below : f.c < count
  pub d_below : f.d < count

-- every vertex is in a cube of the block, there are at most 66,325,500 of them, and every quad names vertices
pub record QuadsInside (n : Size) (words quads : List ℕ) : Type 0 where
  pub cubes : (v : ℕ) → v < vertex_total words → cube_at words v < cube_count n
  pub below : QuadsBelow (vertex_total words) quads
  pub few : vertex_total words ≤ 66325500

-- they are beside a block of so many cubes a row and a layer
pub record QuadsReady (n : Size) (s words quads : List ℕ) (wide layer : ℕ) : Type 0 where
  pub sampled : Sampled n s
  pub inside : QuadsInside n words quads
  pub wide_value : wide ≡ n.nx - 1
  pub layer_value : layer ≡ layer_size n

-- second and fourth cube lie r and p before the third, and the first lies both before it
abbrev pub apart_by : List ℕ → ℕ → ℕ → Quad → Bool
apart_by words r p q =
    (cube_at words q.v1 + r == cube_at words q.v2) && cube_at words q.v3 + p == cube_at words q.v2 && cube_at words q.v0 + (r + p) == cube_at words q.v2

-- the words hold the edges
abbrev pub all_hold : List ℕ → ℕ → ℕ → ℕ → ℕ → Quad → Bool
all_hold words e0 e1 e2 e3 q = holds (word_at words q.v0) e0 && holds (word_at words q.v1) e1 && holds (word_at words q.v2) e2 && holds (word_at words q.v3) e3

module _ (n : Size) (s : List ℕ) (cut : Cut) (words quads : List ℕ) where
  -- quad q is that of a crossed inner edge
  abbrev pub quad_fits : ℕ → Bool
  quad_fits q = fits words n s cut (led words (named_quad as_sent quads q))

-- the number that tells quad q from every other of ours
abbrev pub key_at : Size → List ℕ → List ℕ → ℕ → ℕ
key_at n words quads q = quad_key words n (vertex_total words) (named_quad as_sent quads q)

module _ (n : Size) (s : List ℕ) (cut : Cut) (words quads : List ℕ) where
  -- it is, and no earlier quad has its number
  abbrev pub quad_spot_sound : ℕ → Bool
  quad_spot_sound q = quad_fits n s cut words quads q && fresh (key_at n words quads) q
