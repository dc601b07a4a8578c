-- A mesh made of what a call of `mesh` wrote (document 02, Twelve: "What our own mesher writes always passes, in any order").
use Rattle.std.specs.Prelude.{ℕ, ◌+◌, ◌*◌, ◌<◌, ◌≡◌, List, Float, length, get_or, take}
use Rattle.std.specs.Float.{nan}
use Rattle.block.specs.declared.Cut.{Cut}
use Rattle.foundry_rule.specs.Shuffled.{Shuffled}
use Rattle.demands.specs.Answers.{MeshCall, quads_written}

-- as many vertices and quads, in any order: each vertex keeps its cube, its word and its offsets, and each quad has the numbers of its vertices there and may be
-- begun at any of them
pub record SentFrom {nx ny nz : ℕ} {s : List ℕ} {cut : Cut} (a : MeshCall nx ny nz s cut) (words : List ℕ) (offsets : List Float) (quads : List ℕ) : Type 0 where
  pub words_long : length words ≡ 2 * a.counts.vertices
  pub offsets_long : length offsets ≡ 3 * a.counts.vertices
  pub quads_long : length quads ≡ 4 * a.counts.quads
  pub shuffled : Shuffled (take (2 * a.counts.vertices) a.words_after) (quads_written a) words quads
  pub offsets_kept : (v k : ℕ) → v < a.counts.vertices → k < 3 → get_or offsets (3 * shuffled.vertex_at v + k) nan ≡ get_or a.offsets_after (3 * v + k) nan
