-- Words for what an entry point answered, for what its lent buffers hold of a mesh, and for buffers that are reserved before there is one.
use Rattle.std.specs.Prelude.{ℕ, ◌*◌, ◌/◌, ◌<◌, ◌≤◌, ◌≡◌, List, Float, get_or, take}
use Rattle.block.specs.declared.Cut.{Cut}
use Rattle.block.specs.declared.Refusal.{Refusal}
use Rattle.block.specs.Answer.{Answer, accepted, refused}
use Rattle.mesh.specs.declared.Totals.{Totals}
use Rattle.mesh.specs.declared.Counted.{Counted}
use Rattle.mesh.specs.Answer.{said_counts, Meshed}
use Rattle.readings_mesh.specs.Answer.{ReadingsMeshed}

-- anything but a refusal
abbrev pub NotRefused : {A : Type 0} → Answer A → Type 0
NotRefused a = (x : Refusal) → a ≡ refused x → ⊥

-- any call of `mesh` that its promise allows and that answers counts: the buffers before it and after it
pub record MeshCall (nx ny nz : ℕ) (s : List ℕ) (cut : Cut) : Type 0 where
  pub words : List ℕ
  pub offsets : List Float
  pub quads : List ℕ
  pub answer : Counted
  pub words_after : List ℕ
  pub offsets_after : List Float
  pub quads_after : List ℕ
  pub promise : Meshed nx ny nz s cut words offsets quads answer words_after offsets_after quads_after
  pub counts : Totals
  pub accepts : said_counts answer ≡ accepted counts

-- the same of `mesh` of readings
pub record ReadingsCall (nx ny nz : ℕ) (xs : List Float) (cut : Cut) : Type 0 where
  pub words : List ℕ
  pub offsets : List Float
  pub quads : List ℕ
  pub answer : Counted
  pub words_after : List ℕ
  pub offsets_after : List Float
  pub quads_after : List ℕ
  pub promise : ReadingsMeshed nx ny nz xs cut words offsets quads answer words_after offsets_after quads_after
  pub counts : Totals
  pub accepts : said_counts answer ≡ accepted counts

-- the quads that a call of `mesh` wrote
abbrev pub quads_written : {nx ny nz : ℕ} {s : List ℕ} {cut : Cut} → MeshCall nx ny nz s cut → List ℕ
quads_written a = take (4 * a.counts.quads) a.quads_after

-- buffers as a caller reserves them for e crossed edges, by their lengths: two words and three offsets for each of 4·e/3 vertices, four words for each of
-- e quads
pub record Reserved (e words offsets quads : ℕ) : Type 0 where
  pub words_long : 2 * (4 * e / 3) ≤ words
  pub offsets_long : 3 * (4 * e / 3) ≤ offsets
  pub quads_long : 4 * e ≤ quads

-- two meshes as the buffers hold them: the same cube for every vertex, and the same quads
pub record SameMesh {nx ny nz : ℕ} {s s' : List ℕ} {cut cut' : Cut} (a : MeshCall nx ny nz s cut) (b : MeshCall nx ny nz s' cut') : Type 0 where
  pub vertices : a.counts.vertices ≡ b.counts.vertices
  pub cubes : (v : ℕ) → v < a.counts.vertices → get_or a.words_after (2 * v) 0 ≡ get_or b.words_after (2 * v) 0
  pub quads : a.counts.quads ≡ b.counts.quads
  pub numbers : (k : ℕ) → k < 4 * a.counts.quads → get_or a.quads_after k 0 ≡ get_or b.quads_after k 0
