-- The noise figure of a call: without it, a call leaves what the decider of document 01 gives; two calls with noise figures that decide each doubtful face alike leave the
-- same; and neither rows 1 to 3 nor the number of quads read it.
use Prim.Native.Nat.{ℕ, ◌*◌, ◌<◌}
use mathlib.Core.Path.{◌≡◌, refl, ap, sym, ◌∙◌}
use mathlib.Core.Bool.{Bool}
use mathlib.Core.List.{List}
use lib.Ieee.{Float}
use lib.ListN.{length, take}
use Rattle.laws.specs.Below.{over}
use Rattle.block.specs.declared.Size.{Size}
use Rattle.block.specs.Block.{block_verdict}
use Rattle.block.specs.Grey.{cut_of}
use Rattle.block.specs.Numbering.{cube_count}
use Rattle.block.specs.Size.{size_of}
use Rattle.cube_rule.specs.Decider.{joined, noiseless, loops_of}
use Rattle.cube_rule.specs.Links.{decisions}
use Rattle.cube_rule.specs.Loops.{loops_by}
use Rattle.cube_rule.proofs.Noise.{DoubtfulAt}
use Rattle.mesh_rule.specs.Buffers.{mesh_words, mesh_offsets, mesh_quads}
use Rattle.mesh_rule.specs.Grid.{corners_of}
use Rattle.mesh_rule.specs.Mesh.{Vertex, Quad, vertices, quads}
use Rattle.mesh_rule.proofs.Noise.{OneMesh, no_noise_mesh, decided_mesh}
use Rattle.demands.specs.Answers.{MeshCall}
use Rattle.demands.proofs.TheMesh.{vertices_are, quads_are, words_front, offsets_front, quads_front, mesh_given}

-- rows 1 to 3 are the same by any noise figure
pub rows_read_no_noise : (nx ny nz : ℕ) (s : List ℕ) (t m n : ℕ) → block_verdict nx ny nz s (cut_of t m) ≡ block_verdict nx ny nz s (cut_of t n)
rows_read_no_noise nx ny nz s t m n = refl

-- neither does the number of quads: there is one for each crossed inner edge
pub quads_read_no_noise : {nx ny nz : ℕ} {s : List ℕ} {t m n : ℕ} (a : MeshCall nx ny nz s (cut_of t m)) (b : MeshCall nx ny nz s (cut_of t n)) → a.counts.quads ≡ b.counts.quads
quads_read_no_noise a b = (mesh_given a).quad_count_lem ∙ sym (mesh_given b).quad_count_lem

-- ---- with n = 0 the counts and the three buffers are by 01's own decider
module _ {nx ny nz : ℕ} {s : List ℕ} {t : ℕ} (a : MeshCall nx ny nz s (cut_of t 0)) where
  abbrev size : Size
  size = size_of nx ny nz

  pub no_noise_counts : (a.counts.vertices ≡ length (vertices (loops_by noiseless) size s (cut_of t 0))) × (a.counts.quads ≡ length (quads (loops_by noiseless) size s (cut_of t 0)))
  no_noise_counts = (
    vertices_are a ∙ ap (λ (vs : List Vertex). length vs) (no_noise_mesh size s t).vertices_same,
    quads_are a ∙ ap (λ (qs : List Quad). length qs) (no_noise_mesh size s t).quads_same,
  )

  pub no_noise_call : (a.words_after ≡ over (mesh_words (loops_by noiseless) size s (cut_of t 0)) a.words)
      × (a.offsets_after ≡ over (mesh_offsets (loops_by noiseless) size s (cut_of t 0)) a.offsets)
      × (a.quads_after ≡ over (mesh_quads (loops_by noiseless) size s (cut_of t 0)) a.quads)
  no_noise_call = (
    (mesh_given a).words ∙ ap (λ (l : List ℕ). over l a.words) (no_noise_mesh size s t).words_same,
    (mesh_given a).offsets ∙ ap (λ (l : List Float). over l a.offsets) (no_noise_mesh size s t).offsets_same,
    (mesh_given a).quads ∙ ap (λ (l : List ℕ). over l a.quads) (no_noise_mesh size s t).numbers_same,
  )

-- ---- two noise figures that decide each doubtful face alike: two calls leave the same
module _ {nx ny nz : ℕ} {s : List ℕ} {t m n : ℕ} (a : MeshCall nx ny nz s (cut_of t m)) (b : MeshCall nx ny nz s (cut_of t n)) where
  -- how the face f of the cube with number c is decided
  abbrev decided_by : ℕ → ℕ → ℕ → Bool
  decided_by noise c f = decisions joined (cut_of t noise) (corners_of (size_of nx ny nz) s c) f

  module _ (same : (c f : ℕ) → c < cube_count (size_of nx ny nz) → f < 6 → DoubtfulAt t (corners_of (size_of nx ny nz) s c) f → decided_by m c f ≡ decided_by n c f) where
    mesh : OneMesh loops_of loops_of (size_of nx ny nz) s (cut_of t m) (cut_of t n)
    mesh = decided_mesh (size_of nx ny nz) s t m n same

    pub decided_calls_counts : (a.counts.vertices ≡ b.counts.vertices) × (a.counts.quads ≡ b.counts.quads)
    decided_calls_counts = (vertices_are a ∙ ap (λ (vs : List Vertex). length vs) mesh.vertices_same ∙ sym (vertices_are b), quads_read_no_noise a b)

    pub decided_calls : (take (2 * a.counts.vertices) a.words_after ≡ take (2 * b.counts.vertices) b.words_after)
        × (take (3 * a.counts.vertices) a.offsets_after ≡ take (3 * b.counts.vertices) b.offsets_after)
        × (take (4 * a.counts.quads) a.quads_after ≡ take (4 * b.counts.quads) b.quads_after)
    decided_calls = (
      words_front a ∙ mesh.words_same ∙ sym (words_front b),
      offsets_front a ∙ mesh.offsets_same ∙ sym (offsets_front b),
      quads_front a ∙ mesh.numbers_same ∙ sym (quads_front b),
    )

  -- so do two calls with any two figures where no face is doubtful
  module _ (none : (c f : ℕ) → c < cube_count (size_of nx ny nz) → f < 6 → ¬ DoubtfulAt t (corners_of (size_of nx ny nz) s c) f) where
    pub sure_calls : (a.counts.vertices ≡ b.counts.vertices)
        × (take (2 * a.counts.vertices) a.words_after ≡ take (2 * b.counts.vertices) b.words_after)
        × (take (3 * a.counts.vertices) a.offsets_after ≡ take (3 * b.counts.vertices) b.offsets_after)
        × (take (4 * a.counts.quads) a.quads_after ≡ take (4 * b.counts.quads) b.quads_after)
    sure_calls =
        let same : (c f : ℕ) → c < cube_count (size_of nx ny nz) → f < 6 → DoubtfulAt t (corners_of (size_of nx ny nz) s c) f → decided_by m c f ≡ decided_by n c f =
        λ c f h l four. absurd (none c f h l four) in
        let left = decided_calls same in ((decided_calls_counts same).0, left.0, left.1, left.2)
