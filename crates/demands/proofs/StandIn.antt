-- Demand 3, from two answers of `mesh`: what the buffers hold of two meshes of one size, the cube of every vertex and the quads, tells the sign of
-- every sample off the box's twelve edges.
use Prim.Native.Nat.{ℕ, ◌*◌, ◌≤◌, ◌<◌}
use mathlib.Core.Path.{◌≡◌, refl, sym, ap, ◌∙◌}
use mathlib.Core.Logic.{◌⊎◌, inl, inr}
use mathlib.Core.List.{List, [], ◌∷◌}
use native.Mathlib.Omega.{arith}
use lib.ListN.{length, get_or-eq_default}
use lib.Seq.{ext_get_or}
use Rattle.laws.proofs.Tests.{lt_or_ge}
use Rattle.block.specs.declared.Cut.{Cut}
use Rattle.block.specs.declared.Size.{Size}
use Rattle.block.specs.Size.{size_of}
use Rattle.cube_rule.specs.Decider.{joined, loops_of}
use Rattle.cube_rule.proofs.Laws.{cube_laws}
use Rattle.mesh_rule.specs.Grid.{metal, OffEdges, AtLeastThree}
use Rattle.mesh_rule.specs.Mesh.{Vertex, Quad, flat, vertices, vertex_of, quads}
use Rattle.mesh_rule.proofs.StandIn.{demand3, demand3_alike}
use Rattle.mesh_rule.proofs.Words.{words_at_lem}
use Rattle.mesh_rule.proofs.Quads.{flat_length}
use Rattle.demands.specs.Answers.{MeshCall, SameMesh}
use Rattle.demands.proofs.TheMesh.{mesh_given, quads_are, word_at, number_at_lem}

-- ---- the two sentences of demand 3

module _ {nx ny nz : ℕ} {s : List ℕ} {cut : Cut} (three : AtLeastThree (size_of nx ny nz)) (a : MeshCall nx ny nz s cut) where
  abbrev size : Size
  size = size_of nx ny nz

  -- no quad: the samples off the twelve edges are all alike
  pub no_quad_alike : a.counts.quads ≡ 0 → (i j k i' j' k' : ℕ) → OffEdges size i j k → OffEdges size i' j' k'
      → metal size s cut i j k ≡ metal size s cut i' j' k'
  no_quad_alike none = demand3_alike loops_of size three s cut (empty (quads loops_of size s cut) (sym (quads_are a) ∙ none))
    where
      empty : (qs : List Quad) → length qs ≡ 0 → qs ≡ []
      empty [] l = refl
      empty (x ∷ qs) l = absurd (omega (arith, l))

  -- the same cube for every vertex and the same quads, at least one: each of these samples is metal in both or hollow in both
  pub same_mesh_alike : {s' : List ℕ} {cut' : Cut} (b : MeshCall nx ny nz s' cut') → SameMesh a b → 0 < a.counts.quads
      → (i j k : ℕ) → OffEdges size i j k → metal size s cut i j k ≡ metal size s' cut' i j k
  same_mesh_alike {s'} {cut'} b same some =
      demand3 (cube_laws joined) size three s cut s' cut'
      (λ v. cubes v (lt_or_ge v a.counts.vertices))
      (ext_get_or 0 (flat (quads loops_of size s cut)) (flat (quads loops_of size s' cut'))
      (omega (
        arith,
        flat_length (quads loops_of size s cut),
        flat_length (quads loops_of size s' cut'),
        quads_are a,
        quads_are b,
        same.quads,
      ))
      (λ k h.
      let l : k < 4 * a.counts.quads = omega (arith, h, flat_length (quads loops_of size s cut), quads_are a) in
      sym (number_at_lem a k l) ∙ same.numbers k l ∙ number_at_lem b k (omega (arith, same.quads))))
      (omega (arith, some, quads_are a))
    where
      -- the cube of vertex v stands at place 2v of the words
      cubes : (v : ℕ) → (v < a.counts.vertices) ⊎ (a.counts.vertices ≤ v)
          → (vertex_of loops_of size s cut v).cube ≡ (vertex_of loops_of size s' cut' v).cube
      cubes v (inl l) =
          sym (words_at_lem loops_of size s cut v (omega (arith, l, (mesh_given a).vertex_count_lem))).0
          ∙ sym (word_at a (2 * v) (omega arith)) ∙ same.cubes v l ∙ word_at b (2 * v) (omega (arith, same.vertices))
          ∙ (words_at_lem loops_of size s' cut' v (omega (arith, l, same.vertices, (mesh_given b).vertex_count_lem))).0
      cubes v (inr g) =
          ap (λ (x : Vertex). x.cube) (get_or-eq_default (vertices loops_of size s cut) (record { cube = 0; mask = 0 }) {n = v} (omega (arith, g, (mesh_given a).vertex_count_lem)))
          ∙ sym (ap (λ (x : Vertex). x.cube) (get_or-eq_default (vertices loops_of size s' cut') (record { cube = 0; mask = 0 }) {n = v} (omega (arith, g, same.vertices, (mesh_given b).vertex_count_lem))))
