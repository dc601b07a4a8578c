-- What the lent buffers hold of a mesh (document 01, "The mesh"): "A vertex takes two u32 (cube number, mask) in one buffer and three f64 in
-- another", four u32 a quad. The second u32 is the vertex's word: the mask with the mark (document 02, One).
use Rattle.std.specs.Prelude.{ℕ, List, [], ◌∷◌, map, Float}
use Rattle.block.specs.declared.Cut.{Cut}
use Rattle.block.specs.declared.Size.{Size}
use Rattle.place.specs.declared.Offset.{Offset}
use Rattle.place.specs.Place.{place_of}
use Rattle.cell.specs.Answer.{word_of}
use Rattle.mesh_rule.specs.Grid.{corners_of}
use Rattle.mesh_rule.specs.Mesh.{Vertex, vertices, quads, flat}

-- cube number and word of each vertex, by the corners of a cube; and the three coordinates of each offset
abbrev pub flat_vertices : (ℕ → List ℕ) → List Vertex → List ℕ
flat_vertices corners [] = []
flat_vertices corners (v ∷ vs) = v.cube ∷ word_of (corners v.cube) v.mask ∷ flat_vertices corners vs

abbrev pub triples : List Offset → List Float
triples [] = []
triples (o ∷ os) = o.x ∷ o.y ∷ o.z ∷ triples os

module _ (loops_of : Cut → List ℕ → List ℕ) (n : Size) (s : List ℕ) (cut : Cut) where
  unfoldable pub mesh_words : List ℕ
  mesh_words = flat_vertices (corners_of n s) (vertices loops_of n s cut)

  unfoldable pub mesh_offsets : List Float
  mesh_offsets = triples (map (λ (v : Vertex). place_of cut (corners_of n s v.cube) v.mask) (vertices loops_of n s cut))

  unfoldable pub mesh_quads : List ℕ
  mesh_quads = flat (quads loops_of n s cut)
