-- What the lent buffers hold of a mesh row by row and layer by layer, for the passes that write them. Layer k has the cubes (i,j,k), plane k the
-- samples (i,j,k). Assumes nothing.
use Rattle.std.specs.Prelude.{ℕ, ◌+◌, ◌*◌, ◌-◌, List, [], ◌∷◌, ◌++◌, map, length, Float}
use Rattle.laws.specs.Below.{below}
use Rattle.block.specs.declared.Cut.{Cut}
use Rattle.block.specs.declared.Size.{Size}
use Rattle.block.specs.Numbering.{Axis, X, Y, Z, cube_number, at_sample}
use Rattle.place.specs.Place.{place_of}
use Rattle.cell.specs.Answer.{word_of}
use Rattle.mesh_rule.specs.Grid.{corners_of}
use Rattle.mesh_rule.specs.Mesh.{cube_loops, vertices_before, vertex_number, quad_at, flat}
use Rattle.mesh_rule.specs.Buffers.{triples}

-- how many cubes a layer has, and how many samples a plane
abbrev pub layer_size : Size → ℕ
layer_size n = (n.nx - 1) * (n.ny - 1)

abbrev pub plane_size : Size → ℕ
plane_size n = n.nx * n.ny

-- the number of the cube (0,y,z), and the index of the sample (0,y,z)
abbrev pub row_cube : ℕ → ℕ → ℕ → ℕ → ℕ
row_cube nx ny y z = (nx - 1) * (y + (ny - 1) * z)

abbrev pub row_sample : ℕ → ℕ → ℕ → ℕ → ℕ
row_sample nx ny y z = nx * (y + ny * z)

-- a cube number before each word
abbrev pub pairs : ℕ → List ℕ → List ℕ
pairs c [] = []
pairs c (w ∷ ws) = c ∷ w ∷ pairs c ws

module _ (loops_of : Cut → List ℕ → List ℕ) (n : Size) (s : List ℕ) (cut : Cut) where
  -- the number of the vertex of the cube (i,j,k) whose mask holds the edge e
  abbrev pub vertex_at : ℕ → ℕ → ℕ → ℕ → ℕ
  vertex_at i j k e = vertex_number loops_of n s cut (cube_number n i j k) e

  -- of the cube c
  unfoldable pub cube_words : ℕ → List ℕ
  cube_words c = pairs c (map (word_of (corners_of n s c)) (cube_loops loops_of n s cut c))

  unfoldable pub cube_offsets : ℕ → List Float
  cube_offsets c = triples (map (place_of cut (corners_of n s c)) (cube_loops loops_of n s cut c))

  -- of the m cubes from c on
  abbrev pub run_masks : ℕ → ℕ → List ℕ
  run_masks c m = below (λ (x : ℕ). cube_loops loops_of n s cut (c + x)) m

  abbrev pub run_words : ℕ → ℕ → List ℕ
  run_words c m = below (λ (x : ℕ). cube_words (c + x)) m

  abbrev pub run_offsets : ℕ → ℕ → List Float
  run_offsets c m = below (λ (x : ℕ). cube_offsets (c + x)) m

  -- of the layer k: its words and offsets, how many vertices it has, and the number of its first vertex
  abbrev pub layer_words : ℕ → List ℕ
  layer_words k = run_words (layer_size n * k) (layer_size n)

  abbrev pub layer_offsets : ℕ → List Float
  layer_offsets k = run_offsets (layer_size n * k) (layer_size n)

  abbrev pub layer_count : ℕ → ℕ
  layer_count k = length (run_masks (layer_size n * k) (layer_size n))

  abbrev pub layer_first : ℕ → ℕ
  layer_first k = length (vertices_before loops_of n s cut (layer_size n * k))

  -- what the quad buffer holds of the edges along an axis whose lower samples are the m from index p on, and of those on the plane k
  abbrev pub quads_from : Axis → ℕ → List ℕ
  quads_from a p = flat (at_sample n (quad_at loops_of n s cut a) p)

  abbrev pub run_quads : Axis → ℕ → ℕ → List ℕ
  run_quads a p m = below (λ (x : ℕ). quads_from a (p + x)) m

  abbrev pub plane_quads : Axis → ℕ → List ℕ
  plane_quads a k = run_quads a (plane_size n * k) (plane_size n)

  -- and along all three axes, x before y before z
  abbrev pub layer_quads : ℕ → List ℕ
  layer_quads k = plane_quads X k ++ plane_quads Y k ++ plane_quads Z k
