-- The mesh of a block reads the noise figure by the loops of its cubes alone. Where two deciders, or one with two noise figures, give each cube the same loops, they give
-- the same mesh: so without noise it is 01's, and noise figures that decide each doubtful face alike give one mesh.
-- Assumes nothing.
use Prim.Native.Nat.{ℕ, ◌+◌, ◌-◌, ◌≤◌, ◌<◌}
use mathlib.Core.Path.{◌≡◌, refl, ap, ap₂}
use mathlib.Core.Bool.{Bool, true, false, cond, ◌&&◌}
use mathlib.Core.List.{List, [], ◌∷◌, map}
use native.Mathlib.Omega.{arith}
use lib.ListN.{length}
use Rattle.laws.proofs.Below.{below_same}
use Rattle.block.specs.declared.Cut.{Cut}
use Rattle.block.specs.declared.Size.{Size}
use Rattle.block.specs.Grey.{cut_of}
use Rattle.block.specs.Numbering.{Axis, X, Y, Z, cube_number, cube_count, sample_count}
use Rattle.laws.proofs.Index.{index_lt}
use Rattle.cube_rule.specs.Decider.{joined, noiseless, loops_of}
use Rattle.cube_rule.specs.Links.{decisions}
use Rattle.cube_rule.specs.Loops.{loops_by}
use Rattle.cube_rule.specs.Rule.{first_holder}
use Rattle.cube_rule.proofs.Noise.{DoubtfulAt, decided_alike, no_noise_loops}
use Rattle.place.specs.declared.Offset.{Offset}
use Rattle.place.specs.Place.{place_of}
use Rattle.place.proofs.Noise.{place_reads_no_noise}
use Rattle.mesh_rule.specs.Grid.{corners_of, metal, inner, crossed_from}
use Rattle.mesh_rule.specs.Mesh.{Vertex, Quad, turned, flat, vertices_of, vertices_before, vertices, vertex_number, around, quad_at, quads_before, quads}
use Rattle.mesh_rule.specs.Buffers.{flat_vertices, triples, mesh_words, mesh_offsets, mesh_quads}
use Rattle.mesh_rule.proofs.Inner.{Inner, inner_facts, four_cubes, CubeIn}

module _ (f g : Cut → List ℕ → List ℕ) (n : Size) (s : List ℕ) (t a b : ℕ) (alike : (c : ℕ) → c < cube_count n → f (cut_of t a) (corners_of n s c) ≡ g (cut_of t b) (corners_of n s c)) where
  of_alike : (c : ℕ) → c < cube_count n → vertices_of f n s (cut_of t a) c ≡ vertices_of g n s (cut_of t b) c
  unfolding vertices_of
  of_alike c h = ap (map (λ (m : ℕ). record { cube = c; mask = m })) (alike c h)

  before_alike : (c : ℕ) → c ≤ cube_count n → vertices_before f n s (cut_of t a) c ≡ vertices_before g n s (cut_of t b) c
  unfolding vertices_before
  before_alike c h = below_same _ _ c (λ m l. of_alike m (omega arith))

  pub vertices_alike : vertices f n s (cut_of t a) ≡ vertices g n s (cut_of t b)
  unfolding vertices
  vertices_alike = before_alike (cube_count n) (omega arith)

  number_alike : (c e : ℕ) → c < cube_count n → vertex_number f n s (cut_of t a) c e ≡ vertex_number g n s (cut_of t b) c e
  unfolding vertex_number
  number_alike c e h = ap₂ (λ (vs : List Vertex) (ms : List ℕ). length vs + first_holder e ms) (before_alike c (omega arith)) (alike c h)

  in_block : (x y z e : ℕ) → CubeIn n x y z → vertex_number f n s (cut_of t a) (cube_number n x y z) e ≡ vertex_number g n s (cut_of t b) (cube_number n x y z) e
  in_block x y z e h = number_alike (cube_number n x y z) e (index_lt (n.nx - 1) (n.ny - 1) x y z h.0 h.1 (n.nz - 1) h.2)

  around_alike : (ax : Axis) (i j k : ℕ) → Inner n ax i j k → around f n s (cut_of t a) ax i j k ≡ around g n s (cut_of t b) ax i j k
  around_alike X i j k h = let r = (four_cubes n X i j k h).1 in rw (in_block _ _ _ 3 r.0, in_block _ _ _ 2 r.1, in_block _ _ _ 0 r.2, in_block _ _ _ 1 r.3)
  around_alike Y i j k h = let r = (four_cubes n Y i j k h).1 in rw (in_block _ _ _ 7 r.0, in_block _ _ _ 5 r.1, in_block _ _ _ 4 r.2, in_block _ _ _ 6 r.3)
  around_alike Z i j k h = let r = (four_cubes n Z i j k h).1 in rw (in_block _ _ _ 11 r.0, in_block _ _ _ 10 r.1, in_block _ _ _ 8 r.2, in_block _ _ _ 9 r.3)

  quad_alike : (ax : Axis) (i j k : ℕ) → quad_at f n s (cut_of t a) ax i j k ≡ quad_at g n s (cut_of t b) ax i j k
  unfolding quad_at
  quad_alike ax i j k = go (inner n ax i j k) refl
    where
      go : (x : Bool) → inner n ax i j k ≡ x
          → cond (inner n ax i j k && crossed_from n s (cut_of t a) ax i j k) (turned (metal n s (cut_of t a) i j k) (around f n s (cut_of t a) ax i j k) ∷ []) []
          ≡ cond (inner n ax i j k && crossed_from n s (cut_of t b) ax i j k) (turned (metal n s (cut_of t b) i j k) (around g n s (cut_of t b) ax i j k) ∷ []) []
      go true e =
          ap (λ (q : Quad). cond (inner n ax i j k && crossed_from n s (cut_of t b) ax i j k) (turned (metal n s (cut_of t b) i j k) q ∷ []) [])
          (around_alike ax i j k (inner_facts n ax i j k e))
      go false e = rw e

  before_quads_alike : (ax : Axis) (m : ℕ) → quads_before f n s (cut_of t a) ax m ≡ quads_before g n s (cut_of t b) ax m
  unfolding quads_before
  before_quads_alike ax m = below_same _ _ m (λ p l. quad_alike ax _ _ _)

  pub quads_alike : quads f n s (cut_of t a) ≡ quads g n s (cut_of t b)
  unfolding quads
  quads_alike = rw (before_quads_alike X (sample_count n), before_quads_alike Y (sample_count n), before_quads_alike Z (sample_count n))

  -- the three buffers
  pub words_alike : mesh_words f n s (cut_of t a) ≡ mesh_words g n s (cut_of t b)
  unfolding mesh_words
  words_alike = ap (flat_vertices (corners_of n s)) vertices_alike

  pub offsets_alike : mesh_offsets f n s (cut_of t a) ≡ mesh_offsets g n s (cut_of t b)
  unfolding mesh_offsets
  offsets_alike = ap triples (places (vertices f n s (cut_of t a)) (vertices g n s (cut_of t b)) vertices_alike)
    where
      each : (vs : List Vertex) → map (λ (v : Vertex). place_of (cut_of t a) (corners_of n s v.cube) v.mask) vs ≡ map (λ (v : Vertex). place_of (cut_of t b) (corners_of n s v.cube) v.mask) vs
      each [] = refl
      each (v ∷ vs) = ap₂ (λ (o : Offset) (os : List Offset). o ∷ os) (place_reads_no_noise t a b (corners_of n s v.cube) v.mask) (each vs)

      places : (vs ws : List Vertex) → vs ≡ ws
          → map (λ (v : Vertex). place_of (cut_of t a) (corners_of n s v.cube) v.mask) vs ≡ map (λ (v : Vertex). place_of (cut_of t b) (corners_of n s v.cube) v.mask) ws
      places vs ws e = rw e (each ws)

  pub quad_words_alike : mesh_quads f n s (cut_of t a) ≡ mesh_quads g n s (cut_of t b)
  unfolding mesh_quads
  quad_words_alike = ap flat quads_alike

-- two meshes of one block: what the three buffers hold of them
pub record OneMesh (f g : Cut → List ℕ → List ℕ) (n : Size) (s : List ℕ) (cut cut' : Cut) : Type 0 where
  pub vertices_same : vertices f n s cut ≡ vertices g n s cut'
  pub quads_same : quads f n s cut ≡ quads g n s cut'
  pub words_same : mesh_words f n s cut ≡ mesh_words g n s cut'
  pub offsets_same : mesh_offsets f n s cut ≡ mesh_offsets g n s cut'
  pub numbers_same : mesh_quads f n s cut ≡ mesh_quads g n s cut'

one_mesh : (f g : Cut → List ℕ → List ℕ) (n : Size) (s : List ℕ) (t a b : ℕ) → ((c : ℕ) → c < cube_count n → f (cut_of t a) (corners_of n s c) ≡ g (cut_of t b) (corners_of n s c))
    → OneMesh f g n s (cut_of t a) (cut_of t b)
one_mesh f g n s t a b alike = record {
  vertices_same = vertices_alike f g n s t a b alike;
  quads_same = quads_alike f g n s t a b alike;
  words_same = words_alike f g n s t a b alike;
  offsets_same = offsets_alike f g n s t a b alike;
  numbers_same = quad_words_alike f g n s t a b alike;
}

-- with n = 0 the mesh is that of 01's own decider
pub no_noise_mesh : (n : Size) (s : List ℕ) (t : ℕ) → OneMesh loops_of (loops_by noiseless) n s (cut_of t 0) (cut_of t 0)
no_noise_mesh n s t = one_mesh loops_of (loops_by noiseless) n s t 0 0 (λ c h. no_noise_loops t (corners_of n s c))

-- two noise figures that decide each doubtful face of a block alike give it one mesh: nothing else reads them
pub decided_mesh : (n : Size) (s : List ℕ) (t a b : ℕ)
    → ((c f : ℕ) → c < cube_count n → f < 6 → DoubtfulAt t (corners_of n s c) f → decisions joined (cut_of t a) (corners_of n s c) f ≡ decisions joined (cut_of t b) (corners_of n s c) f)
    → OneMesh loops_of loops_of n s (cut_of t a) (cut_of t b)
decided_mesh n s t a b same = one_mesh loops_of loops_of n s t a b (λ c h. decided_alike joined joined t a b (corners_of n s c) (λ f l. same c f h l))

-- so a block no face of whose cubes is doubtful has one mesh under all of them
pub sure_mesh : (n : Size) (s : List ℕ) (t : ℕ) → ((c f : ℕ) → c < cube_count n → f < 6 → ¬ DoubtfulAt t (corners_of n s c) f) → (a b : ℕ) → OneMesh loops_of loops_of n s (cut_of t a) (cut_of t b)
sure_mesh n s t none a b = decided_mesh n s t a b (λ c f h l four. absurd (none c f h l four))
