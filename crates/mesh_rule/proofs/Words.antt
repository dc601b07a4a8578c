-- The vertex buffers hold the vertices, cube by cube: the cube number and the word of each, and the three coordinates of its place.
-- Assumes nothing.
use Prim.Native.Nat.{ℕ, zero, suc, ◌+◌, ◌*◌, ◌<◌}
use mathlib.Core.Path.{◌≡◌, refl, ap, ap₂, ◌∙◌}
use mathlib.Core.List.{List, [], ◌∷◌, ◌++◌, map}
use native.Mathlib.Nat.{not-suc-le-zero, le_of_suc-le-suc}
use native.Mathlib.Omega.{arith}
use lib.Ieee.{Float}
use lib.ListN.{length, get_or}
use Rattle.laws.specs.Below.{below}
use Rattle.block.specs.declared.Cut.{Cut}
use Rattle.block.specs.declared.Size.{Size}
use Rattle.block.specs.Numbering.{cube_count}
use Rattle.cube_rule.specs.Decider.{loops_of}
use Rattle.place.specs.declared.Offset.{Offset}
use Rattle.place.specs.Place.{place_of}
use Rattle.cell.specs.Answer.{word_of}
use Rattle.mesh_rule.specs.Grid.{corners_of}
use Rattle.mesh_rule.specs.Mesh.{Vertex, vertices, vertices_before, vertices_of, vertex_of, cube_loops}
use Rattle.mesh_rule.specs.Buffers.{flat_vertices, triples, mesh_words, mesh_offsets}
use Rattle.mesh_rule.specs.Layers.{pairs, cube_words, cube_offsets}

-- ---- a vertex takes two words and three coordinates

pub pairs_length : (c : ℕ) (ws : List ℕ) → length (pairs c ws) ≡ 2 * length ws
pairs_length c [] = refl
pairs_length c (w ∷ ws) = omega (arith, pairs_length c ws)

pub triples_length : (os : List Offset) → length (triples os) ≡ 3 * length os
triples_length [] = refl
triples_length (o ∷ os) = omega (arith, triples_length os)

-- ---- lists made from the vertices, cube by cube

-- what is made of all vertices is made of those of each cube in turn
made_below : {A : Type 0} (made : List Vertex → List A) → made [] ≡ [] → ((p q : List Vertex) → made (p ++ q) ≡ made p ++ made q)
    → (f : ℕ → List Vertex) (g : ℕ → List A) → ((c : ℕ) → made (f c) ≡ g c) → (m : ℕ) → made (below f m) ≡ below g m
unfolding below
made_below made none append f g e zero = none
made_below {A} made none append f g e (suc m) =
    append (below f m) (f m) ∙ ap₂ (λ (x y : List A). x ++ y) (made_below made none append f g e m) (e m)

flat_append : (corners : ℕ → List ℕ) (p q : List Vertex) → flat_vertices corners (p ++ q) ≡ flat_vertices corners p ++ flat_vertices corners q
flat_append corners [] q = refl
flat_append corners (v ∷ p) q = ap (λ (l : List ℕ). v.cube ∷ word_of (corners v.cube) v.mask ∷ l) (flat_append corners p q)

flat_cube : (corners : ℕ → List ℕ) (c : ℕ) (ms : List ℕ)
    → flat_vertices corners (map (λ (m : ℕ). record { cube = c; mask = m }) ms) ≡ pairs c (map (word_of (corners c)) ms)
flat_cube corners c [] = refl
flat_cube corners c (m ∷ ms) = ap (λ (l : List ℕ). c ∷ word_of (corners c) m ∷ l) (flat_cube corners c ms)

-- the coordinates of a place for each vertex
abbrev spread : (ℕ → ℕ → Offset) → List Vertex → List Float
spread f vs = triples (map (λ (v : Vertex). f v.cube v.mask) vs)

spread_append : (f : ℕ → ℕ → Offset) (p q : List Vertex) → spread f (p ++ q) ≡ spread f p ++ spread f q
spread_append f [] q = refl
spread_append f (v ∷ p) q =
    ap (λ (l : List Float). (f v.cube v.mask).x ∷ (f v.cube v.mask).y ∷ (f v.cube v.mask).z ∷ l) (spread_append f p q)

spread_cube : (f : ℕ → ℕ → Offset) (c : ℕ) (ms : List ℕ) → spread f (map (λ (m : ℕ). record { cube = c; mask = m }) ms) ≡ triples (map (f c) ms)
spread_cube f c [] = refl
spread_cube f c (m ∷ ms) = ap (λ (l : List Float). (f c m).x ∷ (f c m).y ∷ (f c m).z ∷ l) (spread_cube f c ms)

-- ---- how long they are, and what stands where

flat_length : (corners : ℕ → List ℕ) (vs : List Vertex) → length (flat_vertices corners vs) ≡ 2 * length vs
flat_length corners [] = refl
flat_length corners (v ∷ vs) = omega (arith, flat_length corners vs)

flat_at : (corners : ℕ → List ℕ) (vs : List Vertex) (v : ℕ) (d : Vertex) → v < length vs
    → (get_or (flat_vertices corners vs) (2 * v) 0 ≡ (get_or vs v d).cube)
    × (get_or (flat_vertices corners vs) (2 * v + 1) 0 ≡ word_of (corners (get_or vs v d).cube) (get_or vs v d).mask)
flat_at corners [] v d h = absurd (not-suc-le-zero h)
flat_at corners (u ∷ vs) zero d h = (refl, refl)
flat_at corners (u ∷ vs) (suc v) d h =
    let even : 2 * suc v ≡ suc (suc (2 * v)) = omega arith in
    let odd : 2 * suc v + 1 ≡ suc (suc (2 * v + 1)) = omega arith in
    rw (odd, even) (flat_at corners vs v d (le_of_suc-le-suc h))

module _ (loops_of : Cut → List ℕ → List ℕ) (n : Size) (s : List ℕ) (cut : Cut) where
  -- the cube number and the word of the vertex v
  pub words_at_lem : (v : ℕ) → v < length (vertices loops_of n s cut)
      → (get_or (mesh_words loops_of n s cut) (2 * v) 0 ≡ (vertex_of loops_of n s cut v).cube)
      × (get_or (mesh_words loops_of n s cut) (2 * v + 1) 0 ≡ word_of (corners_of n s (vertex_of loops_of n s cut v).cube) (vertex_of loops_of n s cut v).mask)
  unfolding mesh_words
  words_at_lem v h = flat_at (corners_of n s) (vertices loops_of n s cut) v (record { cube = 0; mask = 0 }) h

  -- cube by cube
  pub words_by_cube : mesh_words loops_of n s cut ≡ below (cube_words loops_of n s cut) (cube_count n)
  unfolding vertices vertices_before vertices_of cube_words mesh_words
  words_by_cube =
      made_below (flat_vertices (corners_of n s)) refl (flat_append (corners_of n s)) (vertices_of loops_of n s cut) (cube_words loops_of n s cut)
      (λ (c : ℕ). flat_cube (corners_of n s) c (cube_loops loops_of n s cut c)) (cube_count n)

  pub offsets_by_cube : mesh_offsets loops_of n s cut ≡ below (cube_offsets loops_of n s cut) (cube_count n)
  unfolding vertices vertices_before vertices_of cube_offsets mesh_offsets
  offsets_by_cube =
      made_below (spread (λ c m. place_of cut (corners_of n s c) m)) refl (spread_append (λ c m. place_of cut (corners_of n s c) m)) (vertices_of loops_of n s cut) (cube_offsets loops_of n s cut)
      (λ (c : ℕ). spread_cube (λ c m. place_of cut (corners_of n s c) m) c (cube_loops loops_of n s cut c)) (cube_count n)

-- two words for each vertex
pub mesh_words_length : (n : Size) (s : List ℕ) (cut : Cut) → length (mesh_words loops_of n s cut) ≡ 2 * length (vertices loops_of n s cut)
unfolding mesh_words
mesh_words_length n s cut = flat_length (corners_of n s) (vertices loops_of n s cut)
