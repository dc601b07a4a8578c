-- A mesh from the foundry beside ours (document 02, Twelve): when a vertex or a quad of it is at fault, and what is found. A mesh is given by its lists: vertex v has
-- words 2·v, the number of its cube, and 2·v + 1, its whole word, and offsets 3·v to 3·v + 2. Quad q has the four vertex numbers from 4·q on.
use Rattle.std.specs.Prelude.{ℕ, ◌+◌, ◌*◌, ◌/◌, Bool, ◌&&◌, ◌||◌, List, Float, length, get_or}
use Rattle.std.proofs.Math.Bool.{cond, not}
use Rattle.std.proofs.Math.Dec.{eqb, ltb}
use Rattle.laws.specs.Leading.{leading}
use Rattle.mesh_rule.specs.Mesh.{Quad, quad}
use Rattle.vertex_lists.specs.Rows.{offset_inside}

-- the first number below n that passes the test, n where none does; and whether one does
abbrev pub first_passing : (ℕ → Bool) → ℕ → ℕ
first_passing f n = leading (λ (i : ℕ). not (f i)) n

abbrev pub is_some : (ℕ → Bool) → ℕ → Bool
is_some f n = ltb (first_passing f n) n

-- how many vertices the words are of, and how many quads a list has
abbrev pub vertex_total : List ℕ → ℕ
vertex_total words = length words / 2

abbrev pub quad_total : List ℕ → ℕ
quad_total quads = length quads / 4

-- vertex v of one list and vertex u of another have the same "cube and whole mask word"
abbrev pub alike : List ℕ → ℕ → List ℕ → ℕ → Bool
alike words v others u = eqb (get_or words (2 * v) 0) (get_or others (2 * u) 0) && eqb (get_or words (2 * v + 1) 0) (get_or others (2 * u + 1) 0)

-- quad q of a list, with each number renamed
abbrev pub named_quad : (ℕ → ℕ) → List ℕ → ℕ → Quad
named_quad name quads q =
    quad (name (get_or quads (4 * q) 0)) (name (get_or quads (4 * q + 1) 0)) (name (get_or quads (4 * q + 2) 0)) (name (get_or quads (4 * q + 3) 0))

abbrev pub as_sent : ℕ → ℕ
as_sent v = v

-- a quad begun at its next vertex
abbrev pub begun_next : Quad → Quad
begun_next q = quad q.v1 q.v2 q.v3 q.v0

abbrev pub same_quad : Quad → Quad → Bool
same_quad p q = eqb p.v0 q.v0 && eqb p.v1 q.v1 && eqb p.v2 q.v2 && eqb p.v3 q.v3

-- the same quad, "possibly begun at another of its four vertices"
abbrev pub same_round : Quad → Quad → Bool
same_round p q = same_quad p q || same_quad (begun_next p) q || same_quad (begun_next (begun_next p)) q || same_quad (begun_next (begun_next (begun_next p))) q

-- what is found: the meshes are the same, or "a no names the first vertex at fault, else the first quad at fault, else that some are missing"
pub data Comparison : Type 0 where
  same : Comparison
  vertex_at_fault : ℕ → Comparison
  quad_at_fault : ℕ → Comparison
  some_missing : Comparison

module _ (our_words our_quads words : List ℕ) (offsets : List Float) (quads : List ℕ) where
  -- the number of the vertex of ours that has the cube and the word of vertex v; how many we have, where none has them
  unfoldable pub own_number : ℕ → ℕ
  own_number v = first_passing (alike words v our_words) (vertex_total our_words)

  -- not at fault: "a vertex is at fault if no vertex of ours has its cube and word, an earlier one has both, or its offset is bad"
  unfoldable pub sound_vertex : ℕ → Bool
  unfolding own_number
  sound_vertex v = ltb (own_number v) (vertex_total our_words) && not (is_some (alike words v words) v) && offset_inside offsets v

  -- not at fault: "a quad, if it is none of ours or repeats an earlier one"
  unfoldable pub our_quad : ℕ → Bool
  unfolding own_number
  our_quad q = is_some (λ (p : ℕ). same_round (named_quad own_number quads q) (named_quad as_sent our_quads p)) (quad_total our_quads)

  unfoldable pub sound_quad : ℕ → Bool
  unfolding our_quad
  sound_quad q = our_quad q && not (is_some (λ (p : ℕ). same_round (named_quad as_sent quads q) (named_quad as_sent quads p)) q)

  unfoldable pub compared : Comparison
  unfolding sound_vertex sound_quad
  compared =
      let v = leading sound_vertex (vertex_total words) in
      let q = leading sound_quad (quad_total quads) in
      cond (ltb v (vertex_total words)) (vertex_at_fault v)
      (cond (ltb q (quad_total quads)) (quad_at_fault q)
      (cond (eqb (vertex_total words) (vertex_total our_words) && eqb (quad_total quads) (quad_total our_quads)) same some_missing))
