-- When a mesh from the foundry is ours, in the words of document 02, Twelve: its vertices and ours "match one to one by cube and whole mask word, its quads, renamed
-- so, are ours in some order, each once and possibly begun at another of its four vertices, and each offset is from 0 to 1".
use Rattle.std.specs.Prelude.{ℕ, ◌<◌, ◌≡◌, true, List, Float}
use Rattle.vertex_lists.specs.Rows.{offset_inside}
use Rattle.foundry_rule.specs.Judged.{vertex_total, quad_total, alike, named_quad, as_sent, same_round}

-- f takes the numbers below m to those below n, one to one and onto
pub record OneToOne (f : ℕ → ℕ) (m n : ℕ) : Type 0 where
  pub into : (i : ℕ) → i < m → f i < n
  pub apart : (i k : ℕ) → i < m → k < m → f i ≡ f k → i ≡ k
  pub onto : (j : ℕ) → j < n → (i : ℕ) × (i < m) × (f i ≡ j)

-- vertex v is our vertex `vertex v`, and quad q, renamed so, is our quad `place q`
pub record Matches (our_words our_quads words : List ℕ) (offsets : List Float) (quads : List ℕ) : Type 0 where
  pub vertex : ℕ → ℕ
  pub vertices : OneToOne vertex (vertex_total words) (vertex_total our_words)
  pub cube_and_word : (v : ℕ) → v < vertex_total words → alike words v our_words (vertex v) ≡ true
  pub place : ℕ → ℕ
  pub places : OneToOne place (quad_total quads) (quad_total our_quads)
  pub turned : (q : ℕ) → q < quad_total quads → same_round (named_quad vertex quads q) (named_quad as_sent our_quads (place q)) ≡ true
  pub offsets_in : (v : ℕ) → v < vertex_total words → offset_inside offsets v ≡ true
