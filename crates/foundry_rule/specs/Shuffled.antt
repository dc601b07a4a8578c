-- A mesh made of ours: the same vertices in any order, and the same quads in any order, with the vertices' numbers there, each begun at any of its four vertices.
use Rattle.std.specs.Prelude.{ℕ, ◌+◌, ◌*◌, ◌<◌, ◌≡◌, true, List, get_or}
use Rattle.foundry_rule.specs.Judged.{vertex_total, quad_total, named_quad, as_sent, same_round}
use Rattle.foundry_rule.specs.Matches.{OneToOne}

-- our vertex u goes to vertex `vertex_at u`, and our quad p to quad `quad_at p`
pub record Shuffled (our_words our_quads words quads : List ℕ) : Type 0 where
  pub vertex_at : ℕ → ℕ
  pub vertices : OneToOne vertex_at (vertex_total our_words) (vertex_total words)
  pub cube : (u : ℕ) → u < vertex_total our_words → get_or words (2 * vertex_at u) 0 ≡ get_or our_words (2 * u) 0
  pub word : (u : ℕ) → u < vertex_total our_words → get_or words (2 * vertex_at u + 1) 0 ≡ get_or our_words (2 * u + 1) 0
  pub quad_at : ℕ → ℕ
  pub places : OneToOne quad_at (quad_total our_quads) (quad_total quads)
  pub numbers : (p : ℕ) → p < quad_total our_quads → same_round (named_quad as_sent quads (quad_at p)) (named_quad vertex_at our_quads p) ≡ true
