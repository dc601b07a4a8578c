-- What the theorems on a foreign mesh ask of the lists: no vertex and no quad of ours is there twice, and a quad's numbers are numbers of vertices. These are
-- hypotheses there: on our mesh the first is a theorem (`words_distinct`, `our_quads_distinct`), and row 14 gives the second.
-- Assumes nothing.
use Rattle.std.specs.Prelude.{ℕ, ◌<◌, ◌≡◌, true, List}
use Rattle.lists.specs.Rows.{quad_below}
use Rattle.foundry_rule.specs.Judged.{vertex_total, quad_total, alike, named_quad, as_sent, same_round}

-- no two of our vertices have the same cube and word, and no two of our quads are the same round
pub record Distinct (our_words our_quads : List ℕ) : Type 0 where
  pub vertices : (u v : ℕ) → u < vertex_total our_words → v < vertex_total our_words → alike our_words u our_words v ≡ true → u ≡ v
  pub quads : (p q : ℕ) → p < quad_total our_quads → q < quad_total our_quads
      → same_round (named_quad as_sent our_quads p) (named_quad as_sent our_quads q) ≡ true → p ≡ q

-- each quad has only numbers below the vertex count
abbrev pub QuadsBelow : ℕ → List ℕ → Type 0
QuadsBelow count quads = (q : ℕ) → q < quad_total quads → quad_below count quads q ≡ true
