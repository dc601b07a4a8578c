-- The promises fix the answers: any two answers that the promise of a function allows are equal.
-- Assumes nothing.
use Rattle.std.proofs.Common.{◌≡◌, ℕ, ◌≤◌, List, sym, ◌∙◌}
use Rattle.laws.specs.Fixed.{Fixes}
use Rattle.quads.specs.declared.Along.{Along}
use Rattle.quads.specs.Edges.{edge_count}
use Rattle.laws.specs.Put.{Put}

pub count_row_fixed : (along : Along) (a b : List ℕ) (nx j : ℕ) → Fixes (λ (r : ℕ). (r ≡ edge_count along a b nx j) × (r ≤ 256))
count_row_fixed along a b nx j r r' p q = p.0 ∙ sym q.0

-- `write_row`: the buffer at exit, and the answer
pub write_row_fixed : (xs : List ℕ) (from : ℕ) (entry exit exit' : List ℕ) (r r' : ℕ) → Put entry from xs exit r → Put entry from xs exit' r' → (exit ≡ exit') × (r ≡ r')
write_row_fixed xs from entry exit exit' r r' p q = (p.stored ∙ sym q.stored, p.behind ∙ sym q.behind)
