-- The numbers of a quad of a list are numbers of vertices.
-- Assumes nothing.
use Rattle.std.proofs.Common.{ℕ, ◌+◌, ◌*◌, ◌<◌, List, get_or, arith}
use Rattle.std.proofs.lemmas.Grind.{common_steps}
use Rattle.foundry_rule.specs.Distinct.{QuadsBelow}
use Rattle.foundry_rule.specs.Judged.{quad_total}

-- each is below the count
pub number_below : (count : ℕ) (quads : List ℕ) (q : ℕ) → QuadsBelow count quads → q < quad_total quads → (j : ℕ) → j < 4 → get_or quads (4 * q + j) 0 < count
number_below count quads q b h j l = let e = b q h in grind (arith, common_steps)
