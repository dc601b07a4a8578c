-- `cube::round` meets its contract.
-- Assumes nothing.
use Rattle.std.proofs.Common.{◌≡◌, ℕ, List, [], ◌∷◌, refl, ◌∙◌, rules}
use Rattle.std.specs.Prelude.{fold}
use Rattle.cube_rule.specs.Loops.{grow, join}
use Rattle.cube.proofs.round.Goals as goal

-- a round is a fold
folded : (m : ℕ) (ls : List ℕ) → fold join m ls ≡ grow m ls
unfolding grow
folded m [] = refl
folded m (l ∷ ls) = folded (join m l) ls

pub returns : goal.returns
returns c = let e : c.fold.result ≡ fold join c.args.m c.args.links = search rules in e ∙ folded _ _
