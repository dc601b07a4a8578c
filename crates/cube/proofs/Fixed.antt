-- Each promise of the crate fixes its answer: any two answers that it allows are equal.
-- Assumes nothing.
use mathlib.Core.Path.{◌≡◌}
use mathlib.Core.Bool.{Bool}
use mathlib.Core.List.{List}
use Prim.Native.Nat.{ℕ, ◌≤◌, ◌<◌}
use Rattle.laws.specs.Fixed.{Fixes}
use Rattle.laws.proofs.Fixed.{equation_fixes}
use Rattle.block.specs.declared.Cut.{Cut}
use Rattle.cube_rule.specs.Edges.{pattern_of, crossed_mask}
use Rattle.cube_rule.specs.Decider.{joined}
use Rattle.cube.specs.declared.Loops.{Loops}
use Rattle.cube.specs.Answer.{loops_given}

-- of `crossed_edges`
pub crossed_edges_fixed : (p : ℕ) → p < 256 → Fixes (λ (r : ℕ). (r ≡ crossed_mask p) × (r < 4096))
crossed_edges_fixed p h a b x y = equation_fixes (crossed_mask p) a b x.0 y.0

-- of `crossed_in`
pub crossed_in_fixed : (corners : List ℕ) (cut : Cut) → Fixes (λ (r : ℕ). r ≡ crossed_mask (pattern_of cut corners))
crossed_in_fixed corners cut = equation_fixes (crossed_mask (pattern_of cut corners))

-- of `decide`
pub decide_fixed : (cut : Cut) (p q r s : ℕ) → Fixes (λ (j : Bool). j ≡ joined cut p q r s)
decide_fixed cut p q r s = equation_fixes (joined cut p q r s)

-- of `loops_of`
pub loops_fixed : (corners : List ℕ) (cut : Cut) → Fixes (λ (r : Loops). (r ≡ loops_given cut corners) × (r.count ≤ 4))
loops_fixed corners cut a b p q = equation_fixes (loops_given cut corners) a b p.0 q.0
