-- The cubes on the bench, all nine as a single table, and those with a noise figure as another.
-- Assumes nothing.
use mathlib.Core.Path.{◌≡◌, refl}
use lib.Count.{count_trailing_zeros}
use Rattle.cube_rule.specs.Edges.{crossed_mask, pattern_of}
use Rattle.cube_rule.specs.Decider.{joined}
use Rattle.cube_rule.specs.Loops.{loops_by}
use Rattle.cube_rule.specs.Bench.{found, expected, noisy_found, noisy_expected}

pub bench : found ≡ expected
unfolding loops_by joined crossed_mask pattern_of count_trailing_zeros
bench = refl

pub noisy_bench : noisy_found ≡ noisy_expected
unfolding loops_by joined crossed_mask pattern_of count_trailing_zeros
noisy_bench = refl
