-- `cube::pattern` meets its contract. The loop's invariant: `p` is the mask of the positive corners below `c`.
-- Assumes nothing.
use Rattle.std.proofs.Common.{◌≡◌, ℕ, Bool, List}
use Rattle.laws.specs.Bits.{mask_of}
use Rattle.block.specs.declared.Cut.{Cut}
use Rattle.block.specs.Grey.{positive}
use Rattle.cube_rule.specs.Edges.{corner_sample}
use Rattle.cube.proofs.pattern.Given as goal

abbrev pub signs : Cut → List ℕ → ℕ → Bool
signs cut corners c = positive cut (corner_sample corners c)

abbrev pub invariant-loop-c : goal.invariant-loop-c
invariant-loop-c l = l.p ≡ mask_of (signs l.cut l.fn.corners) l.c
