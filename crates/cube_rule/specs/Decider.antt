-- The asymptotic decider (document 01, "Faces, loops and places") with the noise figure (document 02, Eleven): "The differences are signed and the comparison is
-- exact."
use Rattle.std.specs.Prelude.{ℕ, ◌+◌, ◌-◌, cond, List, ℤ, pos, ◌+ℤ◌, ◌-ℤ◌, ◌*ℤ◌}
use Rattle.std.specs.Int.Signed.{le_z}
use Rattle.block.specs.declared.Cut.{Cut}
use Rattle.block.specs.Grey.{positive}
use Rattle.cube_rule.specs.Links.{Decider}
use Rattle.cube_rule.specs.Loops.{loops_by}

-- sample minus t
abbrev pub difference_of : Cut → ℕ → ℤ
difference_of cut s = pos s -ℤ pos cut.t

-- p, q, r, s are the samples round a face with four crossed edges, so p and r have one sign, q and s the other.
-- "The positive corners are joined if A·C is at least B·D plus n", A and C at the positive corners, B and D at the negative ones.
unfoldable pub joined : Decider
joined cut p q r s =
    cond (positive cut p)
    (le_z (difference_of cut q *ℤ difference_of cut s +ℤ pos cut.noise) (difference_of cut p *ℤ difference_of cut r))
    (le_z (difference_of cut p *ℤ difference_of cut r +ℤ pos cut.noise) (difference_of cut q *ℤ difference_of cut s))

-- 01's own sentence, without a noise figure: "The positive corners are joined if A·C is at least B·D". With n = 0 it is `joined` (`no_noise`).
unfoldable pub noiseless : Decider
noiseless cut p q r s =
    cond (positive cut p)
    (le_z (difference_of cut q *ℤ difference_of cut s) (difference_of cut p *ℤ difference_of cut r))
    (le_z (difference_of cut p *ℤ difference_of cut r) (difference_of cut q *ℤ difference_of cut s))

-- "The divisor of the decider's saddle, A+C−B−D": the sum of the positive corners less that of the negative ones
abbrev pub divisor : Cut → ℕ → ℕ → ℕ → ℕ → ℕ
divisor cut p q r s = cond (positive cut p) ((p + r) - (q + s)) ((q + s) - (p + r))

-- the loops of a cube, as 01 has them, with its doubtful faces decided by `joined`
abbrev pub loops_of : Cut → List ℕ → List ℕ
loops_of cut corners = loops_by joined cut corners
