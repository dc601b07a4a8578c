-- `fault` meets its contract: each return is one case of the first wrong byte.
-- Assumes nothing.
use mathlib.Core.Path.{refl, ◌∙◌}
use native.Mathlib.Omega.{arith}
use Rattle.reading.proofs.Faults.{by_missing, row_of_lem, by_early}
use Rattle.reading.specs.Faults.{line_column}
use Rattle.reading.proofs.fault.Goals as goal

pub returns-then-column-eq0 : goal.returns-then-column-eq0
returns-then-column-eq0 c =
    let a = c.args in
    let by = by_missing a.n a.column _ c.if-b-eq-ENDED.true c.if-column-eq0.true in
    c.refuse.ensures ∙ row_of_lem a.line 8 a.line by refl (omega arith) (omega arith) (omega (arith, c.requires.0, c.requires.1))

pub returns-then-b-eq-LF : goal.returns-then-b-eq-LF
returns-then-b-eq-LF c =
    let a = c.args in
    let by = by_early a.n a.column _ c.if-b-eq-ENDED.false c.if-b-eq-LF.true in
    c.refuse-then-b-eq-LF.ensures ∙ row_of_lem a.line 10 (line_column a.line a.column) by refl (omega arith) (omega arith) (omega (arith, c.requires.0, c.requires.1))
