-- `three_ones` meets its contract: the ones are those of the sums and twice those of the carries.
-- Assumes nothing.
use native.Mathlib.Omega.{arith}
use borrow.Author.Rules.{rules}
use Rattle.room.proofs.Three.{three_words}
use Rattle.room.proofs.three_ones.Goals as goal

pub returns-clause-value : goal.returns-clause-value
returns-clause-value c =
    let a = c.args in
    let h = three_words a.x a.y a.z (search rules) (search rules) (search rules) in
    let s = c.ones_of-sums.ensures in
    let t = c.ones_of-carries.ensures in omega (arith, h, s, t)
