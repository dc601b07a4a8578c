-- `quiet` meets its contract: each word of the row is tested.
-- Assumes nothing.
use Rattle.std.proofs.Common.{ℕ, Bool, refl, ◌∙◌, rules, tests, arith}
use Rattle.std.proofs.lemmas.Iterator.{YieldsList-from_range}
use Rattle.std.proofs.lemmas.Iterator.Search.{all_from_yields_List}
use lib.Dec.{eqb}
use Rattle.rows.specs.Quiet.{active_in, words_in_row}
use Rattle.rows.proofs.Quiets.{every_found}
use Rattle.rows.proofs.quiet.Goals as goal

pub returns : goal.returns
returns c =
    let a = c.args in
    let none : ℕ → Bool = λ w. eqb (active_in a.a.now a.b.now a.row.nx a.row.j w) 0 in
    let ws = YieldsList-from_range 0 (words_in_row a.row.nx) (words_in_row a.row.nx) refl (omega arith) in
    all_from_yields_List none _ _ c.all.result c.all.ensures.ran ws (λ x b q k. search (rules, tests)) ∙ every_found none (words_in_row a.row.nx)
