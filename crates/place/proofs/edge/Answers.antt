-- `edge` meets its contract: each return is one of the cases of what an edge answers, by the tests that led there.
-- Assumes nothing.
use mathlib.Core.Path.{◌≡◌, refl, sym, ◌∙◌, ap}
use mathlib.Core.Bool.{false}
use mathlib.Core.List.{[], ◌∷◌}
use lib.Ieee.{Float}
use Rattle.block.specs.Answer.{accepted}
use Rattle.block.specs.Grey.{cut_of, no_threshold}
use Rattle.place.proofs.Answers.{bad_zero, bad_ceiling, good_threshold, edge_answers_threshold, edge_answers_fraction, edge_answers_nothing}
use Rattle.place.proofs.edge.Goals as goal

pub returns-then-t-eq0 : goal.returns-then-t-eq0
returns-then-t-eq0 c =
    let a = c.args in
    c.refuse.ensures ∙ sym (edge_answers_threshold a.p a.q a.t (bad_zero a.t c.if-t-eq0.true))

pub returns-then-t-eq65535 : goal.returns-then-t-eq65535
returns-then-t-eq65535 c =
    let a = c.args in
    c.refuse-then-t-eq65535.ensures ∙ sym (edge_answers_threshold a.p a.q a.t (bad_ceiling a.t c.if-t-eq65535.true))

pub returns-then-lower_sign-upper_sign : goal.returns-then-lower_sign-upper_sign
returns-then-lower_sign-upper_sign c =
    let good : no_threshold (cut_of c.args.t 0) ≡ false = good_threshold c.args.t c.if-t-eq0.false c.if-t-eq65535.false in
    let a = c.args in
    sym (edge_answers_nothing a.p a.q a.t good (rw (← c.is_positive-lower_sign.ensures, ← c.is_positive-upper_sign.ensures, c.if-lower_sign-upper_sign.true) refl))

pub returns : goal.returns
returns c =
    let good : no_threshold (cut_of c.args.t 0) ≡ false = good_threshold c.args.t c.if-t-eq0.false c.if-t-eq65535.false in
    let a = c.args in
    ap (λ (f : Float). accepted (f ∷ [])) c.fraction_of.ensures
    ∙ sym (edge_answers_fraction a.p a.q a.t good (rw (← c.is_positive-lower_sign.ensures, ← c.is_positive-upper_sign.ensures, c.if-lower_sign-upper_sign.false) refl))
