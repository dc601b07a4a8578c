-- `check_spacing` meets its contract: the first spacing that is bad decides.
-- Assumes nothing.
use mathlib.Core.Path.{◌≡◌, sym, ap, ◌∙◌}
use mathlib.Core.Bool.{Bool, not}
use Rattle.block.proofs.Lowest.{first_of_three, second_of_three, third_of_three, none_of_three}
use Rattle.ply.specs.Rows.{bad_spacing}
use Rattle.ply.proofs.check_spacing.Goals as goal

-- a test that answered b of a good spacing says the other of a bad one
turned : {r good b : Bool} → r ≡ good → r ≡ b → not good ≡ not b
turned e f = ap not (sym e ∙ f)

pub returns-then-not-is_good : goal.returns-then-not-is_good
returns-then-not-is_good c = c.refuse.ensures ∙ sym (first_of_three 13 bad_spacing _ _ _ (turned c.is_good.ensures c.if-not-is_good.true))

pub returns-then-not-is_good-2 : goal.returns-then-not-is_good-2
returns-then-not-is_good-2 c =
    c.refuse-then-not-is_good-2.ensures
    ∙ sym (second_of_three 13 bad_spacing _ _ _ (turned c.is_good.ensures c.if-not-is_good.false) (turned c.is_good-2.ensures c.if-not-is_good-2.true))

pub returns-then-not-is_good-3 : goal.returns-then-not-is_good-3
returns-then-not-is_good-3 c =
    c.refuse-then-not-is_good-3.ensures
    ∙ sym (third_of_three 13 bad_spacing _ _ _ (turned c.is_good.ensures c.if-not-is_good.false) (turned c.is_good-2.ensures c.if-not-is_good-2.false)
    (turned c.is_good-3.ensures c.if-not-is_good-3.true))

pub returns : goal.returns
returns c =
    sym (none_of_three 13 bad_spacing _ _ _ (turned c.is_good.ensures c.if-not-is_good.false) (turned c.is_good-2.ensures c.if-not-is_good-2.false)
    (turned c.is_good-3.ensures c.if-not-is_good-3.false))
