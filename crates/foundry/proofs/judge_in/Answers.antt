-- `judge_in` meets its contract: a refusal, or what is found.
-- Assumes nothing.
use mathlib.Core.Path.{sym, ◌∙◌}
use Rattle.block.proofs.Order.{judged_refused}
use Rattle.foundry.proofs.Rows.{sent_sampled, sent_shaped, sent_below, judged_accepts}
use Rattle.foundry.proofs.judge_in.Goals as goal

pub returns-in-Refuses : goal.returns-in-Refuses
returns-in-Refuses c = judged_refused _ _ _ (sym c.check-checked.ensures ∙ c.in-Refuses.is)

pub compare-requires-clause-sampled : goal.compare-requires-clause-sampled
compare-requires-clause-sampled c =
    let a = c.args in
    sent_sampled a.size a.samples.now a.cut a.words.now a.offsets.now a.quads.now (sym c.check-checked.ensures ∙ c.in_default.is) c.requires

pub compare-requires-clause-shaped : goal.compare-requires-clause-shaped
compare-requires-clause-shaped c =
    let a = c.args in
    sent_shaped a.size a.samples.now a.cut a.words.now a.offsets.now a.quads.now (sym c.check-checked.ensures ∙ c.in_default.is)

pub compare-requires-clause-quads_below : goal.compare-requires-clause-quads_below
compare-requires-clause-quads_below c =
    let a = c.args in
    sent_below a.size a.samples.now a.cut a.words.now a.offsets.now a.quads.now (sym c.check-checked.ensures ∙ c.in_default.is)

pub returns : goal.returns
returns c = c.compare.ensures ∙ judged_accepts _ _ (sym c.check-checked.ensures ∙ c.in_default.is)
