-- `run` meets its promise: a row refuses, or the block is answered.
-- Assumes nothing.
use mathlib.Core.Path.{sym, ◌∙◌}
use Rattle.lines.proofs.Outputs.{output_refused, output_block, readable, ran}
use borrow.Author.Rules.{rules}
use Rattle.lines.proofs.run.Goals as goal

pub answer-requires-clause-readable : goal.answer-requires-clause-readable
answer-requires-clause-readable c =
    let input = c.args.input.now in readable input _ _ _ _ c.number-nx.ensures c.number-ny.ensures c.number-nz.ensures c.number-t.ensures
    (sym c.check.ensures ∙ c.in-Passes.is)

pub returns-in-Refuses-clause-ran : goal.returns-in-Refuses-clause-ran
returns-in-Refuses-clause-ran c =
    let input = c.args.input.now in (ran input (search rules) c.put_refusal.ensures (output_refused input _ _ _ _ c.number-nx.ensures c.number-ny.ensures c.number-nz.ensures c.number-t.ensures _ (sym c.check.ensures ∙ c.in-Refuses.is))).0

pub returns-in-Refuses-clause-upper_bound : goal.returns-in-Refuses-clause-upper_bound
returns-in-Refuses-clause-upper_bound c =
    let input = c.args.input.now in (ran input (search rules) c.put_refusal.ensures (output_refused input _ _ _ _ c.number-nx.ensures c.number-ny.ensures c.number-nz.ensures c.number-t.ensures _ (sym c.check.ensures ∙ c.in-Refuses.is))).1

pub returns-in-Passes-clause-ran : goal.returns-in-Passes-clause-ran
returns-in-Passes-clause-ran c =
    let input = c.args.input.now in (ran input (search rules) c.answer.ensures (output_block input _ _ _ _ c.number-nx.ensures c.number-ny.ensures c.number-nz.ensures c.number-t.ensures (sym c.check.ensures ∙ c.in-Passes.is))).0

pub returns-in-Passes-clause-upper_bound : goal.returns-in-Passes-clause-upper_bound
returns-in-Passes-clause-upper_bound c =
    let input = c.args.input.now in (ran input (search rules) c.answer.ensures (output_block input _ _ _ _ c.number-nx.ensures c.number-ny.ensures c.number-nz.ensures c.number-t.ensures (sym c.check.ensures ∙ c.in-Passes.is))).1
