-- `top_number` meets its contract: it is one more than the library's maximum.
-- Assumes nothing.
use mathlib.Core.Path.{◌≡◌, sym, ◌∙◌}
use Prim.Native.Nat.{max}
use Rattle.std.specs.List.{reduce}
use Rattle.std.proofs.lemmas.Iterator.{YieldsList-from_slice}
use Rattle.std.proofs.lemmas.Iterator.Adapters.{option_map_id}
use Rattle.std.proofs.lemmas.Iterator.Consumers.{YieldsList-from_copied, max_from_yields_List}
use Rattle.closed_with.proofs.Chains.{top_some, top_none}
use Rattle.closed_with.proofs.top_number.Goals.{After-max}
use Rattle.closed_with.proofs.top_number.Goals as goal

highest : (c : After-max) → c.max.result ≡ reduce max c.args.quads.now
highest c =
    sym (option_map_id c.max.result)
    ∙ max_from_yields_List c.copied.result c.max.result c.max.ensures.ran (YieldsList-from_copied (YieldsList-from_slice c.args.quads.now cc))

pub returns-in-Some-clause-value : goal.returns-in-Some-clause-value
returns-in-Some-clause-value c = top_some _ _ (sym c.in-Some.is ∙ highest (goal.at.returns-in-Some-clause-value c).After-max)

pub returns-in-None-clause-value : goal.returns-in-None-clause-value
returns-in-None-clause-value c = top_none _ (sym c.in-None.is ∙ highest (goal.at.returns-in-None-clause-value c).After-max)
