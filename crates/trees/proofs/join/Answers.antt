-- `join` meets its contract: the tops are united, and the way of the first vertex goes on.
-- Assumes nothing.
use Prim.Native.Nat.{ℕ, ◌+◌, max}
use mathlib.Core.Path.{◌≡◌, refl, ap, ◌∙◌}
use mathlib.Core.Bool.{Bool, true, false, cond}
use native.Mathlib.Omega.{arith}
use Rattle.laws.specs.Bits.{bit}
use Rattle.trees.specs.Steps.{Joins}
use Rattle.trees.proofs.Trees.{shallow}
use Rattle.trees.proofs.Joins.{goes_on}
use Rattle.trees.proofs.join.Goals.{After-max-longest}
use Rattle.trees.proofs.join.Goals as goal

pub overflow_add-way : goal.overflow_add-way
overflow_add-way c =
    let S = c.requires.1 in
    let way = c.requires.2.way in
    omega (arith, way.follows, shallow S.trees c.requires.2.from way.inside, S.few)

-- the way goes on, whether the first top was hung or not
onward : (c : After-max-longest) (hung : Bool) (links : ℕ)
    → let a = c.args in let b = c.search-second.result in let u = c.unite-under in
    u.result ≡ hung → links ≡ a.first.links + bit hung → c.max-longest.result ≡ max a.longest (max a.first.links b.links)
    → Joins a.w a.up.now a.size.now a.first.top a.first.links a.longest u.new.up u.new.size (cond hung b.top a.first.top) links c.max-longest.result
onward c hung links is more longest =
    let b = c.search-second.ensures in
    let u = c.unite-under.ensures in
    goes_on c.args.longest c.requires.0 c.requires.1 b.top_value b.links_value u.unites u.value longest hung links is more

pub returns-then-under : goal.returns-then-under
returns-then-under c =
    onward (goal.at.returns-then-under c).After-max-longest true _ c.if-under.true refl (c.max-longest.ensures ∙ ap (max c.args.longest) c.max.ensures)

pub returns-else-under : goal.returns-else-under
returns-else-under c =
    onward (goal.at.returns-else-under c).After-max-longest false _ c.if-under.false (omega arith) (c.max-longest.ensures ∙ ap (max c.args.longest) c.max.ensures)
