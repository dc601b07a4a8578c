-- `join_quad` meets its contract: the way of the first vertex is known at each join.
-- Assumes nothing.
use mathlib.Core.Path.{refl}
use lib.ListN.{length}
use Rattle.trees.specs.Steps.{stored}
use Rattle.trees.proofs.Joins.{Going, joinable, going_on}
use Rattle.trees.proofs.join_quad.Goals.{After-search-way}
use Rattle.trees.proofs.join_quad.Goals as goal

-- the first vertex before it is joined
found : (c : After-search-way) → let a = c.args in let w = c.search-way.result in
    Going (length a.up.now) a.v0 (stored a.up.now a.size.now a.longest) a.up.now a.size.now w.top w.links a.longest
found c =
    let w = c.search-way.ensures in
    record { is = refl; stands = c.requires.4; way = record { inside = c.requires.0; finds = w.top_value; follows = w.links_value } }

pub join-longest-requires-2 : goal.join-longest-requires-2
join-longest-requires-2 c =
    let v = found (goal.at.join-longest-requires-2 c).After-search-way in
    joinable (going_on v c.requires.1 c.join-longest.ensures) _ c.requires.2

pub join-longest-requires-3 : goal.join-longest-requires-3
join-longest-requires-3 c =
    let v = found (goal.at.join-longest-requires-3 c).After-search-way in
    joinable (going_on (going_on v c.requires.1 c.join-longest.ensures) c.requires.2 c.join-longest-2.ensures) _ c.requires.3

pub returns : goal.returns
returns c =
    let v = found (goal.at.returns c).After-search-way in
    (going_on (going_on (going_on v c.requires.1 c.join-longest.ensures) c.requires.2 c.join-longest-2.ensures) c.requires.3 c.join-longest-3.ensures).is
