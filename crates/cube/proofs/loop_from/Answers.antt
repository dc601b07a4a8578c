-- `cube::loop_from` meets its contract: up to five edges are the loop themselves; else from the lowest edge of `m`, three rounds, of which those
-- behind one that adds nothing add nothing.
-- Assumes nothing.
use mathlib.Core.Path.{◌≡◌, ap, sym, ◌∙◌}
use mathlib.Core.List.{List}
use Prim.Native.Nat.{ℕ, ◌^◌}
use Rattle.laws.proofs.Trailing.{trailing_lt}
use Rattle.laws.proofs.Bits.{shift_one}
use Rattle.cube_rule.specs.Loops.{grow, lowest_edge, loop_from}
use Rattle.cube.proofs.loop_from.Goals.{After-round-x}
use Rattle.cube.proofs.loop_from.Goals as goal

-- three rounds: x, y and z after each
three : (ls : List ℕ) (e x y z : ℕ) → x ≡ grow (2 ^ e) ls → y ≡ grow x ls → z ≡ grow y ls → z ≡ loop_from ls e
unfolding loop_from
three ls e x y z p q r = rw (r, q, p)

-- the first is from the lowest edge
first : (c : After-round-x) → c.round-x.result ≡ grow (2 ^ lowest_edge c.args.m) c.args.links
first c =
    c.round-x.ensures
    ∙ ap (λ (m : ℕ). grow m c.args.links) (shift_one (lowest_edge c.args.m) 32 (trailing_lt 32 c.args.m c.requires.0 c.ranges.m.fits))

pub returns-then-y-x : goal.returns-then-y-x
returns-then-y-x c =
    let again = sym c.if-y-x.true ∙ c.round-y.ensures in
    three _ _ _ _ _ (first (goal.at.returns-then-y-x c).After-round-x) again again

pub returns : goal.returns
returns c = three _ _ _ _ _ (first (goal.at.returns c).After-round-x) c.round-y.ensures c.round.ensures
