-- `cube::loops_of` meets its contract.
-- Assumes nothing.
use mathlib.Core.Path.{◌≡◌, ap₂, ◌∙◌, subst}
use mathlib.Core.Logic.{◌⊎◌, inl, inr}
use mathlib.Core.List.{List}
use Prim.Native.Nat.{ℕ, ◌-◌, ◌<◌}
use native.Mathlib.Omega.{arith}
use Rattle.cube_rule.specs.Decider.{joined}
use Rattle.cube_rule.specs.Loops.{loops_from, loops_by}
use Rattle.cube_rule.proofs.Laws.{cube_lasts}
use Rattle.cube.specs.declared.Loops.{Loops}
use Rattle.cube.specs.Answer.{answered, loops_given}
use Rattle.cube.proofs.Filling.{found_none, found_last, found_more, found_all}
use Rattle.cube.proofs.loops_of.Goals.{At-loop-n, Else-left-eq0}
use Rattle.cube.proofs.loops_of.Goals as goal

-- some edges are left
some_left : (c : Else-left-eq0) → 0 < c.loop-n.left
some_left c = omega (arith, c.if-left-eq0.false)

-- the places are the answer, if they are full or no edge is left
all_found : (c : At-loop-n) → (4 - c.loop-n.n ≡ 0) ⊎ (c.loop-n.left ≡ 0)
    → ◌≡◌ {A = Loops} (record { count = c.loop-n.n; masks = c.loop-n.masks }) (loops_given c.args.cut c.args.corners)
unfolding loops_by
all_found c e =
    found_all _ _ c.loop-n.left c.loop-n.n c.loop-n.masks c.loop-n.invariant e
    ∙ ap₂ (λ (ls : List ℕ) (m : ℕ). answered (loops_from 4 ls m)) c.links_of-links.ensures c.requires

pub loop-n-init : goal.loop-n-init
unfolding loops_by
loop-n-init c =
    found_none _ _
    (rw (c.links_of-links.ensures, c.requires) (cube_lasts joined c.args.cut c.args.corners))

pub loop_from-l-requires : goal.loop_from-l-requires
loop_from-l-requires c =
    let some = some_left (goal.at.loop_from-l-requires c).Else-left-eq0 in
    (some, found_last _ _ c.loop-n.left c.loop-n.n c.loop-n.masks c.loop-n.invariant c.loop-n-test.true some)

pub loop-n-preserved : goal.loop-n-preserved
loop-n-preserved c =
    found_more _ _ c.loop-n.left c.loop-n.n c.loop_from-l.result c.loop-n.masks c.loop-n.invariant c.loop-n-test.true
    (some_left (goal.at.loop-n-preserved c).Else-left-eq0) c.loop_from-l.ensures

pub returns-then-left-eq0-clause-value : goal.returns-then-left-eq0-clause-value
returns-then-left-eq0-clause-value c = all_found (goal.at.returns-then-left-eq0-clause-value c).At-loop-n (inr c.if-left-eq0.true)

pub returns-clause-value : goal.returns-clause-value
returns-clause-value c =
    let full : c.loop-n.n ≡ 4 = omega arith in
    let P : ℕ → Type 0 = λ k. ◌≡◌ {A = Loops} (record { count = k; masks = c.loop-n.masks }) (loops_given c.args.cut c.args.corners) in
    subst P full (all_found (goal.at.returns-clause-value c).At-loop-n (inl (omega arith)))
