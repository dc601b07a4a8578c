-- `cube::decide` meets its contract: the two sides of the comparison, read back from their bits, are those of the decider.
-- Assumes nothing.
use mathlib.Core.Path.{◌≡◌, ap, ap₂, ◌∙◌}
use Prim.Native.Nat.{ℕ, ◌^◌, ◌≤◌, ◌<◌}
use lib.IntN.{ℤ, pos, ◌+ℤ◌, ◌*ℤ◌}
use lib.Signed.{le_z, mag}
use mir.Syntax.{w32, w64}
use mir.Val.{hbits, to_z, of_z}
use borrow.Author.Tests.{le-leb, lt-leb}
use Rattle.laws.proofs.Signed.{back}
use Rattle.block.specs.declared.Cut.{Cut}
use Rattle.cube_rule.specs.Decider.{difference_of, joined}
use Rattle.cube.proofs.decide.Goals.{After-difference-ds}
use Rattle.cube.proofs.decide.Goals as goal

-- the decider by the raised product of the negative corners and the product of the positive ones
module _ (cut : Cut) (p q r s : ℕ) (low high : ℤ) where
  first_positive : low ≡ difference_of cut q *ℤ difference_of cut s +ℤ pos cut.noise → high ≡ difference_of cut p *ℤ difference_of cut r → cut.t ≤ p → le_z low high ≡ joined cut p q r s
  unfolding joined
  first_positive l g h = ap₂ le_z l g ∙ simp (le-leb cut.t p h)

  first_negative : low ≡ difference_of cut p *ℤ difference_of cut r +ℤ pos cut.noise → high ≡ difference_of cut q *ℤ difference_of cut s → p < cut.t → le_z low high ≡ joined cut p q r s
  unfolding joined
  first_negative l g h = ap₂ le_z l g ∙ simp (lt-leb cut.t p h)

-- the products of the differences at opposite corners, as the calls give them
opposite : (x y a b : ℤ) → mag x < 2 ^ hbits w32 → x ≡ a → mag y < 2 ^ hbits w32 → y ≡ b → to_z w32 (of_z w32 x) *ℤ to_z w32 (of_z w32 y) ≡ a *ℤ b
opposite x y a b x-fits x-is y-fits y-is = ap₂ (λ (x y : ℤ). x *ℤ y) (back w32 x-fits ∙ x-is) (back w32 y-fits ∙ y-is)

pr_is : (c : After-difference-ds) → to_z w32 (of_z w32 c.difference-dp.result) *ℤ to_z w32 (of_z w32 c.difference-dr.result) ≡ difference_of c.args.cut c.args.p *ℤ difference_of c.args.cut c.args.r
pr_is c = let p = c.difference-dp in let r = c.difference-dr in opposite _ _ _ _ p.type_inv p.ensures r.type_inv r.ensures

qs_is : (c : After-difference-ds) → to_z w32 (of_z w32 c.difference-dq.result) *ℤ to_z w32 (of_z w32 c.difference-ds.result) ≡ difference_of c.args.cut c.args.q *ℤ difference_of c.args.cut c.args.s
qs_is c = let q = c.difference-dq in let s = c.difference-ds in opposite _ _ _ _ q.type_inv q.ensures s.type_inv s.ensures

pub returns-then-cut-p : goal.returns-then-cut-p
returns-then-cut-p c =
    let at = (goal.at.returns-then-cut-p c).After-difference-ds in
    let a = c.args in
    let pr = c.product-pr in
    let qs = c.raised-qs_raised in
    first_positive a.cut a.p a.q a.r a.s _ _
    (back w64 qs.type_inv ∙ qs.ensures ∙ ap (λ (z : ℤ). z +ℤ pos a.cut.noise) (qs_is at))
    (back w64 pr.type_inv ∙ pr.ensures ∙ pr_is at) c.if-cut-p.true

pub returns-else-cut-p : goal.returns-else-cut-p
returns-else-cut-p c =
    let at = (goal.at.returns-else-cut-p c).After-difference-ds in
    let a = c.args in
    let pr = c.raised-pr_raised in
    let qs = c.product-qs in
    first_negative a.cut a.p a.q a.r a.s _ _
    (back w64 pr.type_inv ∙ pr.ensures ∙ ap (λ (z : ℤ). z +ℤ pos a.cut.noise) (pr_is at))
    (back w64 qs.type_inv ∙ qs.ensures ∙ qs_is at) c.if-cut-p.false
