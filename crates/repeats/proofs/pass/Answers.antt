-- `pass` meets its contract: 64 that are far are passed at once.
-- Assumes nothing.
use Rattle.std.proofs.Common.{◌≡◌, ◌+◌, ◌*◌, rules, arith}
use Rattle.repeats.proofs.Tables.{passed_none, passed_ends, passed_far}
use Rattle.repeats.proofs.Ranges.{leading_further}
use Rattle.repeats.specs.Fresh.{span, fresh_in}
use Rattle.repeats.proofs.pass.Goals as goal
use Rattle.repeats.proofs.pass.Goals.{then-not-is_far+else-at-end, else-not-is_far}

pub loop-part-init : goal.loop-part-init
loop-part-init g c = λ v e. let z : v ≡ 0 = omega arith in rw z (passed_none _ _)

pub returns-then-at-end : goal.returns-then-at-end
returns-then-at-end g c =
    leading_further (fresh_in (g.T.Keyed.key c.args.entries.now) (span * c.args.r)) (64 * c.loop-part.part + c.min.result) c.args.limit _ (omega (arith, c.min.ensures)) c.run-at.ensures.first c.if-at-end.true

pub loop-part-preserved : goal.loop-part-preserved
loop-part-preserved g c = λ v e.
    let l = c.loop-part in
    let q : v ≡ 64 * l.part + c.min.result = omega (arith, c.min.ensures) in
    elim c.if-not-is_far.branch [
      | then-not-is_far+else-at-end w ↦ rw (w.table-is, q) (w.run-at.ensures.all_passed w.if-at-end.false)
      | else-not-is_far w ↦ rw (w.table-is, q) (passed_far _ _ _ (64 * l.part) _ (omega arith) (c.is_far.ensures (search rules)) (l.invariant (64 * l.part) (omega arith)))
    ]

pub returns : goal.returns
returns g c =
    let l = c.loop-part in
    passed_ends _ _ c.args.limit l.table (l.invariant c.args.limit (omega (arith, c.div_ceil-part-end.ensures)))
