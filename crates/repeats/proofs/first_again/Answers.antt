-- `first_again` meets its contract.
-- Assumes nothing.
use Rattle.std.proofs.Common.{◌*◌, arith, ◌∙◌}
use Rattle.laws.proofs.Leading.{leading_le}
use Rattle.repeats.specs.Fresh.{span, fresh_in}
use Rattle.repeats.proofs.Ranges.{no_range, range_passed, all_ranges}
use Rattle.repeats.proofs.first_again.Goals as goal

pub loop-r-init : goal.loop-r-init
loop-r-init g c = record { within = omega arith; first = no_range _ c.args.m }

pub loop-r-preserved : goal.loop-r-preserved
loop-r-preserved g c =
    let l = c.loop-r in
    let key = g.T.Keyed.key c.args.entries.now in
    record {
      within = omega (arith, leading_le (fresh_in key (span * l.r)) l.limit);
      first = range_passed key c.args.m l.r l.limit _ l.invariant.first c.pass-limit.ensures;
    }

pub returns : goal.returns
returns g c =
    let a = c.args in
    c.loop-r.invariant.first ∙ all_ranges (g.T.Keyed.key a.entries.now) _ a.m (λ v h. omega (arith, c.requires.m_below v h))
