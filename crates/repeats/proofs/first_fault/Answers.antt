-- `first_fault` meets its contract: what the first look found, and behind it the repeated ones.
-- Assumes nothing.
use Rattle.std.proofs.Common.{◌≡◌, arith, ◌∙◌}
use Rattle.laws.specs.Leading.{leading}
use Rattle.laws.proofs.Leading.{holds_more}
use Rattle.repeats.proofs.Ranges.{rising_more, looked_stops, looked_ends, fault_again, fault_none}
use Rattle.repeats.proofs.first_fault.Given.{Over}
use Rattle.repeats.proofs.first_fault.Goals.{Left-loop-v, else-loop-v-test, then-loop-v-test+in_default}
use Rattle.repeats.proofs.first_fault.Goals as goal

pub loop-v-preserved : goal.loop-v-preserved
loop-v-preserved g c =
    let l = c.loop-v in
    let e = c.in-Some.ensures in
    record {
      sound = holds_more _ l.v l.invariant.sound e.0;
      rising = rw (c.still-rises.ensures, e.1) (rising_more _ l.v l.last l.rises l.invariant.rising);
      last_bound = omega (arith, e.1, c.ranges-ranges.ensures.keys_below l.v (omega (arith, c.count-count.ensures)) e.0);
      m_value = l.invariant.m_value;
    }

-- the first entry that is not sound
looked : (g : Over) (c : Left-loop-v g) → (c.loop-v-test.m ≡ c.loop-v.v) × (c.loop-v.v ≡ leading (g.T.Keyed.sound c.args.entries.now) (g.T.Keyed.count c.args.entries.now))
looked g c =
    let l = c.loop-v in
    let s = g.T.Keyed.sound c.args.entries.now in
    elim c.loop-v-test.branch [
      | else-loop-v-test w ↦ (omega (arith, w.m-is, l.invariant.m_value), looked_ends s _ l.v l.invariant.sound (omega (arith, c.count-count.ensures)))
      | then-loop-v-test+in_default w ↦ (w.m-is, looked_stops s _ l.v l.invariant.sound (omega (arith, c.count-count.ensures)) w.in_default.ensures)
    ]

pub returns-then-rises : goal.returns-then-rises
returns-then-rises g c =
    let e = looked g (goal.at.returns-then-rises g c).Left-loop-v in
    let l = c.loop-v in
    e.0 ∙ fault_none _ (g.T.Keyed.key c.args.entries.now) _ l.v e.1 l.last (rw c.if-rises.true at l.invariant.rising)

pub returns-else-rises : goal.returns-else-rises
returns-else-rises g c =
    let e = looked g (goal.at.returns-else-rises g c).Left-loop-v in
    fault_again _ _ _ c.loop-v.v e.1 _ (rw e.0 at c.first_again.ensures)
