-- `run` meets its contract: an entry out of the range changes nothing, and any other gets its bit.
-- Assumes nothing.
use Rattle.std.proofs.Common.{◌≡◌, rules, arith}
use Rattle.repeats.proofs.Tables.{passed_out, passed_more, passed_stops, passed_ends}
use Rattle.repeats.proofs.run.Goals as goal
use Rattle.repeats.proofs.run.Goals.{in-Some+else-mark, in_default}

pub returns-then-mark-clause-first : goal.returns-then-mark-clause-first
returns-then-mark-clause-first g c =
    passed_stops _ _ c.loop-v.v c.loop-v.table c.loop-v.invariant c.args.end c.in-Some.k c.loop-v-test.true c.in-Some.ensures (search rules)

pub loop-v-preserved : goal.loop-v-preserved
loop-v-preserved g c =
    let l = c.loop-v in
    elim c.match-place.branch [
      | in-Some+else-mark w ↦ rw w.table-is (passed_more _ _ l.v l.table l.invariant w.in-Some.k _ w.in-Some.ensures (search rules) w.mark.ensures.marked)
      | in_default w ↦ rw w.table-is (passed_out _ _ l.v l.table l.invariant w.in_default.ensures)
    ]

pub returns-clause-first : goal.returns-clause-first
returns-clause-first g c =
    let l = c.loop-v in
    let e : l.v ≡ c.args.end = omega arith in
    rw (← e) (passed_ends _ _ l.v l.table l.invariant)
