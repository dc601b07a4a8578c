-- `note_row` meets its contract.
-- Assumes nothing.
use Rattle.std.proofs.Common.{inl, inr, ◌∙◌, ◌+◌, ◌*◌, ◌<◌, arith, length}
use Rattle.notes.proofs.ReadBack.{passed_none, passed_end, in_part, passed_more, noted_none, noted_more}
use Rattle.notes.proofs.note_row.Goals.{then-d-c-via-then-d-c, then-d-c-via-else-d-c+then-m-d}
use Rattle.notes.proofs.note_row.Goals as goal

pub loop-v-init : goal.loop-v-init
loop-v-init c = record { passed = λ f r. passed_none f _ _ _ _; noted = noted_none _ _ _ _ _ _ }

pub loop-v-preserved : goal.loop-v-preserved
loop-v-preserved c =
    let h = c.loop-v in
    let inside : 2 * h.v + 1 < length c.args.part.now = omega arith in
    record {
      passed = λ f r.
          passed_more r (h.invariant.passed f r) h.auto.v inside (omega arith) (omega arith) _ (h.auto.numbers ∙ c.requires.2) c.requires.1
          c.note_vertex.ensures;
      noted = noted_more h.invariant.noted h.auto.v inside (omega arith) (omega arith) _ c.note_vertex.ensures;
    }

pub returns-then-d-c-clause-row_read : goal.returns-then-d-c-clause-row_read
returns-then-d-c-clause-row_read c = λ f r.
    let p = c.loop-v.invariant.passed f r in
    let low = c.loop-v.auto.v in
    passed_end r p low
    (in_part r p low (omega arith)
    (elim c.then-d-c.branch [
      | then-d-c-via-then-d-c w ↦ inl (omega arith)
      | then-d-c-via-else-d-c+then-m-d w ↦ inr (omega arith)
    ]))

pub returns-clause-row_read : goal.returns-clause-row_read
returns-clause-row_read c = λ f r.
    let e = passed_end r (c.loop-v.invariant.passed f r) c.loop-v.auto.v (omega (arith, r.room)) in
    (omega (arith, e.0), e.1)
