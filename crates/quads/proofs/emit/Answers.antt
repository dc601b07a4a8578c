-- `emit` meets its contract.
-- Assumes nothing.
use Rattle.std.proofs.Common.{◌+◌, ◌^◌, ◌<◌, ◌≤◌, length, arith, rules}
use lib.Count.{count_trailing_zeros}
use Rattle.laws.proofs.Puts.{put_length}
use Rattle.laws.proofs.Visit.{left_next}
use Rattle.rows.proofs.Visits.{visit_start, visit_set, visit_in}
use Rattle.quads.proofs.RowQuads.{quad_four}
use Rattle.quads.proofs.Writes.{words_none, emit_room, emit_next, emit_end}
use Rattle.quads.proofs.emit.Goals.{In-loop-w}
use Rattle.quads.proofs.emit.Goals as goal

-- the next bit is one of the word's
in_word : (c : In-loop-w) → c.loop-w.i + count_trailing_zeros 64 c.loop-w.w < 64
in_word c = visit_in _ c.loop-w.invariant.left c.loop-w-test.true

-- and there is room for its quad
room : (c : In-loop-w) → c.loop-w.p + 4 ≤ length c.loop-w.quads
room c =
    let h = c.loop-w.invariant in emit_room _ _ h.left h.written c.loop-w-test.true (quad_four _ _ _ _ _ _ _ _ _) c.requires.3

pub loop-w-init : goal.loop-w-init
loop-w-init c =
    let h : c.args.run.d < 2 ^ 64 = search rules in
    record { left = visit_start _ h; written = words_none _ _ _ }

pub overflow_shr-edge : goal.overflow_shr-edge
overflow_shr-edge c = in_word (goal.at.overflow_shr-edge c).In-loop-w

pub put_edge-requires : goal.put_edge-requires
put_edge-requires c =
    let l = (goal.at.put_edge-requires c).In-loop-w in
    (c.requires.0, c.requires.2 _ (in_word l) (visit_set _ c.loop-w.invariant.left c.loop-w-test.true), room l)

pub overflow_add-p : goal.overflow_add-p
overflow_add-p c = omega (arith, room (goal.at.overflow_add-p c).In-loop-w, put_length c.loop-w.invariant.written)

pub loop-w-smaller : goal.loop-w-smaller
loop-w-smaller c = omega (arith, in_word (goal.at.loop-w-smaller c).In-loop-w)

pub loop-w-preserved : goal.loop-w-preserved
loop-w-preserved c =
    let h = c.loop-w.invariant in
    let ne = c.loop-w-test.true in
    record { left = left_next h.left ne; written = emit_next _ _ h.left h.written ne (quad_four _ _ _ _ _ _ _ _ _) _ c.put_edge.ensures }

pub returns : goal.returns
returns c = let h = c.loop-w.invariant in emit_end _ _ h.left h.written c.loop-w-test.false
