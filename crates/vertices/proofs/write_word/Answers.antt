-- `write_word` meets its contract.
-- Assumes nothing.
use Prim.Native.Nat.{ℕ, ◌+◌, ◌*◌, ◌≤◌, ◌<◌}
use mathlib.Core.Path.{◌≡◌, ap, sym, ◌∙◌}
use mathlib.Core.Bool.{true}
use mathlib.Core.List.{[], ◌∷◌}
use native.Mathlib.Omega.{arith}
use lib.Count.{count_trailing_zeros}
use lib.ListN.{length}
use Rattle.cube_rule.specs.Edges.{pattern_of, crossed_mask}
use Rattle.signs.specs.Windows.{window_corners}
use Rattle.laws.specs.Bits.{holds}
use Rattle.laws.proofs.Visit.{left_next}
use Rattle.rows.proofs.Visits.{visit_start, visit_set, visit_in, picked_room}
use Rattle.vertices.proofs.Writes.{stored_start, stored_next, stored_end, words_next, offsets_next, noted_next, noted_end, active_names}
use Rattle.notes.proofs.Notes.{one_noted, noted_none}
use Rattle.cube_vertices.proofs.Cubes.{written_as}
use Rattle.vertices.proofs.write_word.Invariants.{loops, names, words, offsets}
use Rattle.vertices.proofs.write_word.Goals.{In-loop-w, After-crossed_edges-crossed}
use Rattle.vertices.proofs.write_word.Goals as goal

-- the next bit that is set is one of the word's, so its cube has samples
abbrev next : In-loop-w → ℕ
next c = c.loop-w.i + count_trailing_zeros 64 c.loop-w.w

inside : (c : In-loop-w) → next c < 64
inside c = visit_in _ c.loop-w.invariant.left c.loop-w-test.true

set_here : (c : In-loop-w) → holds c.args.act (next c) ≡ true
set_here c = visit_set _ c.loop-w.invariant.left c.loop-w-test.true

low_in : (c : In-loop-w) → c.args.spot.x + next c + 1 + c.args.row.nx < length c.args.lo.now
low_in c = c.requires.0.low_in _ (inside c) (set_here c)

numbers_room : (c : In-loop-w) → 2 * (c.args.spot.x + next c) + 2 ≤ length c.loop-w.numbers
numbers_room c = omega (arith, c.requires.1.numbers_room _ (inside c) (set_here c), c.loop-w.invariant.noted.long)

-- its crossed edges are those of its samples
crossed_here : (c : After-crossed_edges-crossed)
    → let a = c.args in
    c.crossed_edges-crossed.result ≡ crossed_mask (pattern_of a.row.cut (window_corners a.row.nx a.lo.now a.hi.now (a.spot.x + (c.loop-w.i + count_trailing_zeros 64 c.loop-w.w))))
crossed_here c =
    let left = c.loop-w.invariant.left in
    let ne = c.loop-w-test.true in
    c.crossed_edges-crossed.ensures.value ∙ ap crossed_mask (c.pattern_at.ensures.value ∙ c.requires.0.signs _ (visit_in _ left ne) (visit_set _ left ne))

pub returns-then-act-eq0 : goal.returns-then-act-eq0
returns-then-act-eq0 c =
    let a = c.args in
    let left = visit_start _ c.ranges.act.fits in
    record {
      stored =
          stored_end _ left (loops a.lo.now a.hi.now a.row a.spot) (words a.lo.now a.hi.now a.row a.spot) (offsets a.lo.now a.hi.now a.row a.spot)
          (stored_start _ _ _ _ _ _ _) c.if-act-eq0.true;
      noted = noted_end _ left (loops a.lo.now a.hi.now a.row a.spot) (names a.lo.now a.hi.now a.row a.spot) (noted_none _ _ _ _ _) c.if-act-eq0.true;
    }

pub loop-w-init : goal.loop-w-init
loop-w-init c = record { left = visit_start _ c.ranges.act.fits; stored = stored_start _ _ _ _ _ _ _; noted = noted_none _ _ _ _ _ }

pub overflow_add-spot : goal.overflow_add-spot
overflow_add-spot c = omega (arith, low_in (goal.at.overflow_add-spot c).In-loop-w)

pub corners-cs-requires : goal.corners-cs-requires
corners-cs-requires c =
    let l = (goal.at.corners-cs-requires c).In-loop-w in
    (low_in l, c.requires.0.high_in _ (inside l) (set_here l))

pub pattern_at-requires : goal.pattern_at-requires
pattern_at-requires c = inside (goal.at.pattern_at-requires c).In-loop-w

pub overflow_add-here : goal.overflow_add-here
overflow_add-here c = omega (arith, low_in (goal.at.overflow_add-here c).In-loop-w)

pub overflow_shr-one : goal.overflow_shr-one
overflow_shr-one c = omega (arith, inside (goal.at.overflow_shr-one c).In-loop-w)

pub write_cube-m-requires : goal.write_cube-m-requires
write_cube-m-requires c =
    let l = (goal.at.write_cube-m-requires c).In-loop-w in
    let crossed = crossed_here (goal.at.write_cube-m-requires c).After-crossed_edges-crossed in
    let h = c.loop-w.invariant in
    let ne = c.loop-w-test.true in
    let r = c.requires.1 in (
      record {
        edges = rw c.corners-cs.ensures crossed;
        one = λ t. rw c.corners-cs.ensures (c.singles-one.ensures.single (next l) (inside l) (set_here l) t ∙ ap (λ (m : ℕ). m ∷ []) (sym crossed));
      },
      record {
        threshold = r.threshold;
        words_room = rw c.corners-cs.ensures (words_next _ h.left _ _ _ h.stored ne r.words_room);
        offsets_room = rw c.corners-cs.ensures (offsets_next _ h.left _ _ _ h.stored ne r.offsets_room);
        numbers_room = numbers_room l;
        few = omega (arith, r.few, h.stored.number, picked_room _ h.left (loops c.args.lo.now c.args.hi.now c.args.row c.args.spot) ne);
      },
    )

pub loop-w-smaller : goal.loop-w-smaller
loop-w-smaller c = omega (arith, inside (goal.at.loop-w-smaller c).In-loop-w)

pub loop-w-preserved : goal.loop-w-preserved
loop-w-preserved c =
    let l = (goal.at.loop-w-preserved c).In-loop-w in
    let h = c.loop-w.invariant in
    let ne = c.loop-w-test.true in
    let w = written_as c.corners-cs.ensures c.write_cube-m.ensures in
    record {
      left = left_next h.left ne;
      stored = stored_next _ h.left _ _ _ h.stored ne w.stored;
      noted = noted_next _ h.left _ _ h.noted ne _ (omega (arith, h.stored.number)) (active_names c.requires.0 (next l) (inside l) (set_here l)) (one_noted _ _ _ _ _ w.noted (numbers_room l));
    }

pub returns : goal.returns
returns c =
    let h = c.loop-w.invariant in
    let none = c.loop-w-test.false in
    record { stored = stored_end _ h.left _ _ _ h.stored none; noted = noted_end _ h.left _ _ h.noted none }
