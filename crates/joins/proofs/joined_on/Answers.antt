-- `joined_on` meets its contract: the loop goes from set bit to set bit, and the face of each lies in the windows.
-- Assumes nothing.
use Rattle.std.proofs.Common.{◌≡◌, Bool, true, false, refl, ◌+◌, ◌<◌, length, sym, ap, ◌∙◌, arith}
use Rattle.std.specs.Int.{from_bool}
use lib.Count.{count_trailing_zeros}
use Rattle.laws.specs.Bits.{bit}
use Rattle.laws.proofs.Pack.{pack_none}
use Rattle.laws.proofs.Visit.{left_next}
use Rattle.rows.proofs.Visits.{visit_start, visit_set, visit_in}
use Rattle.joins.proofs.JoinedFaces.{joined_next, joined_end}
use Rattle.joins.proofs.joined_on.Goals.{In-loop-w}
use Rattle.joins.proofs.joined_on.Goals as goal

as_bit : (b : Bool) → from_bool b ≡ bit b
as_bit true = refl
as_bit false = refl

-- the next set bit
in_word : (c : In-loop-w) → c.loop-w.n + count_trailing_zeros 64 c.loop-w.w < 64
in_word c = visit_in _ c.loop-w.invariant.left c.loop-w-test.true

-- the samples of its face
in_windows : (c : In-loop-w) → let x = c.loop-w.n + count_trailing_zeros 64 c.loop-w.w in (x + c.args.step < length c.args.near.now) × (x + c.args.step < length c.args.far.now)
in_windows c = c.requires _ (in_word c) (visit_set _ c.loop-w.invariant.left c.loop-w-test.true)

pub loop-w-init : goal.loop-w-init
loop-w-init c = record { left = visit_start _ c.ranges.doubtful.fits; made = sym (pack_none _) }

pub bounds-near-x : goal.bounds-near-x
bounds-near-x c = omega (arith, in_windows (goal.at.bounds-near-x c).In-loop-w)

pub overflow_add-y : goal.overflow_add-y
overflow_add-y c = omega (arith, in_windows (goal.at.overflow_add-y c).In-loop-w)

pub bounds-near-y : goal.bounds-near-y
bounds-near-y c = omega (arith, in_windows (goal.at.bounds-near-y c).In-loop-w)

pub offset_bounds-near-y : goal.offset_bounds-near-y
offset_bounds-near-y c = omega (arith, in_windows (goal.at.offset_bounds-near-y c).In-loop-w)

pub offset_bounds-far-y : goal.offset_bounds-far-y
offset_bounds-far-y c = omega (arith, in_windows (goal.at.offset_bounds-far-y c).In-loop-w)

pub bounds-far-y : goal.bounds-far-y
bounds-far-y c = omega (arith, in_windows (goal.at.bounds-far-y c).In-loop-w)

pub bounds-far-x : goal.bounds-far-x
bounds-far-x c = omega (arith, in_windows (goal.at.bounds-far-x c).In-loop-w)

pub overflow_shl-v : goal.overflow_shl-v
overflow_shl-v c = in_word (goal.at.overflow_shl-v c).In-loop-w

pub loop-w-smaller : goal.loop-w-smaller
loop-w-smaller c = omega (arith, in_word (goal.at.loop-w-smaller c).In-loop-w)

pub loop-w-preserved : goal.loop-w-preserved
loop-w-preserved c =
    let h = c.loop-w.invariant in
    record { left = left_next h.left c.loop-w-test.true; made = joined_next _ _ h.left h.made c.loop-w-test.true _ (c.from.ensures ∙ as_bit _ ∙ ap bit c.decide-joined.ensures) }

pub returns : goal.returns
returns c = joined_end _ _ c.loop-w.invariant.left c.loop-w.invariant.made c.loop-w-test.false
