-- `count_word` meets its contract. The loop's invariant: w holds the bits from i on of the cubes that have neither one loop nor two, and those of
-- them before i are counted, besides the others. The measure is what is left of the 64 bits.
-- Assumes nothing.
use Prim.Native.Nat.{ℕ, ◌+◌, ◌*◌, ◌<◌, ◌^◌}
use mathlib.Core.Path.{◌≡◌, ap, ◌∙◌}
use mathlib.Core.Bool.{true}
use native.Mathlib.Omega.{arith}
use mathlib.Core.List.{List}
use lib.Bits.{bit_and, bit_xor}
use lib.Count.{ones, count_trailing_zeros}
use lib.ListN.{length}
use Rattle.cube_rule.specs.Decider.{loops_of}
use Rattle.laws.specs.Below.{below}
use Rattle.laws.specs.Bits.{holds}
use Rattle.laws.proofs.Visit.{left_next}
use Rattle.rows.specs.Rows.{loops_at}
use Rattle.rows.proofs.Visits.{visit_start, visit_set, visit_in, picked_end, picked_none}
use Rattle.loop_counts.proofs.CountedWords.{counted_next, plain_counted, rest_in, rest_lt, word_counted, word_le}
use Rattle.loop_counts.proofs.count_word.Goals as goal

pub returns-then-act-eq0-clause-value : goal.returns-then-act-eq0-clause-value
returns-then-act-eq0-clause-value c =
    let loops : ℕ → List ℕ = λ x. loops_at loops_of c.args.lo.now c.args.hi.now c.args.row.cut c.args.row.nx (c.args.s + x) in ap length (picked_none _ loops c.if-act-eq0.true)

-- all cubes are plain
pub returns-then-act-plain-clause-value : goal.returns-then-act-plain-clause-value
returns-then-act-plain-clause-value c = c.ones_of.ensures.value ∙ plain_counted c.requires c.plain.ensures c.ranges.act.fits c.if-act-plain.true

pub loop-w-init : goal.loop-w-init
unfolding below
loop-w-init c =
    let left : ℕ = bit_xor c.args.act (bit_and c.sorted-sorts.result.one c.args.act) in
    let left_lt : left < 2 ^ 64 = rest_lt _ c.sorted-sorts.result.one c.ranges.act.fits in (
      visit_start _ (rest_lt left c.sorted-sorts.result.two left_lt),
      omega (arith, c.ones_of-3.ensures.value, c.ones_of-2.ensures.value),
      omega (arith, c.ones_of-3.ensures.upper_bound, c.ones_of-2.ensures.upper_bound),
    )

pub overflow_add-s : goal.overflow_add-s
overflow_add-s c =
    let next : ℕ = c.loop-w.i + count_trailing_zeros 64 c.loop-w.w in
    let inside : next < 64 = visit_in _ c.loop-w.invariant.0 c.loop-w-test.true in
    let left : ℕ = bit_xor c.args.act (bit_and c.sorted-sorts.result.one c.args.act) in
    let set : holds c.args.act (next) ≡ true = rest_in c.args.act c.sorted-sorts.result.one _ (rest_in (left) c.sorted-sorts.result.two _ (visit_set _ c.loop-w.invariant.0 c.loop-w-test.true)) in
    let low_in : c.args.s + next + 1 + c.args.row.nx < length c.args.lo.now = c.requires.low_in _ (inside) (set) in
    omega (arith, low_in, c.well_formed)

pub corners-cs-requires : goal.corners-cs-requires
corners-cs-requires c =
    let next : ℕ = c.loop-w.i + count_trailing_zeros 64 c.loop-w.w in
    let inside : next < 64 = visit_in _ c.loop-w.invariant.0 c.loop-w-test.true in
    let left : ℕ = bit_xor c.args.act (bit_and c.sorted-sorts.result.one c.args.act) in
    let set : holds c.args.act (next) ≡ true = rest_in c.args.act c.sorted-sorts.result.one _ (rest_in (left) c.sorted-sorts.result.two _ (visit_set _ c.loop-w.invariant.0 c.loop-w-test.true)) in
    let low_in : c.args.s + next + 1 + c.args.row.nx < length c.args.lo.now = c.requires.low_in _ (inside) (set) in
    (low_in, c.requires.high_in _ inside set)

pub loop-w-smaller : goal.loop-w-smaller
loop-w-smaller c =
    let next : ℕ = c.loop-w.i + count_trailing_zeros 64 c.loop-w.w in
    let inside : next < 64 = visit_in _ c.loop-w.invariant.0 c.loop-w-test.true in
    omega (arith, inside)

pub loop-w-preserved : goal.loop-w-preserved
loop-w-preserved c =
    let loops : ℕ → List ℕ = λ x. loops_at loops_of c.args.lo.now c.args.hi.now c.args.row.cut c.args.row.nx (c.args.s + x) in
    let h = c.loop-w in
    let ne = c.loop-w-test.true in (
      left_next h.invariant.0 ne,
      counted_next _ h.invariant.0 loops ne _ _ _ h.invariant.1 (c.count_cube-m.ensures.value ∙ ap (λ (cs : List ℕ). length (loops_of c.args.row.cut cs)) c.corners-cs.ensures),
      omega (arith, h.invariant.2, c.count_cube-m.ensures.upper_bound),
    )

pub returns-clause-value : goal.returns-clause-value
returns-clause-value c =
    let loops : ℕ → List ℕ = λ x. loops_at loops_of c.args.lo.now c.args.hi.now c.args.row.cut c.args.row.nx (c.args.s + x) in
    let left : ℕ = bit_xor c.args.act (bit_and c.sorted-sorts.result.one c.args.act) in
    let h = c.loop-w in
    let q = c.sorted-sorts.result in
    let is = h.invariant.1
    ∙ ap (λ (l : List ℕ). ones (bit_and q.one c.args.act) + 2 * ones (bit_and q.two left) + length l) (picked_end _ h.invariant.0 loops c.loop-w-test.false)
    ∙ word_counted c.sorted-sorts.ensures.sorted c.ranges.act.fits in is

pub returns-clause-upper_bound : goal.returns-clause-upper_bound
returns-clause-upper_bound c =
    let loops : ℕ → List ℕ = λ x. loops_at loops_of c.args.lo.now c.args.hi.now c.args.row.cut c.args.row.nx (c.args.s + x) in
    let left : ℕ = bit_xor c.args.act (bit_and c.sorted-sorts.result.one c.args.act) in
    let h = c.loop-w in
    let q = c.sorted-sorts.result in
    let is = h.invariant.1
    ∙ ap (λ (l : List ℕ). ones (bit_and q.one c.args.act) + 2 * ones (bit_and q.two left) + length l) (picked_end _ h.invariant.0 loops c.loop-w-test.false)
    ∙ word_counted c.sorted-sorts.ensures.sorted c.ranges.act.fits in omega (arith, is, word_le c.args.lo.now c.args.hi.now c.args.row.cut c.args.row.nx c.args.act c.args.s)
