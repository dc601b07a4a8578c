-- `plain_row` meets its contract. The loop's invariant: the active cubes of the words before w are plain, and counted. The measure is what is left
-- of four words. Assumes nothing.
use Prim.Native.Nat.{◌<◌, ℕ}
use mathlib.Core.Path.{◌≡◌, sym, ap, ap₂, ◌∙◌, subst}
use lib.Bits.{bit_and}
use native.Mathlib.Omega.{arith}
use Rattle.planes.specs.Planes.{active_of}
use Rattle.rows.specs.Quiet.{active_in, words_in_row, every}
use Rattle.rows.proofs.Quiets.{every_start, every_more, every_not}
use Rattle.loop_counts.specs.PlainRow.{plain_word}
use Rattle.loop_counts.proofs.PlainRows.{active_start, active_more, plain_doubt, plain_all}
use mathlib.Core.Bool.{true}
use Rattle.loop_counts.proofs.plain_row.Goals as goal
use Rattle.loop_counts.proofs.plain_row.Invariants.{plain_at}

pub loop-w-init : goal.loop-w-init
loop-w-init c =
    let a = c.args in
    (omega arith, every_start (plain_at a.a.now a.b.now a.row.nx a.row.j), active_start a.a.now a.b.now a.row.nx a.row.j, omega arith)

pub returns-then-not-plain_word : goal.returns-then-not-plain_word
returns-then-not-plain_word c =
    let four : (c.loop-w.w < 4) × (c.loop-w.w < words_in_row c.args.row.nx) = (omega (arith, c.loop-w-test.true, c.requires.1), omega (arith, c.loop-w-test.true, c.requires.0)) in
    let act_is : let a = c.args in bit_and c.active.result c.limit.result ≡ active_in a.a.now a.b.now a.row.nx a.row.j c.loop-w.w = ap₂ bit_and (c.active.ensures ∙ ap active_of c.eight-e.ensures) c.limit.ensures in
    let plain-is : let a = c.args in c.plain_word.result ≡ plain_at a.a.now a.b.now a.row.nx a.row.j c.loop-w.w = c.plain_word.ensures ∙ ap₂ plain_word c.eight-e.ensures (act_is) in
    let a = c.args in
    plain_doubt a.a.now a.b.now a.row.nx a.row.j
    (every_not (plain_at a.a.now a.b.now a.row.nx a.row.j) c.loop-w.w (words_in_row a.row.nx) (sym plain-is ∙ c.if-not-plain_word.true) four.1)

pub loop-w-preserved : goal.loop-w-preserved
loop-w-preserved c =
    let four : (c.loop-w.w < 4) × (c.loop-w.w < words_in_row c.args.row.nx) = (omega (arith, c.loop-w-test.true, c.requires.1), omega (arith, c.loop-w-test.true, c.requires.0)) in
    let act_is : let a = c.args in bit_and c.active.result c.limit.result ≡ active_in a.a.now a.b.now a.row.nx a.row.j c.loop-w.w = ap₂ bit_and (c.active.ensures ∙ ap active_of c.eight-e.ensures) c.limit.ensures in
    let plain-is : let a = c.args in c.plain_word.result ≡ plain_at a.a.now a.b.now a.row.nx a.row.j c.loop-w.w = c.plain_word.ensures ∙ ap₂ plain_word c.eight-e.ensures (act_is) in
    let h = c.loop-w in
    let a = c.args in (
      omega (arith, four.1),
      every_more (plain_at a.a.now a.b.now a.row.nx a.row.j) h.w h.invariant.1 (sym plain-is ∙ c.if-not-plain_word.false),
      active_more a.a.now a.b.now a.row.nx a.row.j h.w h.m c.ones_of-m.result _ h.invariant.2 act_is c.ones_of-m.ensures.value,
      omega (arith, h.invariant.3, c.ones_of-m.ensures.upper_bound),
    )

pub returns : goal.returns
returns c =
    let h = c.loop-w in
    let a = c.args in
    let e : h.w ≡ words_in_row a.row.nx = omega (arith, c.loop-w-test.false, h.invariant.0) in
    plain_all a.a.now a.b.now a.row.nx a.row.j h.m h.w (subst (λ (w : ℕ). true ≡ every (plain_at a.a.now a.b.now a.row.nx a.row.j) w) e h.invariant.1) h.invariant.2 e
