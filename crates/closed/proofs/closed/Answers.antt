-- `closed` meets its promise. The side in hand is 4·quad + side, and every side before it is in order; `there` and `back` are how many of the
-- first m sides are walked from one end to the other, and how many the other way. The measures are the quads, the sides and the walks that are left.
-- Assumes nothing.
use mathlib.Core.Path.{◌≡◌, sym, ◌∙◌}
use mathlib.Core.Bool.{false}
use mathlib.Core.List.{List}
use Prim.Native.Nat.{ℕ, ◌+◌, ◌*◌}
use native.Mathlib.Omega.{arith}
use borrow.Author.Rules.{rules}
use lib.ListN.{get_or}
use Rattle.block.specs.declared.Checked.TheVariants.{Passes}
use Rattle.lists.specs.Rows.{length_row}
use Rattle.closed.specs.Closed.{side_sound, all_sound, open_at}
use Rattle.closed.proofs.Search.{walks_none, walks_more, side_judged, finding_all, finding_open, answer_refused, answer_found}
use Rattle.closed.proofs.closed.Goals as goal
use Rattle.closed.proofs.closed.Goals.{else-quads-test, then-quads-test+then-sides-test+else-walks-test+then-not-sound}

pub returns-in-Refuses : goal.returns-in-Refuses
returns-in-Refuses c = answer_refused c.args.quads.now _ (sym c.check_length-row.ensures ∙ c.in-Refuses.is)

pub walks-init : goal.walks-init
walks-init c =
    let quads_of : List ℕ = c.args.quads.now in
    (search rules, search rules, search rules, walks_none quads_of _ _, walks_none quads_of _ _)

pub walks-preserved : goal.walks-preserved
walks-preserved c =
    let quads_of : List ℕ = c.args.quads.now in
    let side-of : ℕ = 4 * c.quads.quad + c.sides.side in
    let quads = quads_of in
    let a = get_or quads side-of 0 in
    let b = get_or quads c.next-e.result 0 in
    let walks = c.walks in
    let end = c.next-f in (
      search rules,
      search rules,
      search rules,
      walks_more quads a b walks.there walks.m end.result c.runs-there.result walks.invariant.3 end.ensures c.runs-there.ensures.value,
      walks_more quads b a walks.back walks.m end.result c.runs-back.result walks.invariant.4 end.ensures c.runs-back.ensures.value,
    )

pub returns-then-quad-count : goal.returns-then-quad-count
returns-then-quad-count c =
    let quads_of : List ℕ = c.args.quads.now in
    let passed : length_row (quads_of) ≡ Passes = sym c.check_length-row.ensures ∙ c.in_default.is in
    let quads = quads_of in
    let q = c.quads.quad in
    elim c.quads-test.branch [
      | else-quads-test w ↦ absurd (omega arith)
      | then-quads-test+then-sides-test+else-walks-test+then-not-sound w ↦
          let s = w.sides.side in
          let bad : side_sound quads (4 * q + s) ≡ false =
          side_judged quads (4 * q + s) w.next-e.result w.walks.there w.walks.back w.walks.m false w.next-e.ensures (omega arith) w.walks.invariant.0 w.walks.invariant.3 w.walks.invariant.4
          (sym w.if-not-sound.true ∙ w.sound.ensures) in
          rw w.side-is (answer_found quads passed (open_at q s) (finding_open quads q s w.sides-test.true (omega arith) w.sides.invariant.1 bad))
    ]

pub returns-else-quad-count : goal.returns-else-quad-count
returns-else-quad-count c =
    let quads_of : List ℕ = c.args.quads.now in
    let passed : length_row (quads_of) ≡ Passes = sym c.check_length-row.ensures ∙ c.in_default.is in
    let quads = quads_of in
    elim c.quads-test.branch [
      | else-quads-test w ↦ answer_found quads passed all_sound (finding_all quads (4 * c.quads.quad) (omega arith) c.quads.invariant.1)
      | then-quads-test+then-sides-test+else-walks-test+then-not-sound w ↦ absurd (omega arith)
    ]
