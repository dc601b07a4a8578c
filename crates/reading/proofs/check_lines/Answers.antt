-- `check_lines` meets its contract: all rows before the one in hand are right.
-- Assumes nothing.
use Prim.Native.Nat.{ℕ, ◌-◌, ◌+◌}
use mathlib.Core.Path.{◌≡◌, sym, ◌∙◌}
use borrow.Author.Rules.{rules}
use Rattle.laws.proofs.Leading.{before_more}
use Rattle.block.specs.declared.Checked.TheVariants.{Passes}
use Rattle.reading.proofs.Rows.{row_check, next_row, at_row, row_refuses, behind_rows, surplus_passes, surplus_refuses}
use native.Mathlib.Omega.{arith}
use Rattle.reading.proofs.check_lines.Goals as goal

pub returns-in-Refuses : goal.returns-in-Refuses
returns-in-Refuses c =
    let a = c.args in
    sym (row_refuses a.input.now a.nx a.rows _ (record {
      place = c.loop-j.j;
      there = c.loop-j-test.true;
      before = c.loop-j.invariant.2;
      refuses = sym (at_row a.input.now a.nx c.loop-j.j _ _ c.loop-j.invariant.1 c.check_line-row.ensures) ∙ c.in-Refuses.is;
    }))

pub returns-then-read_at-eq-ENDED : goal.returns-then-read_at-eq-ENDED
returns-then-read_at-eq-ENDED c =
    let a = c.args in
    behind_rows a.input.now a.nx a.rows c.loop-j.j _ _ (omega (arith, c.loop-j-test.false, c.loop-j.invariant.0)) c.loop-j.invariant.1 c.loop-j.invariant.2
    (surplus_passes a.input.now (a.rows + 2) _ _ c.read_at.ensures.value c.if-read_at-eq-ENDED.true)

pub returns : goal.returns
returns c =
    let a = c.args in
    behind_rows a.input.now a.nx a.rows c.loop-j.j _ _ (omega (arith, c.loop-j-test.false, c.loop-j.invariant.0)) c.loop-j.invariant.1 c.loop-j.invariant.2
    (c.refuse.ensures ∙ surplus_refuses a.input.now (a.rows + 2) _ _ c.read_at.ensures.value c.if-read_at-eq-ENDED.false (omega (arith, c.requires.1)))

pub loop-j-preserved : goal.loop-j-preserved
loop-j-preserved c =
    let a = c.args in (
      search rules,
      next_row a.nx c.loop-j.j _ c.loop-j.invariant.1,
      before_more (λ (i : ℕ). row_check a.input.now a.nx i ≡ Passes) c.loop-j.j c.loop-j.invariant.2
          (sym (at_row a.input.now a.nx c.loop-j.j _ _ c.loop-j.invariant.1 c.check_line-row.ensures) ∙ c.in_default.is),
    )
