-- `put_hex` meets its contract: the digits above the bits that are left are put.
-- Assumes nothing.
use Prim.Native.Nat.{◌-◌, ◌≤◌}
use mathlib.Core.Path.{refl}
use native.Mathlib.Omega.{arith}
use borrow.Author.Rules.{rules}
use Rattle.lines.proofs.Writing.{hex_start, hex_digit, hex_end}
use Rattle.lines.proofs.put_hex.Goals as goal

pub loop-left-init : goal.loop-left-init
loop-left-init c = (search rules, search rules, hex_start _ _ _ _, refl)

pub loop-left-preserved : goal.loop-left-preserved
loop-left-preserved c =
    let i = c.loop-left.invariant in
    let four : 4 ≤ c.loop-left.left = omega (arith, c.loop-left-test.true, i.1) in (
      search rules,
      omega (arith, c.loop-left-test.true, i.0, i.1),
      hex_digit c.args.out.now _ _ _ _ _ _ i.0 four c.glyph.ensures i.2,
      search rules,
    )

pub returns-clause-put : goal.returns-clause-put
returns-clause-put c =
    let i = c.loop-left.invariant in
    let none = c.loop-left-test.false in hex_end c.args.out.now _ _ _ _ _ _ none (omega (arith, none, i.1)) i.2
