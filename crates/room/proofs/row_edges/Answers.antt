-- `row_edges` meets its contract. The loop's invariant: m is the sum over the first w words of the row. The measure is what is left of the four.
-- Assumes nothing.
use native.Mathlib.Omega.{arith}
use mathlib.Core.Path.{sym, ap}
use Prim.Native.Nat.{ℕ, ◌-◌}
use lib.Bits.{bit_and}
use lib.Count.{ones}
use lib.ListN.{get_or}
use Rattle.laws.proofs.Sums.{total_none, total_one}
use Rattle.room.specs.Steps.{word_edges}
use Rattle.room.proofs.row_edges.Goals as goal

pub loop-w-init : goal.loop-w-init
loop-w-init c = (omega arith, omega arith, sym (total_none _))

pub loop-w-preserved : goal.loop-w-preserved
loop-w-preserved c =
    let a = c.args in
    let h = c.loop-w in (
      omega arith,
      omega (arith, h.invariant.1, c.three_ones-m.ensures.upper_bound),
      omega (
        arith,
        h.invariant.2,
        total_one (word_edges a.a.now a.b.now a.limits.now a.ny a.j) h.w,
        c.three_ones-m.ensures.value,
        ap (λ (x : ℕ). ones (bit_and x (get_or a.limits.now h.w 0))) c.along_x.ensures,
        ap ones c.word_y-y.ensures,
        ap ones c.along_z-z.ensures,
      ),
    )
