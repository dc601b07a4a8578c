-- `plane_edges` meets its contract. The loop's invariant: m is the sum over the rows before j. The measure is what is left of the rows.
-- Assumes nothing.
use native.Mathlib.Omega.{arith}
use mathlib.Core.Path.{sym}
use mathlib.Core.List.{List, [], ◌∷◌}
use Prim.Native.Nat.{ℕ, ◌-◌}
use Rattle.laws.proofs.Sums.{total_none, total_one}
use Rattle.room.specs.Steps.{limits_of, row_edges}
use Rattle.room.proofs.plane_edges.Goals as goal

pub loop-j-init : goal.loop-j-init
loop-j-init c = (omega arith, omega arith, sym (total_none _))

pub loop-j-preserved : goal.loop-j-preserved
loop-j-preserved c =
    let limits_of : List ℕ = c.limit.result ∷ c.limit-2.result ∷ c.limit-3.result ∷ c.limit-4.result ∷ [] in
    let h = c.loop-j in
    (omega arith, omega (arith, h.invariant.1, c.row_edges-m.ensures.upper_bound), omega (arith, h.invariant.2, total_one (row_edges c.args.a.now c.args.b.now limits_of c.args.ny) h.j, c.row_edges-m.ensures.value))
