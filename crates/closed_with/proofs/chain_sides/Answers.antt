-- `chain_sides` meets its contract: the sides from m on are chained.
-- Assumes nothing.
use Prim.Native.Nat.{ℕ, ◌+◌, ◌-◌}
use mathlib.Core.Path.{◌≡◌, refl}
use native.Mathlib.Omega.{arith}
use lib.ListN.{length-set}
use Rattle.closed.proofs.Chains.{top_above}
use Rattle.closed_with.proofs.Chains.{chained_more}
use Rattle.closed_with.proofs.chain_sides.Goals as goal

pub bounds-work-v-in-loop-m : goal.bounds-work-v-in-loop-m
bounds-work-v-in-loop-m c = omega (arith, length-set {A = ℕ}, top_above c.args.quads.now (c.loop-m.m - 1) (omega arith))

pub loop-m-preserved : goal.loop-m-preserved
loop-m-preserved c =
    let l = c.loop-m in
    let last : l.m ≡ l.m - 1 + 1 = omega arith in
    chained_more (l.m - 1) _ refl c.requires.0 (omega arith) (omega arith) (rw last at l.invariant)
