-- `walks_from` meets its contract: the chain of a is followed.
-- Assumes nothing.
use Prim.Native.Nat.{◌+◌}
use mathlib.Core.Path.{◌≡◌, refl}
use mathlib.Core.Bool.{Bool, true, false}
use mir.Val.{bool_byte}
use native.Mathlib.Omega.{arith}
use Rattle.laws.specs.Bits.{bit}
use Rattle.closed.specs.Closed.{from}
use Rattle.closed.proofs.Chains.{first_ge}
use Rattle.closed_with.proofs.Chains.{follow_first, follow_next}
use Rattle.closed_with.proofs.walks_from.Goals as goal

-- what a test counts
counted : (t : Bool) → bool_byte t ≡ bit t
counted true = refl
counted false = refl

pub loop-m-init : goal.loop-m-init
loop-m-init c = follow_first _ _ _ _ (c.requires.2.heads _ c.requires.0)

pub loop-m-smaller : goal.loop-m-smaller
loop-m-smaller c =
    let l = c.loop-m in
    let quads = c.args.quads.now in
    omega (arith, c.requires.2.links l.m (omega arith), first_ge quads (from quads l.m) (l.m + 1))

pub loop-m-preserved : goal.loop-m-preserved
loop-m-preserved c =
    let l = c.loop-m in
    follow_next c.args.quads.now c.args.a c.args.b l.found l.m c.next-e.result _ _ l.invariant (omega arith) c.next-e.ensures (counted _) (c.requires.2.links l.m (omega arith))
