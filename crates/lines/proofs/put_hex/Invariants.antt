-- `put_hex` meets its contract: the digits above the bits that are left are put.
-- Assumes nothing.
use Prim.Native.Nat.{◌+◌, ◌*◌, ◌-◌, ◌≤◌}
use mathlib.Core.Path.{◌≡◌}
use lib.ListN.{length}
use Rattle.lines.proofs.Writing.{PutTo}
use Rattle.lines.proofs.put_hex.Given as goal

abbrev pub invariant-loop-left : goal.invariant-loop-left
invariant-loop-left l = (l.at ≤ l.next) × (l.left + 4 * (l.next - l.at) ≡ 4 * l.k) × PutTo l.initial.out l.at l.value l.left l.out l.next × (length l.out ≡ length l.initial.out)

abbrev pub decreases-loop-left : goal.decreases-loop-left
decreases-loop-left l = l.left
