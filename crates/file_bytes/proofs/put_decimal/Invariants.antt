-- `put_decimal` meets its contract: the digits behind those that are left are put.
-- Assumes nothing.
use Prim.Native.Nat.{◌-◌}
use mathlib.Core.Path.{◌≡◌}
use lib.ListN.{length}
use Rattle.file_bytes.proofs.Writing.{PutDown}
use Rattle.file_bytes.proofs.put_decimal.Given as goal

abbrev pub invariant-loop-next : goal.invariant-loop-next
invariant-loop-next l = PutDown l.initial.out l.at l.n l.out l.next l.left × (length l.out ≡ length l.initial.out)

abbrev pub decreases-loop-next : goal.decreases-loop-next
decreases-loop-next l = l.next - l.at
