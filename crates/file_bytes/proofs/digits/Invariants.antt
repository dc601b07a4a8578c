-- `digits` meets its contract: the digits cut off, and those of what is left.
-- Assumes nothing.
use Prim.Native.Nat.{◌+◌}
use mathlib.Core.Path.{◌≡◌}
use lib.ListN.{length}
use Rattle.file_bytes.specs.Bytes.{decimal}
use Rattle.file_bytes.proofs.digits.Given as goal

abbrev pub invariant-loop-left : goal.invariant-loop-left
invariant-loop-left l = length (decimal l.n) + 1 ≡ l.count + length (decimal l.left)

abbrev pub decreases-loop-left : goal.decreases-loop-left
decreases-loop-left l = l.left
