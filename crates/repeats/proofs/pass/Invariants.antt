-- `pass` meets its contract. The loop's invariant: the entries of the parts before are passed.
-- Assumes nothing.
use Rattle.std.proofs.Common.{◌≡◌, ℕ, ◌*◌, min}
use Rattle.repeats.specs.Fresh.{span, Passed}
use Rattle.repeats.proofs.pass.Given as goal

abbrev pub invariant-loop-part : goal.invariant-loop-part
invariant-loop-part g l = (v : ℕ) → v ≡ min (64 * l.part) l.limit → Passed (g.T.Keyed.key l.entries) (span * l.r) v l.table
