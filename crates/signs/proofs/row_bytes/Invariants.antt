-- `row_bytes` meets its contract. The loop's invariant: the first i bytes are the signs of the first i samples, and the others are 0.
-- Assumes nothing.
use Rattle.std.proofs.Common.{◌≡◌, length}
use Rattle.signs.specs.Steps.{SignBytes}
use Rattle.signs.proofs.row_bytes.Given as goal

abbrev pub invariant-loop-i : goal.invariant-loop-i
invariant-loop-i g l = record { long : length l.m ≡ 256; signs : SignBytes (g.B.Samples.greys l.samples) l.t l.p l.i l.m }
