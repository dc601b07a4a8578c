-- `gathered` meets its contract. The loop's invariant: y holds the first 8 k bytes of the word, byte 8 j + l as bit j of the byte l.
-- Assumes nothing.
use Rattle.std.proofs.Common.{◌≡◌}
use Rattle.laws.specs.Pack.{pack}
use Rattle.signs.proofs.Spread.{spread_at}
use Rattle.signs.proofs.gathered.Given as goal

abbrev pub invariant-loop-k : goal.invariant-loop-k
invariant-loop-k l = l.y ≡ pack (spread_at l.bytes l.w l.k) 64
