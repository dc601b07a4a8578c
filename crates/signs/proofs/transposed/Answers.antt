-- `transposed` meets its contract: a word whose bits are all alike stays as it is, which is computed.
-- Assumes nothing.
use Rattle.std.proofs.Common.{refl}
use Rattle.laws.specs.Pack.{pack}
use Rattle.signs.proofs.transposed.Goals as goal

pub returns-then-y-eq0 : goal.returns-then-y-eq0
unfolding pack
returns-then-y-eq0 c = rw c.if-y-eq0.true refl

pub returns-then-y-eq18446744073709551615 : goal.returns-then-y-eq18446744073709551615
unfolding pack
returns-then-y-eq18446744073709551615 c = rw c.if-y-eq18446744073709551615.true refl
