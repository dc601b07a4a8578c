-- `fraction_of` meets its contract: one division of two distances, each of which fits an f64.
-- Assumes nothing.
use mathlib.Core.Path.{ap₂}
use Prim.Native.Nat.{ℕ}
use lib.Ieee.{Float, binary64, div}
use Rattle.place.specs.Crossing.{float, fraction}
use Rattle.place.proofs.fraction_of.Goals as goal

abbrev quotient : ℕ → ℕ → Float
quotient n d = div binary64 (float n) (float d)

pub returns : goal.returns
unfolding fraction
returns c = ap₂ quotient c.apart-n.ensures c.span-d.ensures
