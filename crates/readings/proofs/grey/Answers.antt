-- `grey` meets its contract: the whole part of the capped reading is the grey value.
-- Assumes nothing.
use mathlib.Core.Path.{◌≡◌, ◌∙◌}
use Rattle.readings.proofs.Wholes.{cast_whole}
use Rattle.readings.proofs.Readings.{grey_small}
use Prim.Native.Nat.{◌/◌}
use lib.Dec.{T}
use lib.Ieee.{binary32, in_unsigned, to_unsigned}
use lib.Ieee.Positive.{num, den}
use Rattle.readings.proofs.grey.Goals as goal

pub float_to_int-result : goal.float_to_int-result
float_to_int-result c =
    let cast : T (in_unsigned binary32 16 c.whole.result) × (to_unsigned 16 c.whole.result ≡ num c.capped.result / den c.capped.result) = let r = c.capped.result in cast_whole c.whole.result (num r / den r) c.whole.ensures (rw c.capped.ensures.grey (grey_small c.args.x)) in
    cast.0

pub returns : goal.returns
returns c =
    let cast : T (in_unsigned binary32 16 c.whole.result) × (to_unsigned 16 c.whole.result ≡ num c.capped.result / den c.capped.result) = let r = c.capped.result in cast_whole c.whole.result (num r / den r) c.whole.ensures (rw c.capped.ensures.grey (grey_small c.args.x)) in
    cast.1 ∙ c.capped.ensures.grey
