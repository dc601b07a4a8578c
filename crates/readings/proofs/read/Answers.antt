-- `read` meets its contract, by cases on the float.
-- Assumes nothing.
use mathlib.Core.Path.{ap, ◌∙◌, ◌≡◌}
use native.Mathlib.Omega.{arith}
use lib.Ieee.{of_bits, binary32, in_unsigned, to_unsigned}
use Rattle.readings.specs.declared.Reading.TheVariants.{Grey}
use Rattle.readings.proofs.Wholes.{cast_whole}
use Rattle.readings.proofs.Cases.{no_number, infinite, finite, below_zero, ceiling, small, Small}
use Prim.Native.Nat.{◌/◌}
use lib.Dec.{T}
use lib.Ieee.Positive.{num, den}
use Rattle.readings.proofs.read.Goals as goal

pub returns-then-x : goal.returns-then-x
returns-then-x c = no_number c.args.x c.if-x.true

pub returns-then-d : goal.returns-then-d
returns-then-d c = infinite binary32 c.args.x c.if-x.false c.if-d.true

pub returns-then-x-2 : goal.returns-then-x-2
unfolding of_bits
returns-then-x-2 c =
    let x = c.args.x in below_zero x (finite binary32 x c.if-x.false c.if-d.false) c.if-x-2.true

pub returns-then-x-3 : goal.returns-then-x-3
unfolding of_bits
returns-then-x-3 c =
    let x = c.args.x in ceiling x (finite binary32 x c.if-x.false c.if-d.false) c.if-x-3.true

pub whole-requires : goal.whole-requires
unfolding of_bits
whole-requires c =
    let left-small : Small c.args.x = let x = c.args.x in small x (finite binary32 x c.if-x.false c.if-d.false) c.if-x-2.false c.if-x-3.false in
    left-small.ranged

pub float_to_int-result : goal.float_to_int-result
unfolding of_bits
float_to_int-result c =
    let left-small : Small c.args.x = let x = c.args.x in small x (finite binary32 x c.if-x.false c.if-d.false) c.if-x-2.false c.if-x-3.false in
    let cast : T (in_unsigned binary32 16 c.whole.result) × (to_unsigned 16 c.whole.result ≡ num c.args.x / den c.args.x) = let x = c.args.x in cast_whole c.whole.result (num x / den x) c.whole.ensures (omega (arith, (left-small).whole)) in
    cast.0

pub returns : goal.returns
unfolding of_bits
returns c =
    let left-small : Small c.args.x = let x = c.args.x in small x (finite binary32 x c.if-x.false c.if-d.false) c.if-x-2.false c.if-x-3.false in
    let cast : T (in_unsigned binary32 16 c.whole.result) × (to_unsigned 16 c.whole.result ≡ num c.args.x / den c.args.x) = let x = c.args.x in cast_whole c.whole.result (num x / den x) c.whole.ensures (omega (arith, (left-small).whole)) in
    ap Grey cast.1 ∙ left-small.is
