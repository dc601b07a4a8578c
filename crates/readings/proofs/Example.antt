-- Readings by their bits, as the definitions have them.
-- Assumes nothing.
use mathlib.Core.Path.{◌≡◌, refl}
use mathlib.Core.List.{List, [], ◌∷◌}
use lib.Ieee.{Float, of_bits, binary32}
use Rattle.laws.specs.Below.{below}
use Rattle.block.specs.Answer.{refuses, in_order}
use Rattle.readings.specs.declared.Reading.TheVariants.{Grey, Ceiling, NoNumber, Infinite, BelowZero}
use Rattle.readings.specs.Reading.{reading_of, bad_row}

-- ---- the faults: no number, plus and minus infinity, −1, and the greatest float below zero

no_number : reading_of (of_bits binary32 0x7FC00000) ≡ NoNumber
unfolding reading_of of_bits
no_number = refl

infinity : reading_of (of_bits binary32 0x7F800000) ≡ Infinite
unfolding reading_of of_bits
infinity = refl

minus_infinity : reading_of (of_bits binary32 0xFF800000) ≡ Infinite
unfolding reading_of of_bits
minus_infinity = refl

minus_one : reading_of (of_bits binary32 0xBF800000) ≡ BelowZero
unfolding reading_of of_bits
minus_one = refl

just_below_zero : reading_of (of_bits binary32 0x80000001) ≡ BelowZero
unfolding reading_of of_bits
just_below_zero = refl

-- ---- grey values: minus zero, the least float above zero, the greatest below 1, and the greatest below 65,535

minus_zero : reading_of (of_bits binary32 0x80000000) ≡ Grey 0
unfolding reading_of of_bits
minus_zero = refl

least : reading_of (of_bits binary32 0x00000001) ≡ Grey 0
unfolding reading_of of_bits
least = refl

just_below_one : reading_of (of_bits binary32 0x3F7FFFFF) ≡ Grey 0
unfolding reading_of of_bits
just_below_one = refl

three : reading_of (of_bits binary32 0x40400000) ≡ Grey 3
unfolding reading_of of_bits
three = refl

just_below_ceiling : reading_of (of_bits binary32 0x477FFEFF) ≡ Grey 65534
unfolding reading_of of_bits
just_below_ceiling = refl

-- ---- ceilings: 65,535, 65,535.5, and 3.4e38

at_ceiling : reading_of (of_bits binary32 0x477FFF00) ≡ Ceiling
unfolding reading_of of_bits
at_ceiling = refl

above_ceiling : reading_of (of_bits binary32 0x477FFF80) ≡ Ceiling
unfolding reading_of of_bits
above_ceiling = refl

far_above : reading_of (of_bits binary32 0x7F7FC99E) ≡ Ceiling
unfolding reading_of of_bits
far_above = refl

-- ---- a list: below zero at the index 5, no number at 7

abbrev one : Float
one = of_bits binary32 0x3F800000

abbrev two_faults : List Float
two_faults = one ∷ one ∷ one ∷ one ∷ one ∷ of_bits binary32 0xBF800000 ∷ one ∷ of_bits binary32 0x7FC00000 ∷ one ∷ []

lowest_decides : bad_row two_faults ≡ refuses 21 5
unfolding bad_row in_order below reading_of of_bits
lowest_decides = refl
