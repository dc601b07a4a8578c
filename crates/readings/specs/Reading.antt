-- The readings of the second bench (document 02, Ten): a reading is a grey value, a ceiling, or one of three faults, and a list of readings is a list of grey values or is
-- refused.
use Rattle.std.specs.Prelude.{ℕ, zero, suc, ◌*◌, ◌/◌, ◌<◌, ◌≡◌, Bool, true, false, cond, List, [], ◌∷◌, map, leb, ℤ, length, get_or, Float}
use Rattle.std.specs.Float.{nan, inf, fin}
use Rattle.std.specs.Float.Ieee.{up, down}
use Rattle.laws.specs.Below.{below}
use Rattle.block.specs.declared.Checked.{Checked}
use Rattle.block.specs.declared.Checked.TheVariants.{Passes}
use Rattle.block.specs.Answer.{Answer, refuses, in_order, judged}
use Rattle.block.specs.Grey.{ceiling}
use Rattle.readings.specs.declared.Reading.{Reading}
use Rattle.readings.specs.declared.Reading.TheVariants.{Grey, Ceiling, NoNumber, Infinite, BelowZero}

-- the greatest whole number not above m · 2 ^ e
abbrev pub whole_part : ℕ → ℤ → ℕ
whole_part m e = m * up e / down e

-- "A finite reading of 65,535 or more is the ceiling", which it is exactly if its whole part is; "any other from zero up becomes the greatest whole number not above it";
-- "Minus zero is zero"
unfoldable pub reading_of : Float → Reading
reading_of nan = NoNumber
reading_of (inf s) = Infinite
reading_of (fin true (suc m) e) = BelowZero
reading_of (fin true zero e) = Grey 0
reading_of (fin false m e) = cond (leb ceiling (whole_part m e)) Ceiling (Grey (whole_part m e))

-- the sample that a reading becomes; one at fault becomes none, and 0 stands for it here
abbrev pub grey_of : Reading → ℕ
grey_of (Grey g) = g
grey_of Ceiling = ceiling
grey_of NoNumber = 0
grey_of Infinite = 0
grey_of BelowZero = 0

-- "the block so obtained"
abbrev pub greys_of : List Float → List ℕ
greys_of xs = map (λ (x : Float). grey_of (reading_of x)) xs

-- the reading with the index i as a check: "19 for no number, 20 for infinite of either sign, 21 for below zero", "with the index as value"
abbrev pub bad_at : ℕ → Reading → Checked
bad_at i (Grey g) = Passes
bad_at i Ceiling = Passes
bad_at i NoNumber = refuses 19 i
bad_at i Infinite = refuses 20 i
bad_at i BelowZero = refuses 21 i

-- "the lowest bad index decides"
unfoldable pub bad_row : List Float → Checked
bad_row xs = in_order (below (λ (i : ℕ). bad_at i (reading_of (get_or xs i nan)) ∷ []) (length xs))

-- the paper's number and values of each case: a single reading has the index 0
abbrev pub said_reading : Reading → Answer ℕ
said_reading r = judged (bad_at 0 r) (grey_of r)

-- a reading is at fault
abbrev pub faulty : Reading → Bool
faulty (Grey g) = false
faulty Ceiling = false
faulty NoNumber = true
faulty Infinite = true
faulty BelowZero = true

-- no reading of the list is at fault
abbrev pub Sound : List Float → Type 0
Sound xs = (i : ℕ) → i < length xs → faulty (reading_of (get_or xs i nan)) ≡ false
