-- What the steps of the code say of readings: that none of the first is at fault, and what the whole part of one is.
-- Assumes nothing.
use Rattle.std.specs.Prelude.{ℕ, ◌*◌, ◌/◌, ◌≤◌, ◌<◌, ◌≡◌, true, false, List, length, get_or, Float}
use Rattle.std.specs.Float.{nan, inf, fin}
use Rattle.std.specs.Float.Ieee.{up, down}
use Rattle.std.specs.Float.Ieee.Exact.{HasValue}
use Rattle.std.specs.Float.Ieee.Positive.{num, den}
use Rattle.readings.specs.Reading.{reading_of, grey_of, faulty}

-- no reading before the index is, and the index is in the list or at its end
pub record SoundTo (xs : List Float) (n : ℕ) : Type 0 where
  pub inside : n ≤ length xs
  pub before : (i : ℕ) → i < n → faulty (reading_of (get_or xs i nan)) ≡ false

-- x is minus zero, or from zero to 65,535
abbrev pub InRange : Float → Type 0
InRange nan = ⊥
InRange (inf s) = ⊥
InRange (fin true m e) = m ≡ 0
InRange (fin false m e) = m * up e ≤ 65535 * down e

-- r is the whole part of x, exactly
abbrev pub WholeOf : Float → Float → Type 0
WholeOf x r = HasValue r false (num x / den x) 1

-- r is in the range, and its whole part is the grey value of x
pub record Capped (x r : Float) : Type 0 where
  pub ranged : InRange r
  pub grey : num r / den r ≡ grey_of (reading_of x)
