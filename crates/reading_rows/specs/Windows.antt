-- A window of readings as it is lent to the passes over a row. Assumes nothing.
use Rattle.std.specs.Prelude.{◌≡◌, List, ℕ, length, take, Float}
use Rattle.readings.specs.Reading.{greys_of}

-- the grey values of the readings stand at the front of a buffer for the largest window
pub record Window (xs : List Float) (w : List ℕ) : Type 0 where
  pub long : length w ≡ 512
  pub front : take (length xs) w ≡ greys_of xs
