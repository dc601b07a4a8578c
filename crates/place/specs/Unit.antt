-- What is promised of each fraction and of each coordinate of each offset (document 01, "Faces, loops and places").
use Rattle.std.specs.Prelude.{ℕ, ◌≡◌, false, T, ℤ, Float}
use Rattle.std.specs.Float.{fin}
use Rattle.std.specs.Float.Ieee.{le}
use Rattle.place.specs.declared.Offset.{Offset}
use Rattle.place.specs.Place.{plus_zero, one}

-- a number with the sign plus, so no NaN and "never minus zero"; "at least 0 and at most 1"
pub record InUnit (x : Float) : Type 0 where
  pub plus : (m : ℕ) × (e : ℤ) × (x ≡ fin false m e)
  pub at_least : T (le plus_zero x)
  pub at_most : T (le x one)

-- each coordinate of an offset is so
abbrev pub Inside : Offset → Type 0
Inside o = InUnit o.x × InUnit o.y × InUnit o.z
