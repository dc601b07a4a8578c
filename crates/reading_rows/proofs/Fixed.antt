-- The promises fix the answers and the buffers at exit: those of `row_counts` and `row_step` are the promises that the functions of `layers` have, over the grey
-- values. Assumes nothing.
use Prim.Native.Nat.{ℕ}
use mathlib.Core.Path.{◌≡◌}
use mathlib.Core.List.{List}
use lib.Ieee.{Float}
use Rattle.laws.specs.Below.{over}
use Rattle.laws.specs.Fixed.{Fixes}
use Rattle.block.specs.declared.Cut.{Cut}
use Rattle.block.specs.declared.Size.{Size}
use Rattle.signs.specs.Signs.{plane_words}
use Rattle.signs.proofs.Fixed.{plane_signs_fixed}
use Rattle.readings.specs.Reading.{greys_of}

pub reading_signs_fixed : (n : Size) (xs : List Float) (cut : Cut) (k : ℕ) (entry : List ℕ) → Fixes (λ (exit : List ℕ). exit ≡ over (plane_words n (greys_of xs) cut k) entry)
reading_signs_fixed n xs = plane_signs_fixed n (greys_of xs)
