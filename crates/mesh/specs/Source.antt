-- The block that a source gives: its samples, or the grey values of its readings. Assumes nothing.
use Rattle.std.specs.Prelude.{ℕ, ◌≡◌, List, Float}
use Rattle.readings.specs.Reading.{greys_of, Sound}
use Rattle.mesh.specs.declared.Source.{Source}
use Rattle.mesh.specs.declared.Source.TheVariants.{Samples, Readings}

abbrev pub block_of : Source → List ℕ → List Float → List ℕ
block_of Samples s xs = s
block_of Readings s xs = greys_of xs

-- where readings are read, none is at fault
abbrev pub FaultFree : Source → List Float → Type 0
FaultFree source xs = source ≡ Readings → Sound xs
