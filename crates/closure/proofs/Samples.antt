-- What the definitions say of the smallest cases: the middle of each face of a box lies on it, and that of the box does not; a quad has each of its four
-- vertices, and one side that starts there.
-- Assumes nothing.
use Prim.Native.Nat.{ℕ}
use mathlib.Core.Path.{◌≡◌, refl}
use mathlib.Core.Bool.{true, false}
use mathlib.Core.List.{List, [], ◌∷◌}
use Rattle.laws.specs.Counting.{count}
use Rattle.block.specs.declared.Size.{Size}
use Rattle.closure.specs.Faces.{on_box_face}
use Rattle.closure.specs.Quads.{quads_at, sides_from}

abbrev three : Size
three = record { nx = 3; ny = 3; nz = 3 }

pub low_middles : (on_box_face three 0 1 1 ≡ true) × (on_box_face three 1 0 1 ≡ true) × (on_box_face three 1 1 0 ≡ true)
low_middles = (refl, refl, refl)

pub high_middles : (on_box_face three 2 1 1 ≡ true) × (on_box_face three 1 2 1 ≡ true) × (on_box_face three 1 1 2 ≡ true)
high_middles = (refl, refl, refl)

pub middle : on_box_face three 1 1 1 ≡ false
middle = refl

-- of the quads 0,1,2,3 and 3,2,1,4
abbrev two : List ℕ
two = 0 ∷ 1 ∷ 2 ∷ 3 ∷ 3 ∷ 2 ∷ 1 ∷ 4 ∷ []

pub quads_met : (quads_at two 0 ≡ 1) × (quads_at two 1 ≡ 2) × (quads_at two 2 ≡ 2) × (quads_at two 3 ≡ 2) × (quads_at two 4 ≡ 1) × (quads_at two 5 ≡ 0)
unfolding count
quads_met = (refl, refl, refl, refl, refl, refl)

pub sides_met : (sides_from two 0 ≡ 1) × (sides_from two 3 ≡ 2) × (sides_from two 5 ≡ 0)
unfolding count
sides_met = (refl, refl, refl)
