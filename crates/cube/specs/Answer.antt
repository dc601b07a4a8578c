-- What the cube question answers of a cube's loops (document 01, "Faces, loops and places").
-- Assumes nothing.
use Rattle.std.specs.Prelude.{ℕ, List, length}
use Rattle.laws.specs.Filled.{filled}
use Rattle.block.specs.declared.Cut.{Cut}
use Rattle.cube_rule.specs.Decider.{loops_of}
use Rattle.cube.specs.declared.Loops.{Loops}

-- how many there are, and their masks in order, with 0 in the places left over of four
abbrev pub answered : List ℕ → Loops
answered masks = record { count = length masks; masks = filled 4 0 masks }

abbrev pub loops_given : Cut → List ℕ → Loops
loops_given cut corners = answered (loops_of cut corners)
