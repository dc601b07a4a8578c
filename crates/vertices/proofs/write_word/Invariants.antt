-- `write_word` meets its contract. The loop's invariant: w holds the bits from i on, and the vertices of the cubes before i that are picked
-- are stored and noted. The measure is what is left of the 64 bits.
-- Assumes nothing.
use Prim.Native.Nat.{ℕ, ◌+◌, ◌-◌}
use mathlib.Core.List.{List}
use lib.Ieee.{Float}
use Rattle.cube_rule.specs.Decider.{loops_of}
use Rattle.laws.specs.Below.{below}
use Rattle.laws.proofs.Visit.{Left}
use Rattle.rows.specs.declared.Row.{Row}
use Rattle.rows.specs.Rows.{loops_at, picked}
use Rattle.rows.proofs.Visits.{bits_of}
use Rattle.cube_vertices.specs.declared.Spot.{Spot}
use Rattle.cube_vertices.specs.Cubes.{names_at, words_at, offsets_at, Stored}
use Rattle.notes.specs.Tables.{Noted}
use Rattle.vertices.proofs.write_word.Given as goal

-- what the cube x of the word has: the masks of its loops, the words of its vertices in a table and in the buffer, and their offsets
module _ (lo hi : List ℕ) (row : Row) (spot : Spot) where
  abbrev pub loops : ℕ → List ℕ
  loops x = loops_at loops_of lo hi row.cut row.nx (spot.x + x)

  abbrev pub names : ℕ → List ℕ
  names x = names_at loops_of lo hi row.cut row.nx (spot.x + x)

  abbrev pub words : ℕ → List ℕ
  words x = words_at loops_of lo hi row.cut row.nx (spot.c + x) (spot.x + x)

  abbrev pub offsets : ℕ → List Float
  offsets x = offsets_at loops_of lo hi row.cut row.nx (spot.x + x)

abbrev pub invariant-loop-w : goal.invariant-loop-w
invariant-loop-w l = record {
  left : Left (bits_of l.act) 64 l.i l.w;
  stored : Stored l.spot.v (below (picked l.act (loops l.lo l.hi l.row l.spot)) l.i) (below (picked l.act (words l.lo l.hi l.row l.spot)) l.i)
      (below (picked l.act (offsets l.lo l.hi l.row l.spot)) l.i) l.initial.words l.words l.initial.offsets l.offsets l.m;
  noted : Noted (picked l.act (loops l.lo l.hi l.row l.spot)) (picked l.act (names l.lo l.hi l.row l.spot)) l.spot.x l.i (l.spot.first + l.spot.v) l.initial.numbers l.numbers;
}

abbrev pub decreases-loop-w : goal.decreases-loop-w
decreases-loop-w l = 64 - l.i
