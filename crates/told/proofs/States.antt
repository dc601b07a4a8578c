-- A state by its eight numbers, one by one.
-- Assumes nothing.
use Prim.Native.Nat.{ℕ, ◌%◌}
use mathlib.Core.Path.{◌≡◌}
use mathlib.Core.List.{List}
use lib.ListN.{get_or}
use Rattle.block.specs.Grey.{cut_of}
use Rattle.told.specs.Numbers.{state_of}

pub state_same : (l : List ℕ) {a b c d e f g h : ℕ} → a ≡ get_or l 0 0 → b ≡ get_or l 1 0 → c ≡ get_or l 2 0 → d ≡ get_or l 3 0 → e ≡ get_or l 4 0 → f ≡ get_or l 5 0 → g ≡ get_or l 6 0 → h ≡ get_or l 7 0
    → record { nx = a; ny = b; nz = c; cut = cut_of (d % 65536) e; vertices = f; quads = g; planes = h } ≡ state_of l
state_same l ea eb ec ed ee ef eg eh = rw (ea, eb, ec, ed, ee, ef, eg, eh)
