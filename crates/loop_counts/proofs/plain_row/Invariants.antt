-- `plain_row` meets its contract. The loop's invariant: the active cubes of the words before w are plain, and counted. The measure is what is left
-- of four words. Assumes nothing.
use Prim.Native.Nat.{ℕ, ◌+◌, ◌-◌, ◌*◌, ◌≤◌}
use mathlib.Core.Path.{◌≡◌}
use mathlib.Core.Bool.{Bool, true}
use mathlib.Core.List.{List}
use Rattle.planes.specs.Planes.{eight_of}
use Rattle.rows.specs.Quiet.{active_in, words_in_row, every}
use Rattle.loop_counts.specs.PlainRow.{plain_word, active_to}
use Rattle.loop_counts.proofs.plain_row.Given as goal

-- the active cubes of word w are plain
abbrev pub plain_at : List ℕ → List ℕ → ℕ → ℕ → ℕ → Bool
plain_at a b nx j w = plain_word (eight_of a b (5 * j + w)) (active_in a b nx j w)

abbrev pub invariant-loop-w : goal.invariant-loop-w
invariant-loop-w l = (l.w ≤ words_in_row l.row.nx) × (true ≡ every (plain_at l.a l.b l.row.nx l.row.j) l.w) × (l.m ≡ active_to l.a l.b l.row.nx l.row.j l.w) × (l.m ≤ 64 * l.w)

abbrev pub decreases-loop-w : goal.decreases-loop-w
decreases-loop-w l = 4 - l.w
