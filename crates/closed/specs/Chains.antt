-- The closed question with lent memory: what it writes there, and its promise. The sides that start at a vertex stand in a chain: the vertex has the
-- first of them, and each side has the next.
use Rattle.std.specs.Prelude.{ℕ, ◌+◌, ◌-◌, max, ◌≡◌, not, List, [], ◌∷◌, ◌++◌, eqb, length}
use Rattle.laws.specs.Below.{below}
use Rattle.laws.specs.Leading.{leading}
use Rattle.block.specs.declared.Checked.{Checked}
use Rattle.block.specs.Answer.{in_order, judged, written}
use Rattle.block.specs.Rows.{room_row}
use Rattle.lists.specs.Rows.{length_row}
use Rattle.closed.specs.declared.Closure.{Closure}
use Rattle.closed.specs.Closed.{from, finding_of, said_closure}

-- one more than the highest number of a list; 0 for the empty list
unfoldable pub top_number : List ℕ → ℕ
top_number [] = 0
top_number (v ∷ l) = max (v + 1) (top_number l)

-- the first side from m on that starts at the vertex v; where there is none, the number of sides
unfoldable pub first_from : List ℕ → ℕ → ℕ → ℕ
unfolding leading
first_from quads v m = m + leading (λ (i : ℕ). not (eqb (from quads (m + i)) v)) (length quads - m)

-- for each vertex the first side that starts at it, then for each side the next that starts where it does
abbrev pub chains : List ℕ → List ℕ
chains quads = below (λ (v : ℕ). first_from quads v 0 ∷ []) (top_number quads) ++ below (λ (m : ℕ). first_from quads (from quads m) (m + 1) ∷ []) (length quads)

-- how many words that takes
abbrev pub words_needed : List ℕ → ℕ
words_needed quads = top_number quads + length quads

-- 7, then 15, with so much room
abbrev pub work_rows : List ℕ → ℕ → List Checked
work_rows quads room = length_row quads ∷ room_row (words_needed quads) room ∷ []

-- the promise of `closed_with`: the answer of `closed`, and the lent memory at exit, work', by what it was at entry
pub record ClosedWith (quads work : List ℕ) (r : Closure) (work' : List ℕ) : Type 0 where
  pub answer : said_closure r ≡ judged (in_order (work_rows quads (length work))) (finding_of quads)
  pub chained : work' ≡ written (in_order (work_rows quads (length work))) (chains quads) work
