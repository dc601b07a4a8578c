-- When a list of quads is closed, and what the closed question answers (document 01, "The mesh"; document 02, Four). Side s of quad q is side 4·q + s of the list.
use Rattle.std.specs.Prelude.{ℕ, ◌+◌, ◌*◌, ◌/◌, ◌%◌, ◌≡◌, Bool, cond, not, ◌&&◌, List, [], ◌∷◌, eqb, length, get_or}
use Rattle.laws.specs.Counting.{count}
use Rattle.laws.specs.Leading.{leading}
use Rattle.block.specs.Answer.{Answer, accepted, refused, in_order, judged}
use Rattle.lists.specs.Rows.{length_row}
use Rattle.closed.specs.declared.Closure.{Closure}
use Rattle.closed.specs.declared.Closure.TheVariants.{Closed, Open, Refused}

-- "Side s runs from vertex s to the next, 3 back to 0": the two ends of side n
abbrev pub from : List ℕ → ℕ → ℕ
from quads n = get_or quads n 0

abbrev pub to : List ℕ → ℕ → ℕ
to quads n = get_or quads (4 * (n / 4) + (n + 1) % 4) 0

-- side n is walked from a to b
abbrev pub walked : List ℕ → ℕ → ℕ → ℕ → Bool
walked quads a b n = eqb (from quads n) a && eqb (to quads n) b

-- how often a side is walked from a to b, "over all quads"
abbrev pub walks : List ℕ → ℕ → ℕ → ℕ
walks quads a b = count (walked quads a b) (length quads)

-- side n "is walked as often one way as the other, over all quads, and has two different ends"
abbrev pub side_sound : List ℕ → ℕ → Bool
side_sound quads n =
    not (eqb (from quads n) (to quads n))
    && eqb (walks quads (from quads n) (to quads n)) (walks quads (to quads n) (from quads n))

-- what is found of a list: it is closed, or it is open at a side of a quad
pub data Finding : Type 0 where
  all_sound : Finding
  open_at : ℕ → ℕ → Finding

-- "Otherwise the answer is the first side at fault, by quad and then by side. The empty list is closed."
unfoldable pub finding_of : List ℕ → Finding
finding_of quads =
    let first = leading (side_sound quads) (length quads) in
    cond (eqb first (length quads)) all_sound (open_at (first / 4) (first % 4))

-- 01's number and values of each case
abbrev pub said_closure : Closure → Answer Finding
said_closure Closed = accepted all_sound
said_closure (Open q s) = accepted (open_at q s)
said_closure (Refused r) = refused r

-- the promise of `closed`: "the closed question only 7"
abbrev pub ClosedAnswered : List ℕ → Closure → Type 0
ClosedAnswered quads r = said_closure r ≡ judged (in_order (length_row quads ∷ [])) (finding_of quads)
