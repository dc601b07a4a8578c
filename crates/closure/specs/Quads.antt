-- How many quads of a list meet at a vertex, and how many of its sides start there.
use Rattle.std.specs.Prelude.{ℕ, ◌+◌, ◌*◌, ◌/◌, Bool, ◌||◌, List, eqb, length, get_or}
use Rattle.laws.specs.Counting.{count}
use Rattle.closed.specs.Closed.{from}

-- the vertex v is one of the four of quad q
abbrev pub has_vertex : List ℕ → ℕ → ℕ → Bool
has_vertex quads v q =
    eqb (get_or quads (4 * q) 0) v || eqb (get_or quads (4 * q + 1) 0) v || eqb (get_or quads (4 * q + 2) 0) v || eqb (get_or quads (4 * q + 3) 0) v

-- how many quads of the list meet at v
abbrev pub quads_at : List ℕ → ℕ → ℕ
quads_at quads v = count (has_vertex quads v) (length quads / 4)

-- how many sides of the list start at v: the chain that `closed_with` follows
abbrev pub sides_from : List ℕ → ℕ → ℕ
sides_from quads v = count (λ (n : ℕ). eqb (from quads n) v) (length quads)
