-- The stored state by which pieces are found: links from vertex to vertex, and how many vertices hang under each top (document 02, Six). What is promised
-- of pieces does not speak of it, but for the links of the longest search.
use Rattle.std.specs.Prelude.{ℕ, zero, suc, ◌+◌, ◌*◌, ◌/◌, max, Bool, cond, ◌&&◌, ◌||◌, List, [], ◌∷◌, eqb, ltb, length, get_or, set}
use Rattle.laws.specs.Below.{below}

-- `up` has what each vertex hangs under, itself for a top; `size` how many vertices hang under a top, itself counted, and 0 for the others;
-- `longest` the links followed in the longest search so far
pub record State : Type 0 where
  pub up : List ℕ
  pub size : List ℕ
  pub longest : ℕ

-- what stands at vertex v
abbrev pub at : List ℕ → ℕ → ℕ
at l v = get_or l v 0

-- a search from v: the top that it finds, and the links that it follows, in at most so many steps
unfoldable pub top_of : (ℕ → ℕ) → ℕ → ℕ → ℕ
top_of up zero v = v
top_of up (suc steps) v = cond (eqb (up v) v) v (top_of up steps (up v))

unfoldable pub links_of : (ℕ → ℕ) → ℕ → ℕ → ℕ
links_of up zero v = 0
links_of up (suc steps) v = cond (eqb (up v) v) 0 (suc (links_of up steps (up v)))

-- each vertex is a piece of its own
abbrev pub begin : ℕ → State
begin n = record { up = below (λ (v : ℕ). v ∷ []) n; size = below (λ (v : ℕ). 1 ∷ []) n; longest = 0 }

-- the top a hung under the top b
abbrev pub hung : ℕ → ℕ → State → State
hung a b st = record {
  up = set st.up a b;
  size = set (set st.size b (at st.size a + at st.size b)) a 0;
  longest = st.longest;
}

-- "the piece with fewer vertices is hung under the other's top (at a tie the one with the higher top)": a goes under b
abbrev pub goes_under : List ℕ → ℕ → ℕ → Bool
goes_under size a b = ltb (at size a) (at size b) || eqb (at size a) (at size b) && ltb b a

abbrev pub united : ℕ → ℕ → State → State
united a b st = cond (eqb a b) st (cond (goes_under st.size a b) (hung a b st) (hung b a st))

-- two more searches, of so many links, are counted
abbrev pub counted : ℕ → ℕ → State → State
counted k l st = record { up = st.up; size = st.size; longest = max st.longest (max k l) }

-- "each join searches both tops": v and w of n vertices. So many steps are always enough (`found`).
unfoldable pub join : ℕ → ℕ → ℕ → State → State
join n v w st =
    united (top_of (at st.up) n v) (top_of (at st.up) n w)
    (counted (links_of (at st.up) n v) (links_of (at st.up) n w) st)

-- "each joins its first vertex with its second, third and fourth"
abbrev pub join_quad : ℕ → ℕ → ℕ → ℕ → ℕ → State → State
join_quad n v0 v1 v2 v3 st = join n v0 v3 (join n v0 v2 (join n v0 v1 st))

-- "Quads go in order": the first m
unfoldable pub after : ℕ → List ℕ → ℕ → State
after n quads zero = begin n
after n quads (suc m) = join_quad n (at quads (4 * m)) (at quads (4 * m + 1)) (at quads (4 * m + 2)) (at quads (4 * m + 3)) (after n quads m)

-- "the number of links followed in the longest single search"
abbrev pub longest_search : ℕ → List ℕ → ℕ
longest_search n quads = (after n quads (length quads / 4)).longest
