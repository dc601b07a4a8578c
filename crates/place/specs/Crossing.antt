-- The edge question: no crossing, one fraction, or a refusal (document 01, "Faces, loops and places").
use Rattle.std.specs.Prelude.{ℕ, ◌+◌, ◌-◌, ◌≡◌, cond, List, [], ◌∷◌, pos, Float}
use Rattle.std.specs.Float.{binary64}
use Rattle.std.specs.Float.Ieee.{div, of_int}
use Rattle.block.specs.declared.Cut.{Cut}
use Rattle.block.specs.Answer.{Answer, accepted, refused, in_order, judged}
use Rattle.block.specs.Grey.{cut_of, apart}
use Rattle.block.specs.Rows.{threshold_row}
use Rattle.place.specs.declared.Crossing.{Crossing}
use Rattle.place.specs.declared.Crossing.TheVariants.{Nothing, At, Refused}

-- |a − b|
abbrev pub gap : ℕ → ℕ → ℕ
gap a b = (a - b) + (b - a)

-- a whole number as an f64
abbrev pub float : ℕ → Float
float n = of_int binary64 (pos n)

-- "With lower value p and upper q the fraction is |t−p| divided by |q−p| in f64, one division."
unfoldable pub fraction : Cut → ℕ → ℕ → Float
fraction cut p q = div binary64 (float (gap cut.t p)) (float (gap q p))

-- "An edge answers no crossing, or one fraction", and "is crossed if its ends differ in sign"
unfoldable pub crossing : Cut → ℕ → ℕ → List Float
unfolding fraction
crossing cut p q = cond (apart cut p q) (fraction cut p q ∷ []) []

-- 01's number and values of each case
abbrev pub said_edge : Crossing → Answer (List Float)
said_edge Nothing = accepted []
said_edge (At f) = accepted (f ∷ [])
said_edge (Refused r) = refused r

-- two ends and a threshold have a crossing or none, or are refused by row 3. "Edge answers don't read n": it is 0 here, and with any other the answer is the same
-- (`edge_reads_no_noise`)
unfoldable pub edge_answer : ℕ → ℕ → ℕ → Answer (List Float)
unfolding crossing
edge_answer p q t = judged (in_order (threshold_row (cut_of t 0) ∷ [])) (crossing (cut_of t 0) p q)

-- the promise of `edge`
abbrev pub EdgeAnswered : ℕ → ℕ → ℕ → Crossing → Type 0
EdgeAnswered p q t r = said_edge r ≡ edge_answer p q t
