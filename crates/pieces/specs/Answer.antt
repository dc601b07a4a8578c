-- What finding the pieces answers, and what the two lent buffers hold afterwards (document 02, Six). One verdict decides for the answer and for both.
use Rattle.std.specs.Prelude.{ℕ, ◌<◌, ◌≡◌, cond, ◌&&◌, List, [], ◌∷◌, eqb, leb, length, get_or}
use Rattle.laws.specs.Below.{below}
use Rattle.laws.specs.Counting.{count}
use Rattle.block.specs.declared.Checked.{Checked}
use Rattle.block.specs.declared.Checked.TheVariants.{Passes}
use Rattle.block.specs.Answer.{Answer, accepted, refused, refuses, in_order, judged, written}
use Rattle.lists.specs.Rows.{length_row, number_row}
use Rattle.trees.specs.Forest.{longest_search}
use Rattle.pieces.specs.declared.Parts.{Parts}
use Rattle.pieces.specs.declared.Pieced.{Pieced}
use Rattle.pieces.specs.declared.Pieced.TheVariants as pieced
use Rattle.pieces.specs.Chains.{PieceOf}

-- 5: "when either buffer is shorter than n (value: n)"
abbrev pub buffer_row : ℕ → ℕ → ℕ → Checked
buffer_row n piece size = cond (leb n piece && leb n size) Passes (refuses 5 n)

-- "Refusals: 7, 14, then 5", by the lengths of the two buffers
abbrev pub pieces_rows : ℕ → List ℕ → ℕ → ℕ → List Checked
pieces_rows n quads piece size = length_row quads ∷ number_row n quads ∷ buffer_row n piece size ∷ []

abbrev pub pieces_verdict : ℕ → List ℕ → ℕ → ℕ → Checked
pieces_verdict n quads piece size = in_order (pieces_rows n quads piece size)

-- the piece numbers of n vertices
pub record Numbers (n : ℕ) (quads numbers : List ℕ) : Type 0 where
  pub for_each : length numbers ≡ n
  pub number : (v : ℕ) → v < n → PieceOf quads v (get_or numbers v 0)

-- "each piece's vertex count at its lowest vertex and zero elsewhere": how many vertices have v as their piece's number
abbrev pub members : ℕ → List ℕ → ℕ → ℕ
members n numbers v = count (λ (w : ℕ). eqb (get_or numbers w 0) v) n

abbrev pub sizes : ℕ → List ℕ → List ℕ
sizes n numbers = below (λ (v : ℕ). members n numbers v ∷ []) n

-- "the count of pieces": how many vertices are the number of their own piece
abbrev pub pieces_in : ℕ → List ℕ → ℕ
pieces_in n numbers = count (λ (v : ℕ). eqb (get_or numbers v 0) v) n

abbrev pub parts_of : ℕ → List ℕ → List ℕ → Parts
parts_of n quads numbers = record { count = pieces_in n numbers; longest = longest_search n quads }

-- 01's number and values of each case
abbrev pub said_pieces : Pieced → Answer Parts
said_pieces (pieced.Found p) = accepted p
said_pieces (pieced.Refused r) = refused r

-- the answer, and the two buffers at entry and, with a prime, at exit, where the checks say k
pub record PiecesBy (k : Checked) (n : ℕ) (quads piece size : List ℕ) (r : Pieced) (piece' size' : List ℕ) : Type 0 where
  pub numbers : List ℕ
  pub right : k ≡ Passes → Numbers n quads numbers
  pub answer : said_pieces r ≡ judged k (parts_of n quads numbers)
  pub numbered : piece' ≡ written k numbers piece
  pub sized : size' ≡ written k (sizes n numbers) size

-- the promise of `pieces`
abbrev pub PiecesFound : ℕ → List ℕ → List ℕ → List ℕ → Pieced → List ℕ → List ℕ → Type 0
PiecesFound n quads piece size r piece' size' =
    PiecesBy (pieces_verdict n quads (length piece) (length size)) n quads piece size r piece' size'
