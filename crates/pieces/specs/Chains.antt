-- Pieces of a list of quads: two vertices belong together if a chain of quads joins them (document 02, Six). Quad q has the vertices at places 4·q to
-- 4·q + 3 of the list.
use Rattle.std.specs.Prelude.{ℕ, ◌+◌, ◌*◌, ◌≤◌, ◌<◌, ◌≡◌, List, length, get_or}

-- v is one of the four vertices of quad q
pub record VertexOf (quads : List ℕ) (q v : ℕ) : Type 0 where
  pub place : ℕ
  pub place_lt : place < 4
  pub there : 4 * q + 3 < length quads
  pub is : get_or quads (4 * q + place) 0 ≡ v

-- "a chain of quads joins them"
pub data Chain (quads : List ℕ) : ℕ → ℕ → Type 0 where
  none : {v : ℕ} → Chain quads v v
  one : {v w : ℕ} (q : ℕ) → VertexOf quads q v → VertexOf quads q w → Chain quads v w
  more : {u v w : ℕ} → Chain quads u v → Chain quads v w → Chain quads u w

-- "a piece's number is its lowest vertex": p is the number of the piece of v
pub record PieceOf (quads : List ℕ) (v p : ℕ) : Type 0 where
  pub together : Chain quads v p
  pub lowest : (w : ℕ) → Chain quads v w → p ≤ w
