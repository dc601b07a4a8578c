-- The corners and edges of one cube, its sign pattern, and which edges are crossed (document 01, "The block and its numbering").
-- A cube is the list of its eight samples, by corner; a sign pattern and a set of edges are masks.
use Rattle.std.specs.Prelude.{ℕ, ◌/◌, ◌%◌, ◌^◌, Bool, List, [], ◌∷◌, get_or}
use Rattle.laws.specs.Bits.{differ, holds, mask_of}
use Rattle.block.specs.declared.Cut.{Cut}
use Rattle.block.specs.Grey.{positive, apart}

-- "Corner of a cube: x + 2y + 4z, each 0 or 1": the coordinate of a corner on an axis, 0 for x, 1 for y, 2 for z
abbrev pub corner_on : ℕ → ℕ → ℕ
corner_on axis c = c / 2 ^ axis % 2

-- "Edges by corner pairs .. The corner named first is the lower one."
abbrev pub edges : List (ℕ × ℕ)
edges = (0, 1) ∷ (2, 3) ∷ (4, 5) ∷ (6, 7) ∷ (0, 2) ∷ (1, 3) ∷ (4, 6) ∷ (5, 7) ∷ (0, 4) ∷ (1, 5) ∷ (2, 6) ∷ (3, 7) ∷ []

abbrev pub lower : ℕ → ℕ
lower e = (get_or edges e (0, 0)).0

abbrev pub upper : ℕ → ℕ
upper e = (get_or edges e (0, 0)).1

-- edges 0 to 3 run along x (axis 0), 4 to 7 along y (1), 8 to 11 along z (2)
abbrev pub axis_of : ℕ → ℕ
axis_of e = e / 4

-- the sample at a corner
abbrev pub corner_sample : List ℕ → ℕ → ℕ
corner_sample corners c = get_or corners c 0

-- the sign pattern of a cube: bit c is set if corner c is positive
unfoldable pub pattern_of : Cut → List ℕ → ℕ
unfolding mask_of
pattern_of cut corners = mask_of (λ (c : ℕ). positive cut (corner_sample corners c)) 8

-- "An edge is crossed if its ends differ in sign", at a sign pattern
abbrev pub crossed : ℕ → ℕ → Bool
crossed pattern e = differ (holds pattern (lower e)) (holds pattern (upper e))

-- the crossed edges of a sign pattern: bit e for edge e
unfoldable pub crossed_mask : ℕ → ℕ
unfolding mask_of
crossed_mask pattern = mask_of (crossed pattern) 12

-- the same of a cube's samples
abbrev pub crossed_at : Cut → List ℕ → ℕ → Bool
crossed_at cut corners e = apart cut (corner_sample corners (lower e)) (corner_sample corners (upper e))
