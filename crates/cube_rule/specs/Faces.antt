-- The six faces of a cube (document 01, "The block and its numbering"): x=0, x=1, y=0, y=1, z=0, z=1 are faces 0 to 5.
use Rattle.std.specs.Prelude.{ℕ, List, [], ◌∷◌, get_or}

-- "Faces by edges", in 01's order round the face
abbrev pub face_edges : List (List ℕ)
face_edges =
    (4 ∷ 10 ∷ 6 ∷ 8 ∷ []) ∷ (5 ∷ 11 ∷ 7 ∷ 9 ∷ [])
    ∷ (0 ∷ 9 ∷ 2 ∷ 8 ∷ []) ∷ (1 ∷ 11 ∷ 3 ∷ 10 ∷ [])
    ∷ (0 ∷ 5 ∷ 1 ∷ 4 ∷ []) ∷ (2 ∷ 7 ∷ 3 ∷ 6 ∷ []) ∷ []

-- the corners between them: edge i of a face joins its corner i to the next one, the last to the first
abbrev pub face_corners : List (List ℕ)
face_corners =
    (0 ∷ 2 ∷ 6 ∷ 4 ∷ []) ∷ (1 ∷ 3 ∷ 7 ∷ 5 ∷ [])
    ∷ (0 ∷ 1 ∷ 5 ∷ 4 ∷ []) ∷ (2 ∷ 3 ∷ 7 ∷ 6 ∷ [])
    ∷ (0 ∷ 1 ∷ 3 ∷ 2 ∷ []) ∷ (4 ∷ 5 ∷ 7 ∷ 6 ∷ []) ∷ []

abbrev pub ring_edge : ℕ → ℕ → ℕ
ring_edge f i = get_or (get_or face_edges f []) i 0

abbrev pub ring_corner : ℕ → ℕ → ℕ
ring_corner f i = get_or (get_or face_corners f []) i 0
