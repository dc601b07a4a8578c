-- The doubtful faces of 64 cubes at once, and the plain cubes, by the words of the corners' signs. Assumes nothing.
use Rattle.std.specs.Prelude.{ℕ, ◌+◌, ◌*◌, List, [], ◌∷◌, get_or}
use Rattle.std.specs.Int.Bits.{bit_or, bit_xor}
use Rattle.cube_rule.specs.Faces.{ring_corner}
use Rattle.planes.specs.Planes.{active_of}

-- the bits of a that b does not have
abbrev pub without_of : ℕ → ℕ → ℕ
without_of a b = bit_xor (bit_or a b) b

-- bit i is set if the signs round a face of cube i alternate, by the words of its corners
abbrev pub alternate_of : ℕ → ℕ → ℕ → ℕ → ℕ
alternate_of p q r s = without_of (bit_xor p q) (bit_or (bit_xor p r) (bit_xor q s))

-- the same of the face f, by the words of all corners
abbrev pub alternate_at : List ℕ → ℕ → ℕ
alternate_at eight f =
    alternate_of (get_or eight (ring_corner f 0) 0) (get_or eight (ring_corner f 1) 0) (get_or eight (ring_corner f 2) 0) (get_or eight (ring_corner f 3) 0)

-- the words of the doubtful faces x=0, x=1, y=0, y=1, z=0, z=1
unfoldable pub alternates_of : List ℕ → List ℕ
alternates_of eight = alternate_at eight 0 ∷ alternate_at eight 1 ∷ alternate_at eight 2 ∷ alternate_at eight 3 ∷ alternate_at eight 4 ∷ alternate_at eight 5 ∷ []

-- two opposite corners of cube i differ in sign
abbrev pub uneven_of : List ℕ → ℕ
uneven_of eight =
    bit_or (bit_xor (get_or eight 0 0) (get_or eight 7 0))
    (bit_or (bit_xor (get_or eight 1 0) (get_or eight 6 0)) (bit_or (bit_xor (get_or eight 2 0) (get_or eight 5 0)) (bit_xor (get_or eight 3 0) (get_or eight 4 0))))

-- one of the two faces across an axis is doubtful, by the words of the doubtful faces
abbrev pub doubtful_of : List ℕ → ℕ → ℕ
doubtful_of doubtful axis = bit_or (get_or doubtful (2 * axis) 0) (get_or doubtful (2 * axis + 1) 0)

-- bit i is set if cube i is plain, by the same words
unfoldable pub plain_among : List ℕ → List ℕ → ℕ
unfolding active_of
plain_among eight doubtful =
    without_of (active_of eight)
    (bit_or (doubtful_of doubtful 0) (bit_or (doubtful_of doubtful 1) (bit_or (doubtful_of doubtful 2) (without_of (active_of eight) (uneven_of eight)))))

abbrev pub plain_of : List ℕ → ℕ
plain_of eight = plain_among eight (alternates_of eight)
