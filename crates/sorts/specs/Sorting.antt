-- Cubes with exactly one loop and cubes with exactly two, 64 at once: the circuit of `Rattle.cube_rule.specs.Sorts` on words. `eight` are the words
-- of the corners' signs, `doubtful` those of the doubtful faces, `joined` those of the doubtful faces with joined positive corners.
-- Assumes nothing.
use Rattle.std.specs.Prelude.{ℕ, List, [], ◌∷◌, get_or}
use Rattle.std.specs.Int.Bits.{bit_and, bit_or, bit_xor}
use Rattle.sorts.specs.declared.Sorts.{Sorts}
use Rattle.planes.specs.Planes.{active_of}
use Rattle.faces.specs.Faces.{without_of, doubtful_of, plain_among}

-- an odd number of three bits is set
abbrev pub odd_in_three_of : ℕ → ℕ → ℕ → ℕ
odd_in_three_of a b c = bit_xor (bit_xor a b) c

-- at least two of three
abbrev pub two_in_three_of : ℕ → ℕ → ℕ → ℕ
two_in_three_of a b c = bit_or (bit_and a b) (bit_and c (bit_xor a b))

-- at least two of four
abbrev pub two_in_four_of : ℕ → ℕ → ℕ → ℕ → ℕ
two_in_four_of a b c d = bit_or (bit_and a b) (bit_or (bit_and c d) (bit_and (bit_or a b) (bit_or c d)))

-- at least four corners are positive
unfoldable pub mostly_of : List ℕ → ℕ
mostly_of eight =
    two_in_four_of (two_in_three_of (get_or eight 0 0) (get_or eight 1 0) (get_or eight 2 0)) (two_in_three_of (get_or eight 3 0) (get_or eight 4 0) (get_or eight 5 0))
    (bit_and (get_or eight 6 0) (get_or eight 7 0))
    (two_in_three_of (odd_in_three_of (get_or eight 0 0) (get_or eight 1 0) (get_or eight 2 0)) (odd_in_three_of (get_or eight 3 0) (get_or eight 4 0) (get_or eight 5 0))
    (bit_xor (get_or eight 6 0) (get_or eight 7 0)))

-- a doubtful face across each axis
abbrev pub three_of : List ℕ → ℕ
three_of doubtful = bit_and (doubtful_of doubtful 0) (bit_and (doubtful_of doubtful 1) (doubtful_of doubtful 2))

-- all six
abbrev pub six_from : List ℕ → ℕ → ℕ
six_from doubtful three = bit_and three (bit_and (get_or doubtful 0 0) (get_or doubtful 1 0))

abbrev pub six_of : List ℕ → ℕ
six_of doubtful = six_from doubtful (three_of doubtful)

-- on the face f, which is doubtful, the corners of the rarer sign are joined, where `most` says that most corners are positive
abbrev pub rarer_at : List ℕ → List ℕ → ℕ → ℕ → ℕ
rarer_at doubtful joined most f = bit_xor (get_or joined f 0) (bit_and (get_or doubtful f 0) most)

-- on each face
unfoldable pub rarer_of : List ℕ → List ℕ → ℕ → List ℕ
rarer_of doubtful joined most =
    rarer_at doubtful joined most 0 ∷ rarer_at doubtful joined most 1 ∷ rarer_at doubtful joined most 2
    ∷ rarer_at doubtful joined most 3 ∷ rarer_at doubtful joined most 4 ∷ rarer_at doubtful joined most 5 ∷ []

-- on an odd number of faces
abbrev pub odd_of : List ℕ → ℕ
odd_of rarer =
    bit_xor (get_or rarer 0 0)
    (bit_xor (get_or rarer 1 0) (bit_xor (get_or rarer 2 0) (bit_xor (get_or rarer 3 0) (bit_xor (get_or rarer 4 0) (get_or rarer 5 0)))))

-- on any
abbrev pub some_of : List ℕ → ℕ
some_of rarer =
    bit_or (get_or rarer 0 0) (bit_or (get_or rarer 1 0) (bit_or (get_or rarer 2 0) (bit_or (get_or rarer 3 0) (bit_or (get_or rarer 4 0) (get_or rarer 5 0)))))

-- on an odd number, or, where each axis has a doubtful face, on an even number that is not none
abbrev pub lone_of : ℕ → List ℕ → ℕ
lone_of three rarer = bit_and (some_of rarer) (bit_xor (odd_of rarer) three)

-- exactly one loop, and exactly two, from the words of the mixed and the plain cubes and from those above
abbrev pub one_from : ℕ → ℕ → ℕ → ℕ
one_from plain lone six = bit_or plain (without_of lone six)

abbrev pub two_from : ℕ → ℕ → ℕ → ℕ → ℕ → ℕ → ℕ
two_from mixed plain lone six three some = without_of mixed (bit_or plain (bit_or lone (bit_or six (without_of three some))))

module _ (eight doubtful joined : List ℕ) where
  abbrev rarer : List ℕ
  rarer = rarer_of doubtful joined (mostly_of eight)

  -- exactly one loop
  unfoldable pub one_of : ℕ
  unfolding plain_among mostly_of rarer_of
  one_of = one_from (plain_among eight doubtful) (lone_of (three_of doubtful) rarer) (six_of doubtful)

  -- exactly two loops
  unfoldable pub two_of : ℕ
  unfolding plain_among mostly_of rarer_of
  two_of = two_from (active_of eight) (plain_among eight doubtful) (lone_of (three_of doubtful) rarer) (six_of doubtful) (three_of doubtful) (some_of rarer)

  -- both words
  abbrev pub sorts_of : Sorts
  sorts_of = record { one = one_of; two = two_of }
