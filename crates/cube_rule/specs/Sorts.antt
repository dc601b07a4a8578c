-- Cubes with exactly one loop and cubes with exactly two, by their signs and by how their doubtful faces are decided: a face is doubtful if the
-- signs round it alternate. `s c` is the sign of corner c; `j f` says that the face f is doubtful and its positive corners are joined.
-- Assumes nothing.
use Rattle.std.specs.Prelude.{ℕ, Bool, ◌&&◌, ◌||◌}
use Rattle.std.proofs.Math.Bool.{not}
use Rattle.laws.specs.Bits.{differ}
use Rattle.cube_rule.specs.Plain.{alternate_on, mixed, doubtful_on, plain}

-- the doubtful faces with joined positive corners, where d decides each face
abbrev pub joined_on : (ℕ → Bool) → (ℕ → Bool) → ℕ → Bool
joined_on s d f = alternate_on s f && d f

-- an odd number of three holds
abbrev pub odd_in_three : Bool → Bool → Bool → Bool
odd_in_three a b c = differ (differ a b) c

-- at least two of three hold
abbrev pub two_in_three : Bool → Bool → Bool → Bool
two_in_three a b c = a && b || c && differ a b

-- at least two of four hold
abbrev pub two_in_four : Bool → Bool → Bool → Bool → Bool
two_in_four a b c d = a && b || (c && d || (a || b) && (c || d))

module _ (s : ℕ → Bool) where
  -- At least four corners are positive: in twos, those among corners 0 to 2, among 3 to 5, among 6 and 7, and among what these leave over.
  unfoldable pub mostly : Bool
  mostly =
      two_in_four (two_in_three (s 0) (s 1) (s 2)) (two_in_three (s 3) (s 4) (s 5)) (s 6 && s 7)
      (two_in_three (odd_in_three (s 0) (s 1) (s 2)) (odd_in_three (s 3) (s 4) (s 5)) (differ (s 6) (s 7)))

  -- a doubtful face across each axis: three faces, or all six
  abbrev pub three : Bool
  three = doubtful_on s 0 && (doubtful_on s 1 && doubtful_on s 2)

  -- all six
  abbrev pub six : Bool
  six = three && (alternate_on s 0 && alternate_on s 1)

  module _ (j : ℕ → Bool) where
    -- on the face f, which is doubtful, the corners of the rarer sign are joined: the positive ones, or, where most are positive, the others
    abbrev pub rarer : ℕ → Bool
    rarer f = differ (j f) (alternate_on s f && mostly)

    -- they are on an odd number of faces
    abbrev pub odd : Bool
    odd = differ (rarer 0) (differ (rarer 1) (differ (rarer 2) (differ (rarer 3) (differ (rarer 4) (rarer 5)))))

    -- on any face
    abbrev pub some : Bool
    some = rarer 0 || (rarer 1 || (rarer 2 || (rarer 3 || (rarer 4 || rarer 5))))

    -- on an odd number, or, where each axis has a doubtful face, on an even number that is not none
    abbrev pub lone : Bool
    lone = some && differ odd three

    -- exactly one loop
    unfoldable pub one : Bool
    unfolding plain mostly
    one = plain s || lone && not six

    -- exactly two loops
    unfoldable pub two : Bool
    unfolding plain mostly
    two = mixed s && not (plain s || (lone || (six || three && not some)))
