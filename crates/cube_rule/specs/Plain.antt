-- Cubes with one loop whatever decides their faces, by their signs alone. `s c` is the sign of corner c. Assumes nothing.
use Rattle.std.specs.Prelude.{ℕ, ◌+◌, ◌*◌, Bool, not, ◌&&◌, ◌||◌}
use Rattle.laws.specs.Bits.{differ}
use Rattle.cube_rule.specs.Faces.{ring_corner}

-- the signs round a ring alternate, so that all four of its edges are crossed
abbrev pub alternate : Bool → Bool → Bool → Bool → Bool
alternate a b c d = differ a b && not (differ a c || differ b d)

module _ (s : ℕ → Bool) where
  -- those of the face f
  abbrev pub alternate_on : ℕ → Bool
  alternate_on f = alternate (s (ring_corner f 0)) (s (ring_corner f 1)) (s (ring_corner f 2)) (s (ring_corner f 3))

  -- the signs of the cube are not all alike
  abbrev pub mixed : Bool
  mixed = differ (s 0) (s 1) || (differ (s 0) (s 2) || (differ (s 0) (s 3) || (differ (s 0) (s 4) || (differ (s 0) (s 5) || (differ (s 0) (s 6) || differ (s 0) (s 7))))))

  -- two opposite corners differ in sign
  abbrev pub uneven : Bool
  uneven = differ (s 0) (s 7) || (differ (s 1) (s 6) || (differ (s 2) (s 5) || differ (s 3) (s 4)))

  -- one of the two faces across an axis alternates
  abbrev pub doubtful_on : ℕ → Bool
  doubtful_on axis = alternate_on (2 * axis) || alternate_on (2 * axis + 1)

  -- The signs are mixed, no face alternates, and some two opposite corners differ: without an alternating face, opposite corners that are all
  -- alike are two corners apart from the other six, each with a loop of its own.
  unfoldable pub plain : Bool
  plain = mixed && not (doubtful_on 0 || (doubtful_on 1 || (doubtful_on 2 || mixed && not uneven)))
