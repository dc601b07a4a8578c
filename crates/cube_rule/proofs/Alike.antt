-- The tests of a cube's signs and of its faces' decisions see only its eight corners and six faces. Assumes nothing.
use mathlib.Core.Path.{◌≡◌, ap, ap₂}
use mathlib.Core.Bool.{Bool, false}
use mathlib.Core.List.{List, [], ◌∷◌}
use Prim.Native.Nat.{ℕ, ◌<◌}
use native.Mathlib.Omega.{arith}
use lib.ListN.{get_or}
use Rattle.cube_rule.specs.Plain.{mixed, plain}
use Rattle.cube_rule.specs.Sorts.{one, two}

-- the entries of a list, by place
abbrev pub at : List Bool → ℕ → Bool
at xs i = get_or xs i false

abbrev pub faces_of : (ℕ → Bool) → List Bool
faces_of j = j 0 ∷ j 1 ∷ j 2 ∷ j 3 ∷ j 4 ∷ j 5 ∷ []

abbrev corners_of : (ℕ → Bool) → List Bool
corners_of s = s 0 ∷ s 1 ∷ s 2 ∷ s 3 ∷ s 4 ∷ s 5 ∷ s 6 ∷ s 7 ∷ []

module _ (s t : ℕ → Bool) (corners : (c : ℕ) → c < 8 → s c ≡ t c) where
  eight_same : corners_of s ≡ corners_of t
  eight_same =
      rw (
        corners 0 (omega arith),
        corners 1 (omega arith),
        corners 2 (omega arith),
        corners 3 (omega arith),
        corners 4 (omega arith),
        corners 5 (omega arith),
        corners 6 (omega arith),
        corners 7 (omega arith),
      )

  pub mixed_same : mixed s ≡ mixed t
  mixed_same = ap (λ (xs : List Bool). mixed (at xs)) eight_same

  pub plain_same : plain s ≡ plain t
  unfolding plain
  plain_same = ap (λ (xs : List Bool). plain (at xs)) eight_same

  module _ (j k : ℕ → Bool) (faces : (f : ℕ) → f < 6 → j f ≡ k f) where
    six_same : faces_of j ≡ faces_of k
    six_same = rw (faces 0 (omega arith), faces 1 (omega arith), faces 2 (omega arith), faces 3 (omega arith), faces 4 (omega arith), faces 5 (omega arith))

    pub one_same : one s j ≡ one t k
    unfolding one
    one_same = ap₂ (λ (xs ys : List Bool). one (at xs) (at ys)) eight_same six_same

    pub two_same : two s j ≡ two t k
    unfolding two
    two_same = ap₂ (λ (xs ys : List Bool). two (at xs) (at ys)) eight_same six_same
