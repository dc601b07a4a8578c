-- The face rule: which edges of a face are linked (document 01, "Faces, loops and places").
-- A face is seen as a ring: corners 0 to 3 with the signs a, b, c, d, and edges 0 to 3, of which edge i joins corner i to the next.
use Rattle.std.specs.Prelude.{ℕ, ◌+◌, ◌%◌, Bool, false, not, ◌&&◌, ◌||◌, List, [], ◌∷◌, eqb, get_or}
use Rattle.std.specs.Bool.{beq}
use Rattle.laws.specs.Bits.{bit, differ}
use Rattle.block.specs.declared.Cut.{Cut}
use Rattle.block.specs.Grey.{positive}
use Rattle.cube_rule.specs.Edges.{corner_sample}
use Rattle.cube_rule.specs.Faces.{ring_corner}

abbrev pub next : ℕ → ℕ
next i = (i + 1) % 4

module _ (a b c d : Bool) where
  abbrev pub sign_of : ℕ → Bool
  sign_of i = get_or (a ∷ b ∷ c ∷ d ∷ []) i false

  abbrev pub ring_crossed : ℕ → Bool
  ring_crossed i = differ (sign_of i) (sign_of (next i))

  -- how many of the four edges are crossed
  abbrev pub ring_count : ℕ
  ring_count = bit (ring_crossed 0) + bit (ring_crossed 1) + bit (ring_crossed 2) + bit (ring_crossed 3)

  -- edges i and k meet at a corner of the sign s
  abbrev pub meet_at : Bool → ℕ → ℕ → Bool
  meet_at s i k = eqb k (next i) && beq (sign_of k) s || eqb i (next k) && beq (sign_of i) s

  -- Edges i and k are linked, where `joined` says whether the positive corners of a face with four crossed edges are joined.
  -- "On a face with two crossed edges these are linked. With four .. [joined] the two edges meeting at each negative corner are
  -- linked. Otherwise the two edges meeting at each positive corner are linked."
  unfoldable pub linked_if : Bool → ℕ → ℕ → Bool
  linked_if joined i k =
      ring_crossed i && ring_crossed k && not (eqb i k)
      && (eqb ring_count 2 || eqb ring_count 4 && meet_at (not joined) i k)

-- What decides a face with four crossed edges: from the threshold, the noise figure and the samples round the face, whether its positive
-- corners are joined. What is proved of links and loops holds for any decider; the one of 01 and 02 is `joined`.
abbrev pub Decider : Type 0
Decider = Cut → ℕ → ℕ → ℕ → ℕ → Bool

-- how a cube's faces are decided
abbrev pub decisions : Decider → Cut → List ℕ → ℕ → Bool
decisions D cut corners f =
    D cut (corner_sample corners (ring_corner f 0)) (corner_sample corners (ring_corner f 1)) (corner_sample corners (ring_corner f 2)) (corner_sample corners (ring_corner f 3))

-- edges i and k of the face f of a cube are linked: `s c` is the sign of its corner c, `j f` says whether the positive corners of f are joined
abbrev pub linked_on : (ℕ → Bool) → (ℕ → Bool) → ℕ → ℕ → ℕ → Bool
linked_on s j f i k = linked_if (s (ring_corner f 0)) (s (ring_corner f 1)) (s (ring_corner f 2)) (s (ring_corner f 3)) (j f) i k

-- the same of a cube's samples
abbrev pub linked_at : Decider → Cut → List ℕ → ℕ → ℕ → ℕ → Bool
linked_at D cut corners f i k = linked_on (λ (c : ℕ). positive cut (corner_sample corners c)) (decisions D cut corners) f i k
