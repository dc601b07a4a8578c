-- One face: the sides that cross it come in pairs that run in opposite directions.
-- Assumes nothing.
use Prim.Native.Nat.{ℕ, ◌+◌, ◌<◌}
use mathlib.Core.Path.{◌≡◌, refl, ap}
use mathlib.Core.Bool.{Bool, true, false, cond, ◌&&◌, and_comm}
use native.Mathlib.Omega.{arith}
use lib.Dec.{eqb}
use Rattle.laws.specs.Bits.{bit, differ}
use Rattle.cube_rule.specs.Links.{linked_if}

-- 1 if a side from a to b runs from u to v, else 0
unfoldable pub hit : ℕ → ℕ → ℕ → ℕ → ℕ
hit a b u v = bit (eqb a u && eqb b v)

-- the side between x and y of the quad of a crossed edge: from x to y if the edge's lower sample is positive
abbrev pub side : Bool → ℕ → ℕ → ℕ → ℕ → ℕ
side true x y u v = hit x y u v
side false x y u v = hit y x u v

-- and of one that may be crossed
abbrev pub term : Bool → Bool → ℕ → ℕ → ℕ → ℕ → ℕ
term c b x y u v = cond c (side b x y u v) 0

pub hit_turn : (x y u v : ℕ) → hit x y u v ≡ hit y x v u
unfolding hit
hit_turn x y u v = ap bit (and_comm (eqb x u) (eqb y v))

-- How many sides across a face run from u to v. Each of its four edges that has a quad (c₀ to c₃) gives one side, between its vertices in the cubes below and
-- above the face (lo and hi). The corners 0, 1 and 3 have the signs a, b and d. Edge 0 runs from corner 0 to 1, edge 1 from 1 to 2, edge 2 from 3 to 2, edge 3 from 0 to 3.
abbrev pub crossing : Bool → Bool → Bool → Bool → Bool → Bool → Bool → (ℕ → ℕ) → (ℕ → ℕ) → ℕ → ℕ → ℕ
crossing c₀ c₁ c₂ c₃ a b d lo hi u v =
    term c₀ a (lo 0) (hi 0) u v + term c₁ b (lo 1) (hi 1) u v + term c₂ d (hi 2) (lo 2) u v + term c₃ a (hi 3) (lo 3) u v

-- the same where each crossed edge has a quad
abbrev pub across : Bool → Bool → Bool → Bool → (ℕ → ℕ) → (ℕ → ℕ) → ℕ → ℕ → ℕ
across a b c d = crossing (differ a b) (differ b c) (differ d c) (differ a d) a b d

module _ (lo hi : ℕ → ℕ) (u v : ℕ) where
  pair : (i k : ℕ) → (lo i ≡ lo k) × (hi i ≡ hi k) → hit (lo i) (hi i) u v + hit (hi k) (lo k) u v ≡ hit (lo i) (hi i) v u + hit (hi k) (lo k) v u
  pair i k e =
      rw (e.0, e.1)
      (omega (arith, hit_turn (lo k) (hi k) u v, hit_turn (hi k) (lo k) u v))

  Linked : Bool → Bool → Bool → Bool → Bool → Type 0
  Linked a b c d j = (i k : ℕ) → i < 4 → k < 4 → linked_if a b c d j i k ≡ true → (lo i ≡ lo k) × (hi i ≡ hi k)

  go : (a b c d j : Bool) → Linked a b c d j → across a b c d lo hi u v ≡ across a b c d lo hi v u
  unfolding Linked linked_if
  go true true true true j L = refl
  go true true true false j L = omega (arith, pair 2 3 (L 2 3 (omega arith) (omega arith) refl))
  go true true false true j L = omega (arith, pair 1 2 (L 1 2 (omega arith) (omega arith) refl))
  go true true false false j L = omega (arith, pair 1 3 (L 1 3 (omega arith) (omega arith) refl))
  go true false true true j L = omega (arith, pair 0 1 (L 0 1 (omega arith) (omega arith) refl))
  go true false true false true L = omega (arith, pair 0 1 (L 0 1 (omega arith) (omega arith) refl), pair 2 3 (L 2 3 (omega arith) (omega arith) refl))
  go true false true false false L = omega (arith, pair 0 3 (L 0 3 (omega arith) (omega arith) refl), pair 2 1 (L 2 1 (omega arith) (omega arith) refl))
  go true false false true j L = omega (arith, pair 0 2 (L 0 2 (omega arith) (omega arith) refl))
  go true false false false j L = omega (arith, pair 0 3 (L 0 3 (omega arith) (omega arith) refl))
  go false true true true j L = omega (arith, pair 3 0 (L 3 0 (omega arith) (omega arith) refl))
  go false true true false j L = omega (arith, pair 2 0 (L 2 0 (omega arith) (omega arith) refl))
  go false true false true true L = omega (arith, pair 3 0 (L 3 0 (omega arith) (omega arith) refl), pair 1 2 (L 1 2 (omega arith) (omega arith) refl))
  go false true false true false L = omega (arith, pair 1 0 (L 1 0 (omega arith) (omega arith) refl), pair 3 2 (L 3 2 (omega arith) (omega arith) refl))
  go false true false false j L = omega (arith, pair 1 0 (L 1 0 (omega arith) (omega arith) refl))
  go false false true true j L = omega (arith, pair 3 1 (L 3 1 (omega arith) (omega arith) refl))
  go false false true false j L = omega (arith, pair 2 1 (L 2 1 (omega arith) (omega arith) refl))
  go false false false true j L = omega (arith, pair 3 2 (L 3 2 (omega arith) (omega arith) refl))
  go false false false false j L = refl

-- linked edges have the same vertices on both sides: as many sides across the face run from u to v as from v to u
pub face_balanced : (a b c d j : Bool) (lo hi : ℕ → ℕ) → ((i k : ℕ) → i < 4 → k < 4 → linked_if a b c d j i k ≡ true → (lo i ≡ lo k) × (hi i ≡ hi k))
    → (u v : ℕ) → across a b c d lo hi u v ≡ across a b c d lo hi v u
unfolding Linked
face_balanced a b c d j lo hi L u v = go lo hi u v a b c d j L
