-- Two faces with the same four samples round them are decided and linked alike, whatever cubes they are of.
-- Assumes nothing.
use mathlib.Core.Path.{◌≡◌, ap}
use mathlib.Core.Bool.{Bool}
use mathlib.Core.List.{List, [], ◌∷◌}
use Prim.Native.Nat.{ℕ, ◌<◌}
use native.Mathlib.Omega.{arith}
use lib.ListN.{get_or}
use Rattle.block.specs.declared.Cut.{Cut}
use Rattle.block.specs.Grey.{positive}
use Rattle.cube_rule.specs.Edges.{corner_sample}
use Rattle.cube_rule.specs.Faces.{ring_corner}
use Rattle.cube_rule.specs.Links.{linked_if, Decider, decisions, linked_at}

-- the samples round a face
abbrev round : List ℕ → ℕ → List ℕ
round cs f = corner_sample cs (ring_corner f 0) ∷ corner_sample cs (ring_corner f 1) ∷ corner_sample cs (ring_corner f 2) ∷ corner_sample cs (ring_corner f 3) ∷ []

-- how a face with these samples is decided, and which of its edges are linked
abbrev decided : Decider → Cut → List ℕ → Bool
decided D cut ss = D cut (get_or ss 0 0) (get_or ss 1 0) (get_or ss 2 0) (get_or ss 3 0)

abbrev links : Decider → Cut → ℕ → ℕ → List ℕ → Bool
links D cut i k ss = linked_if (positive cut (get_or ss 0 0)) (positive cut (get_or ss 1 0)) (positive cut (get_or ss 2 0)) (positive cut (get_or ss 3 0)) (decided D cut ss) i k

-- the face f of the one cube and the face g of the other have the same samples
module _ (D : Decider) (cut : Cut) (cs cs' : List ℕ) (f g : ℕ)
    (same : (c : ℕ) → c < 4 → corner_sample cs (ring_corner f c) ≡ corner_sample cs' (ring_corner g c)) where
  same_round_lem : round cs f ≡ round cs' g
  same_round_lem = rw (same 0 (omega arith), same 1 (omega arith), same 2 (omega arith), same 3 (omega arith))

  pub face_decided_alike : decisions D cut cs f ≡ decisions D cut cs' g
  face_decided_alike = ap (decided D cut) same_round_lem

  pub face_alike : (i k : ℕ) → linked_at D cut cs f i k ≡ linked_at D cut cs' g i k
  face_alike i k = ap (links D cut i k) same_round_lem
