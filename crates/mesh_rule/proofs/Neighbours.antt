-- Two cubes of a block that share a face decide it and link its edges alike, whatever decides it: the face at 1 of the one, across an axis, is the
-- face at 0 of the next along that axis, with the same samples round it (for any two such faces: `face_alike`).
-- Assumes nothing.
use Prim.Native.Nat.{ℕ, ◌+◌}
use mathlib.Core.Path.{◌≡◌, refl}
use mathlib.Core.List.{List}
use Rattle.block.specs.declared.Cut.{Cut}
use Rattle.block.specs.declared.Size.{Size}
use Rattle.cube_rule.specs.Links.{Decider, decisions, linked_at}
use Rattle.mesh_rule.specs.Grid.{corners_at}

-- the cube (i,j,k) and the next one along x, along y, along z
module _ (D : Decider) (cut : Cut) (n : Size) (s : List ℕ) (i j k : ℕ) where
  pub neighbours_decide_alike :
      (decisions D cut (corners_at n s i j k) 1 ≡ decisions D cut (corners_at n s (i + 1) j k) 0)
      × (decisions D cut (corners_at n s i j k) 3 ≡ decisions D cut (corners_at n s i (j + 1) k) 2)
      × (decisions D cut (corners_at n s i j k) 5 ≡ decisions D cut (corners_at n s i j (k + 1)) 4)
  neighbours_decide_alike = (refl, refl, refl)

  -- edges a and b of the face between them, by their places in its ring
  pub neighbours_alike : (a b : ℕ)
      → (linked_at D cut (corners_at n s i j k) 1 a b ≡ linked_at D cut (corners_at n s (i + 1) j k) 0 a b)
      × (linked_at D cut (corners_at n s i j k) 3 a b ≡ linked_at D cut (corners_at n s i (j + 1) k) 2 a b)
      × (linked_at D cut (corners_at n s i j k) 5 a b ≡ linked_at D cut (corners_at n s i j (k + 1)) 4 a b)
  neighbours_alike a b = (refl, refl, refl)
