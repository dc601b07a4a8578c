-- The coordinates of four offsets, one after the other.
-- Assumes nothing.
use mathlib.Core.Path.{◌≡◌, refl}
use mathlib.Core.List.{List, [], ◌∷◌}
use native.Mathlib.Omega.{arith}
use lib.ListN.{length, get_or}
use Rattle.place.specs.declared.Offset.{Offset}
use Rattle.mesh_rule.specs.Buffers.{triples}

-- the coordinates of four offsets
pub four_offsets : (o : List Offset) (d : Offset) → length o ≡ 4
    → (get_or o 0 d).x ∷ (get_or o 0 d).y ∷ (get_or o 0 d).z ∷ (get_or o 1 d).x ∷ (get_or o 1 d).y ∷ (get_or o 1 d).z ∷ (get_or o 2 d).x ∷ (get_or o 2 d).y ∷ (get_or o 2 d).z ∷ (get_or o 3 d).x ∷ (get_or o 3 d).y ∷ (get_or o 3 d).z ∷ [] ≡ triples o
four_offsets [] d h = absurd (omega arith)
four_offsets (a ∷ []) d h = absurd (omega arith)
four_offsets (a ∷ b ∷ []) d h = absurd (omega arith)
four_offsets (a ∷ b ∷ c ∷ []) d h = absurd (omega arith)
four_offsets (a ∷ b ∷ c ∷ e ∷ []) d h = refl
four_offsets (a ∷ b ∷ c ∷ e ∷ f ∷ o) d h = absurd (omega arith)
