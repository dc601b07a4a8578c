-- A vertex and a range of cubes: its key is in the range exactly if its cube is, and all keys are in the ranges that hold all cubes.
-- Assumes nothing.
use Rattle.std.proofs.Common.{◌≡◌, ℕ, ◌+◌, ◌*◌, ◌-◌, ◌/◌, ◌≤◌, ◌<◌, true, false, List, None, ◌⊎◌, inl, inr, ap, ◌∙◌, arith, ltb-true}
use Rattle.std.proofs.lemmas.Bool.{eqb-false}
use lib.Ieee.{Float}
use Rattle.laws.specs.Counting.{count}
use Rattle.laws.proofs.Counting.{count_clear}
use Rattle.laws.proofs.Leading.{HoldsTo}
use Rattle.laws.proofs.Tests.{and_both, lt_or_ge}
use Rattle.block.specs.declared.Cut.{Cut}
use Rattle.block.specs.declared.Size.{Size}
use Rattle.block.specs.Numbering.{cube_count}
use Rattle.foundry_rule.specs.Spots.{cube_at, word_at, place_in, vertex_key}
use Rattle.foundry_rule.proofs.VertexKeys.{key_below, placed_cube}
use Rattle.repeats.specs.Fresh.{span, PlaceIn, FarFrom}
use Rattle.foundry_vertices.specs.Steps.{in_range, placed, looks_sound}

-- ---- 65,536 cubes have 262,144 keys

outside : (c p r : ℕ) → p < 4 → (c / 65536 ≡ r → ⊥) → PlaceIn (span * r) (4 * c + p) None
outside c p r h d = go (lt_or_ge (4 * c + p) (262144 * r))
  where
    go : (4 * c + p < 262144 * r) ⊎ (262144 * r ≤ 4 * c + p) → (4 * c + p < 262144 * r) ⊎ (262144 * r + 262144 ≤ 4 * c + p)
    go (inl l) = inl l
    go (inr g) = inr (omega (arith, d))

-- those that are far from the range are outside of it
pub far_outside : (n : Size) (s : List ℕ) (cut : Cut) (words : List ℕ) (r v end : ℕ) → ((i : ℕ) → i < end → placed n s cut words i ≡ true)
    → ((i : ℕ) → v ≤ i → i < end → in_range r (cube_at words i) ≡ false) → FarFrom (vertex_key words n s cut) (span * r) v end
far_outside n s cut words r v end p f i g l =
    outside (cube_at words i) (place_in n s cut (cube_at words i) (word_at words i)) r (ltb-true _ 4 (p i l)) (eqb-false _ r (f i g l))

module _ (n : Size) (s : List ℕ) (cut : Cut) (words : List ℕ) (offsets : List Float) where
  -- 64 vertices of which none is in the range
  pub far_from : (r v end : ℕ) → HoldsTo (looks_sound n s cut words offsets) end → end - v ≡ 64 → count (λ (k : ℕ). in_range r (cube_at words (v + k))) 64 ≡ 0
      → FarFrom (vertex_key words n s cut) (span * r) v end
  far_from r v end h e z =
      far_outside n s cut words r v end (λ i l. (and_both (placed n s cut words i) _ (h i l)).0)
      (λ i g l. ap (λ (x : ℕ). in_range r (cube_at words x)) (there i v g) ∙ count_clear (λ (k : ℕ). in_range r (cube_at words (v + k))) 64 z (i - v) (omega arith))
    where
      there : (i v : ℕ) → v ≤ i → i ≡ v + (i - v)
      there i v g = omega arith

module _ (n : Size) (s : List ℕ) (cut : Cut) (words : List ℕ) where
  -- each key is below the ranges that hold all cubes
  pub keys_below : (r : ℕ) → cube_count n ≤ 65536 * r → (v : ℕ) → placed n s cut words v ≡ true → vertex_key words n s cut v < span * r
  keys_below r g v e =
      let h = ltb-true _ 4 e in
      below (vertex_key words n s cut v) (cube_count n) r (key_below n s cut words v (placed_cube n s cut (cube_at words v) (word_at words v) h) h) g
    where
      below : (k c r : ℕ) → k < 4 * c → c ≤ 65536 * r → k < span * r
      below k c r h q = omega arith
