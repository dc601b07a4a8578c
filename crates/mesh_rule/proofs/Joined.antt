-- The samples off the twelve edges of the box are joined by inner edges, where each axis has at least three samples: each is joined to the
-- sample (1,1,1), first along the axis whose coordinate may be at an end.
-- Assumes nothing.
use Prim.Native.Nat.{ℕ, zero, suc, ◌+◌, ◌<◌}
use mathlib.Core.Path.{◌≡◌, refl, subst}
use mathlib.Core.Logic.Iff
use mathlib.Core.Logic.{◌↔◌, ◌⊎◌, inl, inr}
use mathlib.Core.Bool.{Bool, true, false, ◌&&◌, ◌||◌, true≢false}
use native.Mathlib.Numerals.{add-one}
use native.Mathlib.Omega.{arith}
use borrow.Author.Tests.{eqb-false}
use lib.Dec.{eqb}
use Rattle.block.specs.declared.Size.{Size}
use Rattle.block.specs.Numbering.{Axis, X, Y, Z}
use Rattle.mesh_rule.specs.Grid.{ahead, at_end, OffEdges, AtLeastThree}
use Rattle.mesh_rule.proofs.Inner.{Mid, Inner}

-- what goes both ways along each step of a line goes from anywhere on it to anywhere
module _ (Q : ℕ → Type 0) (n : ℕ) (step : (i : ℕ) → i + 1 < n → Q i ↔ Q (i + 1)) where
  to_start : (i : ℕ) → i < n → Q i ↔ Q 0
  to_start zero h = (λ q. q, λ q. q)
  to_start (suc i) h = Iff.trans (Iff.symm (subst (λ (m : ℕ). Q i ↔ Q m) (add-one i) (step i (omega arith)))) (to_start i (omega arith))

  line : (i j : ℕ) → i < n → j < n → Q i ↔ Q j
  line i j hi hj = Iff.trans (to_start i hi) (Iff.symm (to_start j hj))

-- ---- a sample off the twelve edges has two coordinates that are at no end

mid : (n c : ℕ) → c < n → at_end n c ≡ false → Mid n c
mid n c h e = go (eqb c 0) refl e
  where
    go : (b : Bool) → eqb c 0 ≡ b → (b || eqb (c + 1) n) ≡ false → Mid n c
    go true p q = absurd (true≢false q)
    go false p q = let a = eqb-false c 0 p in let b = eqb-false (c + 1) n q in (omega (arith, a), omega (arith, b))

two_false : (a b c : Bool) → (b && c || a && c || a && b) ≡ false
    → ((b ≡ false) × (c ≡ false)) ⊎ ((a ≡ false) × (c ≡ false)) ⊎ ((a ≡ false) × (b ≡ false))
two_false true true true h = absurd (true≢false h)
two_false true true false h = absurd (true≢false h)
two_false true false true h = absurd (true≢false h)
two_false true false false h = inl (refl, refl)
two_false false true true h = absurd (true≢false h)
two_false false true false h = inr (inl (refl, refl))
two_false false false true h = inr (inr (refl, refl))
two_false false false false h = inl (refl, refl)

abbrev TwoMid : Size → ℕ → ℕ → ℕ → Type 0
TwoMid n i j k = (Mid n.ny j × Mid n.nz k) ⊎ (Mid n.nx i × Mid n.nz k) ⊎ (Mid n.nx i × Mid n.ny j)

two_mid : (n : Size) (i j k : ℕ) → OffEdges n i j k → TwoMid n i j k
two_mid n i j k o = go (two_false (at_end n.nx i) (at_end n.ny j) (at_end n.nz k) o.3)
  where
    x : at_end n.nx i ≡ false → Mid n.nx i
    x = mid n.nx i o.0

    y : at_end n.ny j ≡ false → Mid n.ny j
    y = mid n.ny j o.1

    z : at_end n.nz k ≡ false → Mid n.nz k
    z = mid n.nz k o.2

    go : ((at_end n.ny j ≡ false) × (at_end n.nz k ≡ false)) ⊎ ((at_end n.nx i ≡ false) × (at_end n.nz k ≡ false)) ⊎ ((at_end n.nx i ≡ false) × (at_end n.ny j ≡ false))
        → TwoMid n i j k
    go (inl m) = inl (y m.0, z m.1)
    go (inr (inl m)) = inr (inl (x m.0, z m.1))
    go (inr (inr m)) = inr (inr (x m.0, y m.1))

module _ (n : Size) (three : AtLeastThree n) (P : ℕ → ℕ → ℕ → Type 0) (step : (a : Axis) (i j k : ℕ) → Inner n a i j k → P i j k ↔ ahead P a i j k) where
  along_x_lem : (i i' j k : ℕ) → i < n.nx → i' < n.nx → Mid n.ny j → Mid n.nz k → P i j k ↔ P i' j k
  along_x_lem i i' j k hi hi' hj hk = line (λ i. P i j k) n.nx (λ i h. step X i j k (h, hj, hk)) i i' hi hi'

  along_y_lem : (i j j' k : ℕ) → Mid n.nx i → j < n.ny → j' < n.ny → Mid n.nz k → P i j k ↔ P i j' k
  along_y_lem i j j' k hi hj hj' hk = line (λ j. P i j k) n.ny (λ j h. step Y i j k (hi, h, hk)) j j' hj hj'

  along_z_lem : (i j k k' : ℕ) → Mid n.nx i → Mid n.ny j → k < n.nz → k' < n.nz → P i j k ↔ P i j k'
  along_z_lem i j k k' hi hj hk hk' = line (λ k. P i j k) n.nz (λ k h. step Z i j k (hi, hj, h)) k k' hk hk'

  to_centre : (i j k : ℕ) → i < n.nx → j < n.ny → k < n.nz → TwoMid n i j k → P i j k ↔ P 1 1 1
  to_centre i j k hi hj hk (inl m) =
      Iff.trans (along_x_lem i 1 j k hi (omega arith) m.0 m.1)
      (Iff.trans (along_y_lem 1 j 1 k (omega arith) hj (omega arith) m.1) (along_z_lem 1 1 k 1 (omega arith) (omega arith) hk (omega arith)))
  to_centre i j k hi hj hk (inr (inl m)) =
      Iff.trans (along_y_lem i j 1 k m.0 hj (omega arith) m.1)
      (Iff.trans (along_x_lem i 1 1 k hi (omega arith) (omega arith) m.1) (along_z_lem 1 1 k 1 (omega arith) (omega arith) hk (omega arith)))
  to_centre i j k hi hj hk (inr (inr m)) =
      Iff.trans (along_z_lem i j k 1 m.0 m.1 hk (omega arith))
      (Iff.trans (along_x_lem i 1 j 1 hi (omega arith) m.1 (omega arith)) (along_y_lem 1 j 1 1 (omega arith) hj (omega arith) (omega arith)))

  -- a sample off the twelve edges, and the lower end of an inner edge
  pub off_edges_joined : (i j k : ℕ) → OffEdges n i j k → P i j k ↔ P 1 1 1
  off_edges_joined i j k o = to_centre i j k o.0 o.1 o.2 (two_mid n i j k o)

  pub inner_joined : (a : Axis) (i j k : ℕ) → Inner n a i j k → P i j k ↔ P 1 1 1
  inner_joined X i j k h = to_centre i j k (omega arith) (omega arith) (omega arith) (inl (h.1, h.2))
  inner_joined Y i j k h = to_centre i j k (omega arith) (omega arith) (omega arith) (inr (inl (h.0, h.2)))
  inner_joined Z i j k h = to_centre i j k (omega arith) (omega arith) (omega arith) (inr (inr (h.0, h.1)))
