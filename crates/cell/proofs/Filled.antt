-- Four places filled with the masks of a cube's loops, and with what goes with each mask.
-- Assumes nothing.
use mathlib.Core.Path.{◌≡◌, refl}
use mathlib.Core.Bool.{cond}
use mathlib.Core.Logic.{◌⊎◌, inl, inr}
use mathlib.Core.List.{List, [], ◌∷◌, map, Memᴰ}
use Prim.Native.Nat.{ℕ, zero, suc, ◌≤◌, ◌<◌}
use native.Mathlib.Omega.{arith}
use lib.Dec.{eqb, eqb-suc-zero}
use lib.ListN.{length, get_or, get_or-eq_default}
use Rattle.laws.specs.Filled.{filled}
use Rattle.laws.proofs.Filled.{filled_at, mem_at}
use Rattle.laws.proofs.Tests.{lt_or_ge}

-- what stands in a place is zero, or one of the masks
pub place_mask : (ms : List ℕ) (i : ℕ) → 0 < get_or (filled 4 0 ms) i 0 → Memᴰ (get_or (filled 4 0 ms) i 0) ms
place_mask ms i p = rw (filled_at 4 0 ms i) (go (lt_or_ge i (length ms)))
  where
    go : (i < length ms) ⊎ (length ms ≤ i) → Memᴰ (get_or ms i 0) ms
    go (inl l) = mem_at ms i l
    go (inr g) = absurd (omega (arith, p, filled_at 4 0 ms i, get_or-eq_default ms 0 g))

-- what goes with a mask, or d where there is none
abbrev pub with_mask : {A : Type 0} → (ℕ → A) → A → ℕ → A
with_mask f d m = cond (eqb m 0) d (f m)

-- the places of what goes with the masks, place by place
pub places_by_mask : {A : Type 0} (f : ℕ → A) (d : A) (ms : List ℕ) → length ms ≤ 4 → ((m : ℕ) → Memᴰ m ms → 0 < m)
    → filled 4 d (map f ms)
    ≡ with_mask f d (get_or (filled 4 0 ms) 0 0) ∷ with_mask f d (get_or (filled 4 0 ms) 1 0) ∷ with_mask f d (get_or (filled 4 0 ms) 2 0)
    ∷ with_mask f d (get_or (filled 4 0 ms) 3 0) ∷ []
unfolding filled
places_by_mask f d [] h p = refl
places_by_mask f d (zero ∷ ms) h p = absurd (omega (arith, p 0 (Memᴰ.head refl)))
places_by_mask f d (suc a ∷ []) h p = simp eqb-suc-zero
places_by_mask f d (suc a ∷ zero ∷ ms) h p = absurd (omega (arith, p 0 (Memᴰ.tail (Memᴰ.head refl))))
places_by_mask f d (suc a ∷ suc b ∷ []) h p = simp eqb-suc-zero
places_by_mask f d (suc a ∷ suc b ∷ zero ∷ ms) h p = absurd (omega (arith, p 0 (Memᴰ.tail (Memᴰ.tail (Memᴰ.head refl)))))
places_by_mask f d (suc a ∷ suc b ∷ suc c ∷ []) h p = simp eqb-suc-zero
places_by_mask f d (suc a ∷ suc b ∷ suc c ∷ zero ∷ ms) h p =
    absurd (omega (arith, p 0 (Memᴰ.tail (Memᴰ.tail (Memᴰ.tail (Memᴰ.head refl))))))
places_by_mask f d (suc a ∷ suc b ∷ suc c ∷ suc e ∷ []) h p = simp eqb-suc-zero
places_by_mask f d (suc a ∷ suc b ∷ suc c ∷ suc e ∷ g ∷ ms) h p = absurd (omega arith)
