-- Places that are filled one after the other.
use mathlib.Core.Path.{◌≡◌, refl, sym, ap, ◌∙◌}
use mathlib.Core.Logic.{◌⊎◌, inl, inr, ⊎_elim}
use mathlib.Core.List.{List, [], ◌∷◌, ◌++◌, append_assoc, Memᴰ}
use Prim.Native.Nat.{ℕ, zero, suc, ◌+◌, ◌-◌, ◌≤◌, ◌<◌}
use native.Mathlib.Nat.{not-suc-le-zero, le_of_suc-le-suc}
use native.Mathlib.Omega.{arith}
use lib.ListN.{length, set, get_or, replicate, length-append, length-replicate, get_or-replicate, get_or-append, get_or-eq_default}
use lib.Seq.{set-append_seam, get_or-append-add}
use Rattle.laws.specs.Filled.{filled}
use Rattle.laws.proofs.Tests.{lt_or_ge}

module _ {A : Type 0} (n : ℕ) (d : A) where
  -- the next place takes x
  pub filled_more : (xs : List A) (x : A) → length xs < n → set (filled n d xs) (length xs) x ≡ filled n d (xs ++ x ∷ [])
  unfolding filled
  filled_more xs x h =
      ap (λ (k : ℕ). set (xs ++ replicate k d) (length xs) x) one_less
      ∙ set-append_seam xs d (replicate (n - length (xs ++ x ∷ [])) d) x
      ∙ sym (append_assoc xs (x ∷ []) (replicate (n - length (xs ++ x ∷ [])) d))
    where
      one_less : n - length xs ≡ suc (n - length (xs ++ x ∷ []))
      one_less = simp length-append (omega arith)

  -- what stands in a place: an element of the list, or d
  pub filled_at : (xs : List A) (i : ℕ) → get_or (filled n d xs) i d ≡ get_or xs i d
  unfolding filled
  filled_at xs i = go (lt_or_ge i (length xs))
    where
      rest : (k m : ℕ) → get_or (replicate k d) m d ≡ d
      rest k m = ⊎_elim (λ (l : m < k). get_or-replicate k m d d l) (λ (g : k ≤ m). get_or-eq_default (replicate k d) d (rw length-replicate g)) (lt_or_ge m k)

      past : (a b : ℕ) → b ≤ a → a ≡ b + (a - b)
      past a b h = omega arith

      go : (i < length xs) ⊎ (length xs ≤ i) → get_or (xs ++ replicate (n - length xs) d) i d ≡ get_or xs i d
      go (inl l) = get_or-append xs (replicate (n - length xs) d) d i l
      go (inr g) =
          ap (λ (k : ℕ). get_or (xs ++ replicate (n - length xs) d) k d) (past i (length xs) g)
          ∙ get_or-append-add xs (replicate (n - length xs) d) (i - length xs) d
          ∙ rest (n - length xs) (i - length xs)
          ∙ sym (get_or-eq_default xs d g)

-- what stands in a place of a list is one of its elements
pub mem_at : (xs : List ℕ) (i : ℕ) → i < length xs → Memᴰ (get_or xs i 0) xs
mem_at [] i h = absurd (not-suc-le-zero h)
mem_at (x ∷ xs) zero h = Memᴰ.head refl
mem_at (x ∷ xs) (suc i) h = Memᴰ.tail (mem_at xs i (le_of_suc-le-suc h))
