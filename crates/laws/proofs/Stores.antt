-- Runs of stores into a buffer: one behind the other, in separate parts, over its front, and read back.
-- Assumes nothing.
use Prim.Native.Nat.{ℕ, suc, ◌+◌, ◌≤◌, ◌<◌}
use mathlib.Core.Path.{◌≡◌, refl, ap, sym, ◌∙◌}
use mathlib.Core.List.{List, [], ◌∷◌, ◌++◌, append_assoc}
use native.Mathlib.Nat.{add-zero, add-suc, suc-add, zero-add}
use native.Mathlib.Omega.{arith}
use lib.ListN.{length, set, take, drop}
use lib.Seq.{sets, sets-eq, length-sets, set_comm, take_at, drop_at}
use Rattle.laws.specs.Below.{over}

module _ {A : Type 0} where
  -- a run of stores, and then another behind it
  pub sets_append : (l : List A) (i : ℕ) (xs ys : List A) → sets (sets l i xs) (i + length xs) ys ≡ sets l i (xs ++ ys)
  sets_append l i [] ys = rw (add-zero i)
  sets_append l i (x ∷ xs) ys = rw (add-suc i (length xs), ← suc-add i (length xs)) (sets_append (set l i x) (suc i) xs ys)

  -- the same of buffers and places that are known by equations
  pub sets_join : (l : List A) (i : ℕ) (c d : List A) (j : ℕ) (xs ys : List A) → c ≡ sets l i xs → j ≡ i + length xs → d ≡ sets c j ys → d ≡ sets l i (xs ++ ys)
  sets_join l i c d j xs ys p q r = r ∙ rw (p, q) (sets_append l i xs ys)

  -- a buffer keeps its length
  pub sets_length : (l : List A) (i : ℕ) (c xs : List A) → c ≡ sets l i xs → length c ≡ length l
  sets_length l i c xs p = ap length p ∙ length-sets l i xs

  -- stores from the front are the list put over the front
  pub sets_over : (l xs : List A) → length xs ≤ length l → sets l 0 xs ≡ over xs l
  unfolding over
  sets_over l xs h = sets-eq xs l 0 (omega arith) ∙ rw (zero-add (length xs))

  -- a part of the front, read back
  pub sets_part : (l xs ys zs : List A) → length (xs ++ ys ++ zs) ≤ length l → take (length ys) (drop (length xs) (sets l 0 (xs ++ ys ++ zs))) ≡ ys
  unfolding over
  sets_part l xs ys zs h =
      rw (sets_over l (xs ++ ys ++ zs) h, append_assoc (xs ++ ys) zs (drop (length (xs ++ ys ++ zs)) l), append_assoc xs ys (zs ++ drop (length (xs ++ ys ++ zs)) l))
      (ap (take (length ys)) (drop_at xs (ys ++ (zs ++ drop (length (xs ++ ys ++ zs)) l)) (length xs) refl)
      ∙ take_at ys (zs ++ drop (length (xs ++ ys ++ zs)) l) (length ys) refl)

  -- a store before a run of stores, or after it
  pub set-sets : (l : List A) (i j : ℕ) (a : A) (ys : List A) → i < j → set (sets l j ys) i a ≡ sets (set l i a) j ys
  set-sets l i j a [] h = refl
  set-sets l i j a (y ∷ ys) h =
      set-sets (set l j y) i (suc j) a ys (omega arith)
      ∙ ap (λ (m : List A). sets m (suc j) ys) (set_comm l j i y a (λ e. absurd (omega arith)))

  -- two runs of stores into separate parts, in either order
  pub sets_commute : (l : List A) (i j : ℕ) (xs ys : List A) → i + length xs ≤ j → sets (sets l i xs) j ys ≡ sets (sets l j ys) i xs
  sets_commute l i j [] ys h = refl
  sets_commute l i j (x ∷ xs) ys h =
      sets_commute (set l i x) (suc i) j xs ys (omega arith)
      ∙ ap (λ (m : List A). sets m (suc i) xs) (sym (set-sets l i j x ys (omega arith)))
