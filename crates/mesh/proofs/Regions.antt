-- Three regions of one buffer, filled side by side: more in one of them leaves the other two, and when all are full the three lists stand
-- one after the other.
-- Assumes nothing.
use Prim.Native.Nat.{ℕ, ◌+◌, ◌≤◌}
use mathlib.Core.Path.{◌≡◌, ap, sym, ◌∙◌}
use mathlib.Core.List.{List, ◌++◌, append_assoc}
use native.Mathlib.Omega.{arith}
use lib.ListN.{length}
use lib.Seq.{sets}
use Rattle.laws.proofs.Stores.{sets_append, sets_commute}

module _ {A : Type 0} (q₀ : List A) (b c : ℕ) where
  -- the buffer with xs from its start, ys from b and zs from c on
  abbrev pub regions : List A → List A → List A → List A
  regions xs ys zs = sets (sets (sets q₀ 0 xs) b ys) c zs

  pub first_more : (xs ys zs more : List A) → length xs + length more ≤ b → b ≤ c → sets (regions xs ys zs) (length xs) more ≡ regions (xs ++ more) ys zs
  first_more xs ys zs more h k =
      sym (sets_commute (sets (sets q₀ 0 xs) b ys) (length xs) c more zs (omega arith))
      ∙ ap (λ (l : List A). sets l c zs) (sym (sets_commute (sets q₀ 0 xs) (length xs) b more ys h))
      ∙ ap (λ (l : List A). sets (sets l b ys) c zs) (ap (λ (i : ℕ). sets (sets q₀ 0 xs) i more) (from_zero (length xs)) ∙ sets_append q₀ 0 xs more)
    where
      from_zero : (x : ℕ) → x ≡ 0 + x
      from_zero x = omega arith

  pub second_more : (xs ys zs more : List A) → b + length ys + length more ≤ c → sets (regions xs ys zs) (b + length ys) more ≡ regions xs (ys ++ more) zs
  second_more xs ys zs more h =
      sym (sets_commute (sets (sets q₀ 0 xs) b ys) (b + length ys) c more zs h)
      ∙ ap (λ (l : List A). sets l c zs) (sets_append (sets q₀ 0 xs) b ys more)

  pub third_more : (xs ys zs more : List A) → sets (regions xs ys zs) (c + length zs) more ≡ regions xs ys (zs ++ more)
  third_more xs ys zs more = sets_append (sets (sets q₀ 0 xs) b ys) c zs more

  pub all_full : (xs ys zs : List A) → length xs ≡ b → b + length ys ≡ c → regions xs ys zs ≡ sets q₀ 0 (xs ++ ys ++ zs)
  all_full xs ys zs e f =
      ap (λ (i : ℕ). sets (sets (sets q₀ 0 xs) b ys) i zs) (sym f)
      ∙ sets_append (sets q₀ 0 xs) b ys zs
      ∙ ap (λ (i : ℕ). sets (sets q₀ 0 xs) i (ys ++ zs)) (from e)
      ∙ sets_append q₀ 0 xs (ys ++ zs)
      ∙ ap (sets q₀ 0) (sym (append_assoc xs ys zs))
    where
      from : {x : ℕ} → x ≡ b → b ≡ 0 + x
      from e = omega arith
