-- Lists put into a buffer one behind the other.
use Prim.Native.Nat.{ℕ, ◌+◌, ◌≤◌}
use mathlib.Core.Path.{◌≡◌, refl, sym, ◌∙◌, subst}
use mathlib.Core.List.{List, [], ◌∷◌, ◌++◌}
use native.Mathlib.Nat.{add-zero}
use native.Mathlib.Numerals.{add-one}
use native.Mathlib.Omega.{arith}
use lib.ListN.{length, set, length-append}
use lib.Seq.{sets}
use Rattle.laws.specs.Below.{below, over}
use Rattle.laws.specs.Put.{Put}
use Rattle.laws.proofs.Stores.{sets_join, sets_length, sets_over}

pub put_none : {A : Type 0} (b : List A) (at : ℕ) → Put b at [] b at
put_none b at = record { stored = refl; behind = sym (add-zero at) }

pub put_one : {A : Type 0} (b : List A) (at : ℕ) (x : A) → Put b at (x ∷ []) (set b at x) (at + 1)
put_one b at x = record { stored = refl; behind = refl }

-- one list more, by what is stored of it
pub put_further : {A : Type 0} {b mid xs : List A} {at next : ℕ} (ys after : List A) (on : ℕ) → Put b at xs mid next → after ≡ sets mid next ys → on ≡ next + length ys
    → Put b at (xs ++ ys) after on
put_further {b} {mid} {xs} {at} {next} ys after on p e f = record {
  stored = sets_join b at mid after next xs ys p.stored p.behind e;
  behind = omega (arith, f, p.behind, length-append xs ys);
}

-- one list and then another
pub put_then : {A : Type 0} {b mid after xs : List A} {at next on : ℕ} (ys : List A) → Put b at xs mid next → Put mid next ys after on → Put b at (xs ++ ys) after on
put_then {after} {on} ys p q = put_further ys after on p q.stored q.behind

-- a buffer keeps its length
pub put_length : {A : Type 0} {b xs after : List A} {at next : ℕ} → Put b at xs after next → length after ≡ length b
put_length {b} {xs} {after} {at} {next} p = sets_length b at after xs p.stored

-- a list at the start
pub put_over : {A : Type 0} {b xs after : List A} {next : ℕ} → Put b 0 xs after next → length xs ≤ length b → after ≡ over xs b
put_over {b} {xs} {after} {next} p h = p.stored ∙ sets_over b xs h

-- the same list, told in another way
pub put_as : {A : Type 0} {b xs ys after : List A} {at next : ℕ} → xs ≡ ys → Put b at xs after next → Put b at ys after next
put_as {A} {b} {xs} {ys} {after} {at} {next} e h = subst (λ (zs : List A). Put b at zs after next) e h

-- ---- lists over an index, one behind the other

pub puts_none : {A : Type 0} (f : ℕ → List A) (out : List A) (at : ℕ) → Put out at (below f 0) out at
unfolding below
puts_none f out at = put_none out at

pub puts_more : {A : Type 0} (f : ℕ → List A) (n : ℕ) {o₀ o₁ o₂ : List A} {p₀ p₁ p₂ : ℕ} → Put o₀ p₀ (below f n) o₁ p₁ → Put o₁ p₁ (f n) o₂ p₂ → Put o₀ p₀ (below f (n + 1)) o₂ p₂
unfolding below
puts_more f n a b = rw (add-one n) (put_then (f n) a b)
