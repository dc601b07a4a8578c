-- Tests and what follows where they pass or fail; the first number that passes a test, and whether some number does; then laws of `alike`, by which vertices have the
-- same cube and word.
-- Assumes nothing.
use Prim.Native.Nat.{ℕ, ◌+◌, ◌*◌, ◌<◌}
use mathlib.Core.Path.{◌≡◌, refl, sym, ◌∙◌}
use mathlib.Core.Bool.{Bool, true, false, not, ◌&&◌, ◌||◌, true≢false}
use mathlib.Core.Logic.{◌⊎◌, inl, inr}
use mathlib.Core.List.{List}
use native.Mathlib.Omega.{arith}
use lib.ListN.{get_or}
use borrow.Author.Tests.{ltb-true, ltb-false, eqb-true, eq-eqb, not-true, not-false}
use Rattle.laws.proofs.Leading.{leading_holds, leading_stops}
use Rattle.laws.proofs.Tests.{and_both}
use Rattle.foundry_rule.specs.Judged.{first_passing, is_some, alike}

-- a test that passes and fails
pub both_ways : {b : Bool} → b ≡ true → b ≡ false → ⊥
both_ways e z = true≢false (sym e ∙ z)

-- of two tests that do not both pass, one fails
pub one_fails : (a b : Bool) → (a && b) ≡ false → (a ≡ false) ⊎ (b ≡ false)
one_fails true b e = inr e
one_fails false b e = inl refl

-- and of two of which one passes, the first or the second does
pub or_either : (a b : Bool) → (a || b) ≡ true → (a ≡ true) ⊎ (b ≡ true)
or_either true b e = inl refl
or_either false b e = inr e

-- tests of which each implies the other
pub same_test : (a b : Bool) → (a ≡ true → b ≡ true) → (b ≡ true → a ≡ true) → a ≡ b
same_test true b f g = sym (f refl)
same_test false true f g = g refl
same_test false false f g = refl

-- what is not false is true, and what is not true is false
pub is_so : (b : Bool) → (b ≡ false → ⊥) → b ≡ true
is_so true h = refl
is_so false h = absurd (h refl)

pub not_so : (b : Bool) → (b ≡ true → ⊥) → b ≡ false
not_so true h = absurd (h refl)
not_so false h = refl

-- ---- the first that passes

module _ (f : ℕ → Bool) (n : ℕ) where
  pub first_passes : first_passing f n < n → f (first_passing f n) ≡ true
  first_passes l = not-false _ (leading_stops (λ (i : ℕ). not (f i)) n l)

  pub none_passes : is_some f n ≡ false → (k : ℕ) → k < n → f k ≡ false
  none_passes e k l = not-true _ (leading_holds (λ (i : ℕ). not (f i)) n k (omega (arith, ltb-false (first_passing f n) n e)))

  pub is_some_lem : (k : ℕ) → k < n → f k ≡ true → is_some f n ≡ true
  is_some_lem k l e = is_so (is_some f n) (λ s. both_ways e (none_passes s k l))

  pub is_none : ((k : ℕ) → k < n → f k ≡ false) → is_some f n ≡ false
  is_none h = not_so (is_some f n) (λ s. let l = ltb-true (first_passing f n) n s in both_ways (first_passes l) (h (first_passing f n) l))

-- ---- the same cube and word

module _ (a : List ℕ) (v : ℕ) (b : List ℕ) (u : ℕ) where
  pub alike_words : alike a v b u ≡ true → (get_or a (2 * v) 0 ≡ get_or b (2 * u) 0) × (get_or a (2 * v + 1) 0 ≡ get_or b (2 * u + 1) 0)
  alike_words t = let h = and_both _ _ t in (eqb-true _ _ h.0, eqb-true _ _ h.1)

  pub words_alike : get_or a (2 * v) 0 ≡ get_or b (2 * u) 0 → get_or a (2 * v + 1) 0 ≡ get_or b (2 * u + 1) 0 → alike a v b u ≡ true
  words_alike p q = simp (eq-eqb (get_or a (2 * v) 0) (get_or b (2 * u) 0) p, eq-eqb (get_or a (2 * v + 1) 0) (get_or b (2 * u + 1) 0) q)

pub alike_turned : (a : List ℕ) (v : ℕ) (b : List ℕ) (u : ℕ) → alike a v b u ≡ true → alike b u a v ≡ true
alike_turned a v b u t = let h = alike_words a v b u t in words_alike b u a v (sym h.0) (sym h.1)

pub alike_then : (a : List ℕ) (v : ℕ) (b : List ℕ) (u : ℕ) (c : List ℕ) (w : ℕ) → alike a v b u ≡ true → alike b u c w ≡ true → alike a v c w ≡ true
alike_then a v b u c w t s =
    let h = alike_words a v b u t in
    let k = alike_words b u c w s in
    words_alike a v c w (h.0 ∙ k.0) (h.1 ∙ k.1)
