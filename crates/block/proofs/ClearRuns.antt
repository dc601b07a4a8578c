-- Counting the samples at the ceiling: one sample more, and what follows where there is none.
-- Assumes nothing.
use Prim.Native.Nat.{ℕ, ◌+◌, ◌-◌, ◌<◌, ◌≤◌}
use mathlib.Core.Path.{◌≡◌, ap, ap₂, sym, ◌∙◌, subst}
use mathlib.Core.Bool.{false}
use mathlib.Core.Logic.{⊎_elim}
use mathlib.Core.List.{List}
use native.Mathlib.Omega.{arith}
use lib.ListN.{length, get_or}
use Rattle.laws.specs.Bits.{bit}
use Rattle.laws.specs.Counting.{count}
use Rattle.laws.proofs.Counting.{count_next, count_clear, clear_count, count_add}
use Rattle.laws.proofs.Tests.{lt_or_ge}
use Rattle.block.specs.Ceilings.{ceilings_before}
use Rattle.block.specs.Grey.{is_ceiling}
use Rattle.block.specs.Steps.{ClearBefore, CountedTo}

-- 256 samples more
pub clear_more : (s : List ℕ) (i : ℕ) → i + 256 ≤ length s → ClearBefore s i → count (λ (x : ℕ). is_ceiling (get_or s (i + x) 0)) 256 ≡ 0 → ClearBefore s (i + 256)
clear_more s i h c e = (h, λ (k : ℕ) (l : k < i + 256). ⊎_elim (c.1 k) (λ (g : i ≤ k). later k l g) (lt_or_ge k i))
  where
    later : (k : ℕ) → k < i + 256 → i ≤ k → is_ceiling (get_or s k 0) ≡ false
    later k l g = subst (λ (x : ℕ). is_ceiling (get_or s x 0) ≡ false) (back k g) (count_clear (λ (x : ℕ). is_ceiling (get_or s (i + x) 0)) 256 e (k - i) (omega arith))
      where
        back : (k : ℕ) → i ≤ k → i + (k - i) ≡ k
        back k g = omega arith

-- ---- counted so far

pub counted_none : (s : List ℕ) (i : ℕ) → ClearBefore s i → CountedTo s 0 i
counted_none s i c = (c.0, omega arith, sym (clear_count (λ (x : ℕ). is_ceiling (get_or s x 0)) i c.1))

-- m samples more, of which r are at the ceiling
pub counted_more : (s : List ℕ) (n i m r : ℕ) → CountedTo s n i → i + m ≤ length s → r ≤ m → r ≡ count (λ (x : ℕ). is_ceiling (get_or s (i + x) 0)) m → CountedTo s (n + r) (i + m)
counted_more s n i m r (a, b, e) h l is = (h, omega (arith, b, l), ap₂ (λ (x y : ℕ). x + y) e is ∙ sym (count_add (λ (x : ℕ). is_ceiling (get_or s x 0)) i m))

-- one sample more
pub counted_next : (s : List ℕ) (n i r : ℕ) → CountedTo s n i → i < length s → r ≤ 1 → r ≡ bit (is_ceiling (get_or s i 0)) → CountedTo s (n + r) (i + 1)
counted_next s n i r (a, b, e) h l is = (omega (arith, h), omega (arith, b, l), ap₂ (λ (x y : ℕ). x + y) e is ∙ sym (count_next (λ (x : ℕ). is_ceiling (get_or s x 0)) i))

-- no sample more
pub counted_all : (s : List ℕ) (n i : ℕ) → CountedTo s n i → length s ≤ i → n ≡ ceilings_before s (length s)
counted_all s n i (a, b, e) h = e ∙ ap (ceilings_before s) (end a)
  where
    end : i ≤ length s → i ≡ length s
    end a = omega (arith, a, h)
