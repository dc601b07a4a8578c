-- Two tests that agree as long as the first holds stop at the same place.
-- Assumes nothing.
use Prim.Native.Nat.{ℕ, ◌≤◌, ◌<◌}
use mathlib.Core.Path.{◌≡◌, refl, ap, sym, ◌∙◌}
use mathlib.Core.Bool.{Bool, true, false, not, ◌&&◌, true≢false}
use mathlib.Core.Logic.{◌⊎◌, inl, inr}
use native.Mathlib.Omega.{arith}
use lib.Dec.{ltb}
use Rattle.laws.specs.Leading.{leading}
use Rattle.laws.proofs.Leading.{HoldsTo, leading_le, leading_holds, leading_stops, leading_at, leading_all, leading_same}
use Rattle.laws.proofs.Tests.{lt_or_ge}
use Rattle.foundry_rule.specs.Judged.{is_some}

pub leading_agree : (f g : ℕ → Bool) (n : ℕ) → ((v : ℕ) → v < n → HoldsTo f v → f v ≡ g v) → leading f n ≡ leading g n
leading_agree f g n h = go (lt_or_ge (leading f n) n)
  where
    le : leading f n ≤ n
    le = leading_le f n

    before : HoldsTo g (leading f n)
    before v l =
        sym (h v (omega (arith, le)) (λ i k. leading_holds f n i (omega (arith, k, l)))) ∙ leading_holds f n v l

    go : (leading f n < n) ⊎ (n ≤ leading f n) → leading f n ≡ leading g n
    go (inl l) = sym (leading_at g n (leading f n) l before (sym (h (leading f n) l (leading_holds f n)) ∙ leading_stops f n l))
    go (inr k) =
        let e : leading f n ≡ n = omega (arith, le) in
        e ∙ sym (leading_all g n (λ v l. before v (omega (arith, e))))

-- tests that agree below n are passed by some number there, or by none
pub some_agree : (f g : ℕ → Bool) (n : ℕ) → ((u : ℕ) → u < n → f u ≡ g u) → is_some f n ≡ is_some g n
some_agree f g n h = ap (λ (m : ℕ). ltb m n) (leading_same (λ (u : ℕ). not (f u)) (λ (u : ℕ). not (g u)) n (λ u l. ap not (h u l)))

-- where the first parts agree, and the second parts wherever the first one holds
pub and_agree : (a b c d : Bool) → a ≡ c → (c ≡ true → b ≡ d) → (a && b) ≡ (c && d)
and_agree true b true d e h = h refl
and_agree true b false d e h = absurd (true≢false e)
and_agree false b true d e h = absurd (true≢false (sym e))
and_agree false b false d e h = refl
