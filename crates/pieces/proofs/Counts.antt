-- How often each value is taken, summed over the values.
-- Assumes nothing.
use Prim.Native.Nat.{ℕ, zero, suc, ◌+◌, ◌<◌}
use mathlib.Core.Path.{◌≡◌, refl, sym, ◌∙◌}
use mathlib.Core.Bool.{Bool, true, false}
use native.Mathlib.Omega.{arith}
use lib.Dec.{eqb}
use borrow.Author.Tests.{eq-eqb, ne_eqb, eqb-true, eqb-false}
use Rattle.laws.specs.Bits.{bit}
use Rattle.laws.specs.Counting.{count, total}
use Rattle.laws.proofs.Counting.{count_same, count_this}
use Rattle.laws.proofs.Sums.{total_plus, total_nothing, total_count}

eqb_turn : (a b : ℕ) → eqb a b ≡ eqb b a
eqb_turn a b = go (eqb b a) refl
  where
    go : (c : Bool) → eqb b a ≡ c → eqb a b ≡ c
    go true e = eq-eqb a b (sym (eqb-true b a e))
    go false e = ne_eqb a b (λ z. eqb-false b a e (sym z))

-- how often each value is taken, summed: f takes one of them at each number
pub taken_once : (f : ℕ → ℕ) (m n : ℕ) → ((w : ℕ) → w < m → f w < n) → total (λ (v : ℕ). count (λ (w : ℕ). eqb (f w) v) m) n ≡ m
unfolding count
taken_once f zero n h = total_nothing n
taken_once f (suc m) n h = omega (arith, more, taken_once f m n (λ w l. h w (omega arith)), one)
  where
    more : total (λ (v : ℕ). count (λ (w : ℕ). eqb (f w) v) (suc m)) n ≡ total (λ (v : ℕ). count (λ (w : ℕ). eqb (f w) v) m) n + total (λ (v : ℕ). bit (eqb (f m) v)) n
    more = total_plus _ _ n

    one : total (λ (v : ℕ). bit (eqb (f m) v)) n ≡ 1
    one = total_count _ n ∙ count_same _ _ n (λ v l. eqb_turn (f m) v) ∙ count_this n (f m) (h m (omega arith))
