-- Lists over a range of which the end is empty.
-- Assumes nothing.
use Rattle.std.proofs.Common.{◌≡◌, ℕ, ◌+◌, ◌-◌, ◌≤◌, List, [], ap, ◌∙◌, arith}
use Rattle.laws.specs.Below.{below}
use Rattle.laws.proofs.Visit.{below_skip}

module _ {A : Type 0} (g : ℕ → List A) (n : ℕ) (none : (x : ℕ) → n ≤ x → g x ≡ []) where
  -- nothing stands from n on
  pub below_past : (m : ℕ) → n ≤ m → below g m ≡ below g n
  below_past m l = ap (below g) all ∙ below_skip g n (m - n) (λ x _. none (n + x) (omega arith))
    where
      all : m ≡ n + (m - n)
      all = omega arith
