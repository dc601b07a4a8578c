-- The first place at which a test fails.
use Rattle.std.specs.Prelude.{ℕ, zero, suc, Bool, cond}

-- how many of f 0, f 1, .., f (n − 1) hold before the first that does not; n where all hold
unfoldable pub leading : (ℕ → Bool) → ℕ → ℕ
leading f zero = 0
leading f (suc n) = cond (f 0) (suc (leading (λ (i : ℕ). f (suc i)) n)) 0
