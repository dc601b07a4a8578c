-- The promises fix the answers: any two that one allows are equal. Assumes nothing.
use Prim.Native.Nat.{ℕ}
use mathlib.Core.Path.{◌≡◌}
use mathlib.Core.List.{List}
use Rattle.laws.specs.Fixed.{Fixes}
use Rattle.laws.proofs.Fixed.{equation_fixes}
use mathlib.Core.Bool.{Bool}
use Rattle.signs.specs.Windows.{window_corners}
use Rattle.rows.specs.Quiet.{quiet_row}

pub corners_fixed : (lo hi : List ℕ) (nx x : ℕ) → Fixes (λ (r : List ℕ). r ≡ window_corners nx lo hi x)
corners_fixed lo hi nx x = equation_fixes (window_corners nx lo hi x)

pub quiet_fixed : (a b : List ℕ) (nx j : ℕ) → Fixes (λ (r : Bool). r ≡ quiet_row a b nx j)
quiet_fixed a b nx j = equation_fixes (quiet_row a b nx j)
