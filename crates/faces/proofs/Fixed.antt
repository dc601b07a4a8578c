-- Each promise of the crate fixes its answer: any two that it allows are equal. Assumes nothing.
use mathlib.Core.Path.{◌≡◌}
use mathlib.Core.List.{List}
use Prim.Native.Nat.{ℕ}
use Rattle.laws.specs.Fixed.{Fixes}
use Rattle.laws.proofs.Fixed.{equation_fixes}
use Rattle.faces.specs.Faces.{alternates_of, plain_of, without_of, plain_among}

pub alternates_fixed : (e : List ℕ) → Fixes (λ (r : List ℕ). r ≡ alternates_of e)
alternates_fixed e = equation_fixes (alternates_of e)

pub plain_fixed : (e : List ℕ) → Fixes (λ (r : ℕ). r ≡ plain_of e)
plain_fixed e = equation_fixes (plain_of e)

pub plain_among_fixed : (e doubtful : List ℕ) → Fixes (λ (r : ℕ). r ≡ plain_among e doubtful)
plain_among_fixed e doubtful = equation_fixes (plain_among e doubtful)

pub without_fixed : (a b : ℕ) → Fixes (λ (r : ℕ). r ≡ without_of a b)
without_fixed a b = equation_fixes (without_of a b)
