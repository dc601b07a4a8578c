-- Each promise of the crate fixes its answer: any two that it allows are equal. Assumes nothing.
use mathlib.Core.Path.{◌≡◌, sym, ◌∙◌}
use mathlib.Core.List.{List}
use Prim.Native.Nat.{ℕ, ◌≤◌, ◌<◌}
use Rattle.laws.specs.Fixed.{Fixes}
use Rattle.laws.proofs.Fixed.{equation_fixes}
use Rattle.planes.specs.Planes.{eight_of, active_of, along_x, along_y, along_z, limit_of, inner_of, pattern_at}
use lib.Count.{ones}

pub eight_fixed : (a b : List ℕ) (q : ℕ) → Fixes (λ (r : List ℕ). r ≡ eight_of a b q)
eight_fixed a b q = equation_fixes (eight_of a b q)

pub active_fixed : (e : List ℕ) → Fixes (λ (r : ℕ). r ≡ active_of e)
active_fixed e = equation_fixes (active_of e)

pub pattern_at_fixed : (e : List ℕ) (i : ℕ) → Fixes (λ (r : ℕ). (r ≡ pattern_at e i) × (r < 256))
pattern_at_fixed e i x y p q = p.0 ∙ sym q.0

pub limit_fixed : (n w : ℕ) → Fixes (λ (r : ℕ). r ≡ limit_of n w)
limit_fixed n w = equation_fixes (limit_of n w)

pub inner_fixed : (nx w : ℕ) → Fixes (λ (r : ℕ). r ≡ inner_of nx w)
inner_fixed nx w = equation_fixes (inner_of nx w)

pub along_x_fixed : (a : List ℕ) (q : ℕ) → Fixes (λ (r : ℕ). r ≡ along_x a q)
along_x_fixed a q = equation_fixes (along_x a q)

pub along_y_fixed : (a : List ℕ) (q : ℕ) → Fixes (λ (r : ℕ). r ≡ along_y a q)
along_y_fixed a q = equation_fixes (along_y a q)

pub along_z_fixed : (a b : List ℕ) (q : ℕ) → Fixes (λ (r : ℕ). r ≡ along_z a b q)
along_z_fixed a b q = equation_fixes (along_z a b q)

pub ones_of_fixed : (w : ℕ) → Fixes (λ (r : ℕ). (r ≡ ones w) × (r ≤ 64))
ones_of_fixed w x y p q = p.0 ∙ sym q.0
