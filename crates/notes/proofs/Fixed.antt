-- Each promise fixes the answer and every lent buffer at exit: any two that it allows are equal.
-- Assumes nothing.
use Prim.Native.Nat.{ℕ, ◌-◌, ◌<◌, ◌≤◌, ◌*◌}
use mathlib.Core.Path.{◌≡◌, sym, ap, ◌∙◌}
use mathlib.Core.Logic.{◌⊎◌, inl, inr}
use mathlib.Core.Bool.{true≢false}
use mathlib.Core.List.{List, [], ◌∷◌}
use native.Mathlib.Omega.{arith}
use Rattle.laws.specs.Fixed.{Fixes}
use Rattle.laws.proofs.Tests.{lt_or_ge}
use Rattle.notes.specs.Tables.{noted_from, RowNoted, which_of}
use lib.Seq.{sets}
use Rattle.laws.proofs.Fixed.{equation_fixes}

pub note_fixed : (x v which : ℕ) (entry : List ℕ) → Fixes (λ (exit : List ℕ). exit ≡ sets entry (2 * x) (v ∷ which ∷ []))
note_fixed x v which entry = equation_fixes (sets entry (2 * x) (v ∷ which ∷ []))

pub which_of_fixed : (four : List ℕ) → Fixes (λ (r : ℕ). r ≡ which_of four)
which_of_fixed four = equation_fixes (which_of four)

-- the answer of `note_row` is the first vertex that is not of the row, and the numbers follow from it
pub note_row_fixed : (m c from first : ℕ) (part old new new' : List ℕ) (r r' : ℕ) → RowNoted m c from first part old new r → RowNoted m c from first part old new' r' → (r ≡ r') × (new ≡ new')
note_row_fixed m c from first part old new new' r r' p q = (same, p.noted ∙ ap (λ (n : ℕ). noted_from part from first c (n - from) old) same ∙ sym q.noted)
  where
    no_less : {t t' : List ℕ} {a b : ℕ} → RowNoted m c from first part old t a → RowNoted m c from first part old t' b → (a < b) ⊎ (b ≤ a) → b ≤ a
    no_less x y (inl l) = absurd (true≢false (sym (y.each _ x.behind l) ∙ x.last))
    no_less x y (inr g) = g

    same : r ≡ r'
    same = omega (arith, no_less p q (lt_or_ge r r'), no_less q p (lt_or_ge r' r))
