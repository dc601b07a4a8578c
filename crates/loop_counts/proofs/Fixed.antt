-- The promises fix the answers: any two that one allows are equal. Assumes nothing.
use Prim.Native.Nat.{ℕ, ◌≤◌}
use mathlib.Core.Path.{◌≡◌, sym, ◌∙◌}
use mathlib.Core.List.{List}
use lib.ListN.{length}
use Rattle.laws.specs.Fixed.{Fixes}
use Rattle.block.specs.declared.Cut.{Cut}
use Rattle.laws.proofs.Fixed.{equation_fixes}
use Rattle.rows.specs.Rows.{row_masks}
use Rattle.loop_counts.specs.declared.RowLoops.{RowLoops}
use Rattle.loop_counts.specs.PlainRow.{plain_row}

module _ (loops_of : Cut → List ℕ → List ℕ) (lo hi : List ℕ) (cut : Cut) (nx : ℕ) where
  pub count_row_fixed : Fixes (λ (r : ℕ). (r ≡ length (row_masks loops_of lo hi cut nx)) × (r ≤ 1020))
  count_row_fixed x y p q = p.0 ∙ sym q.0

pub plain_row_fixed : (a b : List ℕ) (nx j : ℕ) → Fixes (λ (r : RowLoops). r ≡ plain_row a b nx j)
plain_row_fixed a b nx j = equation_fixes (plain_row a b nx j)
