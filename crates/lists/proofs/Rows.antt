-- What row 7 says, by cases.
-- Assumes nothing.
use Prim.Native.Nat.{ℕ, ◌%◌}
use mathlib.Core.Path.{◌≡◌}
use mathlib.Core.Logic.{◌↔◌}
use mathlib.Core.List.{List}
use native.Mathlib.Omega.{arith}
use lib.ListN.{length}
use borrow.Author.Tests.{eqb-true, eq-eqb, ne_eqb}
use Rattle.block.specs.declared.Checked.TheVariants.{Passes, Refuses}
use Rattle.block.proofs.Rows.{given_small, unless_none}
use Rattle.lists.specs.Rows.{length_row}

module _ (quads : List ℕ) where
  pub length-refuses : (length quads % 4 ≡ 0 → ⊥) → length_row quads ≡ Refuses (record { number = 7; value = length quads % 4 })
  length-refuses h = rw (ne_eqb (length quads % 4) 0 h, given_small (length quads % 4) (omega arith))

  -- the row passes exactly if the length is a multiple of 4
  pub length_exactly : (length_row quads ≡ Passes) ↔ (length quads % 4 ≡ 0)
  length_exactly = (λ e. eqb-true (length quads % 4) 0 (unless_none _ 7 _ e), λ h. rw (eq-eqb (length quads % 4) 0 h))
