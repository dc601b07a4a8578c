-- Each promise of the crate fixes its answer: any two answers that it allows are equal. (Of `Size::new`: `size_new_fixed`.)
-- Assumes nothing.
use mathlib.Core.Path.{◌≡◌}
use mathlib.Core.List.{List}
use Prim.Native.Nat.{ℕ}
use Rattle.laws.specs.Fixed.{Fixes}
use Rattle.laws.proofs.Fixed.{equation_fixes}
use Rattle.block.specs.declared.CeilingCount.{CeilingCount}
use Rattle.block.specs.declared.Checked.{Checked}
use Rattle.block.specs.declared.Checked.TheVariants.{Refuses}
use Rattle.block.specs.declared.Cut.{Cut}
use Rattle.block.specs.declared.Size.{Size}
use Rattle.block.specs.Answer.{given, in_order}
use Rattle.block.specs.Block.{block_rows}
use Rattle.block.specs.Ceilings.{ceilings_in}
use Rattle.block.specs.Rows.{count_row, threshold_row, room_row}

-- of `Size::nx`, `Size::ny` and `Size::nz`
pub nx_fixed : (n : Size) → Fixes (λ (r : ℕ). r ≡ n.nx)
nx_fixed n = equation_fixes n.nx

pub ny_fixed : (n : Size) → Fixes (λ (r : ℕ). r ≡ n.ny)
ny_fixed n = equation_fixes n.ny

pub nz_fixed : (n : Size) → Fixes (λ (r : ℕ). r ≡ n.nz)
nz_fixed n = equation_fixes n.nz

-- of `check_block`, `check_count`, `check_threshold` and `check_room`
pub check_block_fixed : (n : Size) (s : List ℕ) (cut : Cut) → Fixes (λ (r : Checked). r ≡ in_order (block_rows n s cut))
check_block_fixed n s cut = equation_fixes (in_order (block_rows n s cut))

pub check_count_fixed : (n : Size) (count : ℕ) → Fixes (λ (r : Checked). r ≡ count_row n count)
check_count_fixed n count = equation_fixes (count_row n count)

pub check_threshold_fixed : (cut : Cut) → Fixes (λ (r : Checked). r ≡ threshold_row cut)
check_threshold_fixed cut = equation_fixes (threshold_row cut)

pub check_room_fixed : (needed room : ℕ) → Fixes (λ (r : Checked). r ≡ room_row needed room)
check_room_fixed needed room = equation_fixes (room_row needed room)

-- of `refuse`, `short` and `ceilings`
pub refuse_fixed : (number value : ℕ) → Fixes (λ (r : Checked). r ≡ Refuses (record { number = number; value = value }))
refuse_fixed number value = equation_fixes (Refuses (record { number = number; value = value }))

pub short_fixed : (n : ℕ) → Fixes (λ (r : ℕ). r ≡ given n)
short_fixed n = equation_fixes (given n)

pub ceilings_fixed : (samples : List ℕ) → Fixes (λ (r : CeilingCount). r ≡ ceilings_in samples)
ceilings_fixed samples = equation_fixes (ceilings_in samples)
