-- The rows of a block of samples with its threshold, in their order (document 01, "Numbers of refusal"): 1 for the axes, 2 for the number of samples, 3 for the
-- threshold. Counting, meshing and the question for room all begin with them.
use Rattle.std.specs.Prelude.{ℕ, List, [], ◌∷◌, length}
use Rattle.block.specs.declared.Checked.{Checked}
use Rattle.block.specs.declared.Cut.{Cut}
use Rattle.block.specs.declared.Size.{Size}
use Rattle.block.specs.Answer.{in_order}
use Rattle.block.specs.Rows.{axis_row, count_row, threshold_row}
use Rattle.block.specs.Size.{size_of}

-- rows 2 and 3, of a block whose size is made
abbrev pub block_rows : Size → List ℕ → Cut → List Checked
block_rows n s cut = count_row n (length s) ∷ threshold_row cut ∷ []

-- rows 1 to 3
abbrev pub block_verdict : ℕ → ℕ → ℕ → List ℕ → Cut → Checked
block_verdict nx ny nz s cut = in_order (axis_row nx ny nz ∷ block_rows (size_of nx ny nz) s cut)
