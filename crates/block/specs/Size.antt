-- A block's size: what `Size::new` answers, in 01's numbers, and the limits that every size keeps.
use Rattle.std.specs.Prelude.{ℕ, ◌≤◌, ◌≡◌, [], ◌∷◌}
use Rattle.block.specs.declared.Size.{Size}
use Rattle.block.specs.declared.Sized.{Sized}
use Rattle.block.specs.declared.Sized.TheVariants.{Made, BadAxis}
use Rattle.block.specs.Answer.{Answer, accepted, refused, in_order, judged}
use Rattle.block.specs.Rows.{shortest, longest, axis_row}

-- three axis lengths as a size, accepted or not
abbrev pub size_of : ℕ → ℕ → ℕ → Size
size_of nx ny nz = record { nx = nx; ny = ny; nz = nz }

-- 01's number and values of each case: a refused axis is refusal 1
abbrev pub said_size : Sized → Answer Size
said_size (Made n) = accepted n
said_size (BadAxis a) = refused (record { number = 1; value = a })

-- three axis lengths make a size, or are refused by row 1
abbrev pub size_answer : ℕ → ℕ → ℕ → Answer Size
size_answer nx ny nz = judged (in_order (axis_row nx ny nz ∷ [])) (size_of nx ny nz)

-- the promise of `Size::new`
abbrev pub SizeMade : ℕ → ℕ → ℕ → Sized → Type 0
SizeMade nx ny nz r = said_size r ≡ size_answer nx ny nz

-- what a size carries with it: each axis is within the limits
pub record Limits (n : Size) : Type 0 where
  pub x_low : shortest ≤ n.nx
  pub x_high : n.nx ≤ longest
  pub y_low : shortest ≤ n.ny
  pub y_high : n.ny ≤ longest
  pub z_low : shortest ≤ n.nz
  pub z_high : n.nz ≤ longest
