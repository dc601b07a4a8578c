-- Numbering in a box, x fastest.
use Rattle.std.specs.Prelude.{ℕ, ◌+◌, ◌*◌}

-- the index of (i,j,k) in a box that is w wide and h high
abbrev pub index_in : ℕ → ℕ → ℕ → ℕ → ℕ → ℕ
index_in w h i j k = i + w * (j + h * k)
