-- What the passes over a block are given, and what a step of the question about the ceiling promises.
-- Assumes nothing.
use Rattle.std.specs.Prelude.{ℕ, ◌≤◌, ◌<◌, ◌≡◌, false, List, length, get_or}
use Rattle.block.specs.declared.Size.{Size}
use Rattle.block.specs.Ceilings.{ceilings_before}
use Rattle.block.specs.Grey.{is_ceiling}
use Rattle.block.specs.Numbering.{sample_count}
use Rattle.block.specs.Size.{Limits}

-- a block that rows 1 and 2 accept
pub record Sampled (n : Size) (s : List ℕ) : Type 0 where
  pub limits : Limits n
  pub samples : length s ≡ sample_count n

-- no sample before the index is at the ceiling
abbrev pub ClearBefore : List ℕ → ℕ → Type 0
ClearBefore samples i = (i ≤ length samples) × ((k : ℕ) → k < i → is_ceiling (get_or samples k 0) ≡ false)

-- n of the samples before the index are at the ceiling
abbrev pub CountedTo : List ℕ → ℕ → ℕ → Type 0
CountedTo samples n i = (i ≤ length samples) × (n ≤ i) × (n ≡ ceilings_before samples i)
