-- The question that shows every sample at the detector's ceiling: how many there are, and the lowest index of one.
use Rattle.std.specs.Prelude.{ℕ, ◌<◌, ◌≡◌, List, length, get_or}
use Rattle.laws.specs.Counting.{count}
use Rattle.block.specs.declared.CeilingCount.{CeilingCount}
use Rattle.block.specs.Answer.{given}
use Rattle.block.specs.Grey.{ceiling, is_ceiling}
use Rattle.block.specs.Rows.{lowest}

-- how many of the first n samples are at the ceiling
abbrev pub ceilings_before : List ℕ → ℕ → ℕ
ceilings_before samples n = count (λ (i : ℕ). is_ceiling (get_or samples i 0)) n

-- how many samples are at the ceiling, and the lowest index of one, or the number of samples where there is none; "a value above 4,294,967,295 is given as
-- that"
abbrev pub ceilings_in : List ℕ → CeilingCount
ceilings_in samples = record { count = given (ceilings_before samples (length samples)); lowest = given (lowest is_ceiling samples) }

-- one of these samples is at the ceiling
pub record AtCeiling (samples : List ℕ) : Type 0 where
  pub place : ℕ
  pub there : place < length samples
  pub is : get_or samples place 0 ≡ ceiling

-- the sample with this index is at the ceiling, and none before it is
pub record LowestCeiling (samples : List ℕ) (i : ℕ) : Type 0 where
  pub there : i < length samples
  pub is : get_or samples i 0 ≡ ceiling
  pub before : (k : ℕ) → k < i → get_or samples k 0 ≡ ceiling → ⊥
