-- What the steps of a row of thresholds hand to one another: the marks of each threshold, how far they go, and what they say.
-- Assumes nothing.
use Rattle.std.specs.Prelude.{ℕ, ◌<◌, ◌≤◌, List, length, get_or}
use Rattle.laws.specs.Below.{below}
use Rattle.block.specs.declared.Cut.{Cut}
use Rattle.block.specs.declared.Size.{Size}
use Rattle.block.specs.Answer.{judged}
use Rattle.block.specs.Grey.{cut_of}
use Rattle.block.specs.Rows.{threshold_row}
use Rattle.cube_rule.specs.Decider.{loops_of}
use Rattle.layers.specs.declared.Marks.{Marks}
use Rattle.mesh.specs.Answer.{counts_of, told_counts}
use Rattle.mesh.specs.Steps.{totals_of, Counting, Tallied}

-- the threshold of place i with the noise figure of the call, and its marks
abbrev pub cut_at : List ℕ → ℕ → ℕ → Cut
cut_at ts noise i = cut_of (get_or ts i 0) noise

abbrev pub no_marks : Marks
no_marks = record { v = 0; x = 0; y = 0; z = 0 }

abbrev pub marks_at : List Marks → ℕ → Marks
marks_at ms i = get_or ms i no_marks

-- for the thresholds of the places from i up to j the layers before k are counted
abbrev pub CountedFrom : Size → List ℕ → List ℕ → ℕ → List Marks → ℕ → ℕ → ℕ → Type 0
CountedFrom n s ts noise ms i j k = (p : ℕ) → i ≤ p → p < j → Counting loops_of n s (cut_at ts noise p) 0 k (marks_at ms p)

-- for each threshold the whole block is counted
abbrev pub EachTallied : Size → List ℕ → List ℕ → ℕ → List Marks → Type 0
EachTallied n s ts noise ms = (p : ℕ) → p < length ts → Tallied loops_of n s (cut_at ts noise p) (marks_at ms p)

-- what a threshold is told by its marks: row 3 does not read the noise figure
abbrev pub three_by : Cut → Marks → List ℕ
three_by cut m = told_counts (judged (threshold_row cut) (totals_of m))

abbrev pub threes_by : List ℕ → List Marks → ℕ → List ℕ
threes_by ts ms = below (λ (i : ℕ). three_by (cut_at ts 0 i) (marks_at ms i))

-- what each threshold is told of a block whose size is made
abbrev pub answers_in : Size → List ℕ → List ℕ → ℕ → List ℕ
answers_in n s ts noise = below (λ (i : ℕ). told_counts (judged (threshold_row (cut_at ts noise i)) (counts_of n s (cut_at ts noise i)))) (length ts)
