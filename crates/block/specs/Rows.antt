-- Rows 1 to 3 and 15 of the table of refusals, each as a check of its own (document 01, "Numbers of refusal"; document 02, Three).
use Rattle.std.specs.Prelude.{ℕ, suc, Bool, cond, ◌||◌, List, [], ◌∷◌, ltb, leb, eqb, length}
use Rattle.laws.specs.Leading.{leading}
use Rattle.block.specs.declared.Checked.{Checked}
use Rattle.block.specs.declared.Checked.TheVariants.{Passes}
use Rattle.block.specs.declared.Cut.{Cut}
use Rattle.block.specs.declared.Size.{Size}
use Rattle.block.specs.Answer.{refuses}
use Rattle.block.specs.Grey.{no_threshold}
use Rattle.block.specs.Numbering.{sample_count}

-- the lowest place of a list at which the test holds; its length where there is none
unfoldable pub lowest : {A : Type 0} → (A → Bool) → List A → ℕ
lowest bad [] = 0
lowest bad (x ∷ xs) = cond (bad x) 0 (suc (lowest bad xs))

-- a row that holds where the test holds of some element, with the lowest such place as its value
unfoldable pub lowest_row : {A : Type 0} → ℕ → (A → Bool) → List A → Checked
unfolding lowest
lowest_row number bad xs = cond (ltb (lowest bad xs) (length xs)) (refuses number (lowest bad xs)) Passes

-- a row that holds where the test fails at some number below n, with the lowest such number as its value
unfoldable pub search_row : ℕ → (ℕ → Bool) → ℕ → Checked
unfolding leading
search_row number good n = cond (eqb (leading good n) n) Passes (refuses number (leading good n))

-- the axis limits: "each 2 to 256"
abbrev pub shortest : ℕ
shortest = 2

abbrev pub longest : ℕ
longest = 256

abbrev pub out_of_limits : ℕ → Bool
out_of_limits n = ltb n shortest || ltb longest n

-- 1: an axis is under 2 or over 256; the lowest such axis, 0 to 2
abbrev pub axis_row : ℕ → ℕ → ℕ → Checked
axis_row nx ny nz = lowest_row 1 out_of_limits (nx ∷ ny ∷ nz ∷ [])

-- 2: the sample count is not nx·ny·nz; nx·ny·nz
abbrev pub count_row : Size → ℕ → Checked
count_row n count = cond (eqb count (sample_count n)) Passes (refuses 2 (sample_count n))

-- 3: t is 0 or 65,535; t
abbrev pub threshold_row : Cut → Checked
threshold_row cut = cond (no_threshold cut) (refuses 3 cut.t) Passes

-- 15: "too little room"; what is needed
abbrev pub room_row : ℕ → ℕ → Checked
room_row needed room = cond (leb needed room) Passes (refuses 15 needed)
