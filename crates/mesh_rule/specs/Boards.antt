-- Two blocks of every size at the threshold 100: a checkerboard, which has the most vertices, quads and crossed edges, and one without metal.
use Rattle.std.specs.Prelude.{ℕ, ◌+◌, ◌%◌, cond, List, [], ◌∷◌, eqb, replicate}
use Rattle.laws.specs.Below.{below}
use Rattle.block.specs.declared.Cut.{Cut}
use Rattle.block.specs.declared.Size.{Size}
use Rattle.block.specs.Grey.{cut_of}
use Rattle.block.specs.Numbering.{sample_count, at_sample}

abbrev pub cut : Cut
cut = cut_of 100 0

-- 110 at an even number, 0 at an odd one
abbrev pub shade : ℕ → ℕ
shade m = cond (eqb (m % 2) 0) 110 0

-- the sample (i,j,k) is 110 if i + j + k is even, else 0
unfoldable pub board : Size → List ℕ
board n = below (λ (p : ℕ). at_sample n (λ i j k. shade (i + j + k)) p ∷ []) (sample_count n)

-- every sample is 0
unfoldable pub hollow : Size → List ℕ
hollow n = replicate (sample_count n) 0

-- the largest size
abbrev pub size : Size
size = record { nx = 256; ny = 256; nz = 256 }
