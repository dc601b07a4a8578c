-- The cubes of 01's "Samples on the bench", corners 0 to 7, and the masks of their loops at t = 100. Then cubes with a noise figure, at the tie and round it.
-- Assumes nothing.
use Rattle.std.specs.Prelude.{ℕ, List, [], ◌∷◌, map}
use Rattle.block.specs.declared.Cut.{Cut}
use Rattle.block.specs.Grey.{cut_of}
use Rattle.cube_rule.specs.Decider.{loops_of}

abbrev pub hundred : Cut
hundred = cut_of 100 0

abbrev pub cubes : List (List ℕ)
cubes =
    (99 ∷ 99 ∷ 99 ∷ 99 ∷ 99 ∷ 99 ∷ 99 ∷ 99 ∷ [])
    ∷ (100 ∷ 100 ∷ 100 ∷ 100 ∷ 100 ∷ 100 ∷ 100 ∷ 100 ∷ [])
    ∷ (200 ∷ 0 ∷ 0 ∷ 0 ∷ 0 ∷ 0 ∷ 0 ∷ 0 ∷ [])
    ∷ (110 ∷ 0 ∷ 0 ∷ 110 ∷ 0 ∷ 0 ∷ 0 ∷ 0 ∷ [])
    ∷ (300 ∷ 50 ∷ 50 ∷ 300 ∷ 0 ∷ 0 ∷ 0 ∷ 0 ∷ [])
    ∷ (200 ∷ 0 ∷ 0 ∷ 200 ∷ 0 ∷ 0 ∷ 0 ∷ 0 ∷ [])
    ∷ (100 ∷ 99 ∷ 99 ∷ 65534 ∷ 0 ∷ 0 ∷ 0 ∷ 0 ∷ [])
    ∷ (110 ∷ 0 ∷ 0 ∷ 110 ∷ 0 ∷ 110 ∷ 110 ∷ 0 ∷ [])
    ∷ (300 ∷ 50 ∷ 50 ∷ 300 ∷ 50 ∷ 300 ∷ 300 ∷ 50 ∷ []) ∷ []

-- the masks of each, in hexadecimal as in 01
abbrev pub expected : List (List ℕ)
expected =
    []
    ∷ []
    ∷ (0x111 ∷ [])
    ∷ (0x111 ∷ 0x822 ∷ [])
    ∷ (0x933 ∷ [])
    ∷ (0x933 ∷ [])
    ∷ (0x111 ∷ 0x822 ∷ [])
    ∷ (0x111 ∷ 0x822 ∷ 0x284 ∷ 0x448 ∷ [])
    ∷ (0x221 ∷ 0x412 ∷ 0x144 ∷ 0x888 ∷ []) ∷ []

abbrev pub found : List (List ℕ)
found = map (loops_of hundred) cubes

-- Noise figures that just join, and that just part. The face z=0 decides each of these cubes: A·C is B·D at a tie of 10,000; 37,500 more than B·D; and 4,294,705,155 more,
-- which no face exceeds. The cubes in the second and fourth line are those before with a negative first corner.
abbrev pub noisy_found : List (List ℕ)
noisy_found =
    loops_of (cut_of 100 0) (200 ∷ 0 ∷ 0 ∷ 200 ∷ 0 ∷ 0 ∷ 0 ∷ 0 ∷ []) ∷ loops_of (cut_of 100 1) (200 ∷ 0 ∷ 0 ∷ 200 ∷ 0 ∷ 0 ∷ 0 ∷ 0 ∷ [])
    ∷ loops_of (cut_of 100 0) (0 ∷ 200 ∷ 200 ∷ 0 ∷ 0 ∷ 0 ∷ 0 ∷ 0 ∷ []) ∷ loops_of (cut_of 100 1) (0 ∷ 200 ∷ 200 ∷ 0 ∷ 0 ∷ 0 ∷ 0 ∷ 0 ∷ [])
    ∷ loops_of (cut_of 100 37500) (300 ∷ 50 ∷ 50 ∷ 300 ∷ 0 ∷ 0 ∷ 0 ∷ 0 ∷ []) ∷ loops_of (cut_of 100 37501) (300 ∷ 50 ∷ 50 ∷ 300 ∷ 0 ∷ 0 ∷ 0 ∷ 0 ∷ [])
    ∷ loops_of (cut_of 100 37500) (50 ∷ 300 ∷ 300 ∷ 50 ∷ 0 ∷ 0 ∷ 0 ∷ 0 ∷ []) ∷ loops_of (cut_of 100 37501) (50 ∷ 300 ∷ 300 ∷ 50 ∷ 0 ∷ 0 ∷ 0 ∷ 0 ∷ [])
    ∷ loops_of (cut_of 1 4294705155) (65535 ∷ 0 ∷ 0 ∷ 65535 ∷ 0 ∷ 0 ∷ 0 ∷ 0 ∷ []) ∷ loops_of (cut_of 1 4294705156) (65535 ∷ 0 ∷ 0 ∷ 65535 ∷ 0 ∷ 0 ∷ 0 ∷ 0 ∷ []) ∷ []

abbrev pub noisy_expected : List (List ℕ)
noisy_expected =
    (0x933 ∷ []) ∷ (0x111 ∷ 0x822 ∷ [])
    ∷ (0x633 ∷ []) ∷ (0x221 ∷ 0x412 ∷ [])
    ∷ (0x933 ∷ []) ∷ (0x111 ∷ 0x822 ∷ [])
    ∷ (0x633 ∷ []) ∷ (0x221 ∷ 0x412 ∷ [])
    ∷ (0x933 ∷ []) ∷ (0x111 ∷ 0x822 ∷ []) ∷ []
