-- What a C caller is told of each answer: 01's number, then values, zeros where they are not used. Counts are told as mesh/specs/Answer.antt says.
use Rattle.std.specs.Prelude.{ℕ, ◌%◌, List, [], ◌∷◌, length, get_or, Float}
use Rattle.laws.specs.Filled.{filled}
use Rattle.block.specs.declared.CeilingCount.{CeilingCount}
use Rattle.block.specs.Answer.{Answer, accepted, refused, given, told}
use Rattle.block.specs.Grey.{cut_of}
use Rattle.place.specs.Place.{plus_zero}
use Rattle.closed.specs.Closed.{Finding, all_sound, open_at}
use Rattle.foundry_rule.specs.Judged.{Comparison, same, vertex_at_fault, quad_at_fault, some_missing}
use Rattle.pieces.specs.declared.Parts.{Parts}
use Rattle.by_planes.specs.declared.Stream.{Stream}
use Rattle.by_planes.specs.declared.Growth.{Growth}

-- samples at the ceiling, and the lowest index of one
abbrev pub told_ceilings : Answer CeilingCount → List ℕ
told_ceilings = told 3 (λ c. c.count ∷ c.lowest ∷ [])

-- crossings
abbrev pub told_edge : Answer (List Float) → List ℕ
told_edge = told 3 (λ f. length f ∷ [])

-- the fraction, and zero where there is none
abbrev pub told_fraction : Answer (List Float) → List Float
told_fraction (accepted f) = filled 1 plus_zero f
told_fraction (refused r) = filled 1 plus_zero []

-- one number: the grey value of a reading, the loops of a cube, the crossed edges of a block
abbrev pub told_number : Answer ℕ → List ℕ
told_number = told 3 (λ n. n ∷ [])

-- 1 if closed; 0, quad, side if open
abbrev pub finding_numbers : Finding → List ℕ
finding_numbers all_sound = 1 ∷ []
finding_numbers (open_at q s) = 0 ∷ given q ∷ given s ∷ []

abbrev pub told_closed : Answer Finding → List ℕ
told_closed = told 4 finding_numbers

-- 1 if the meshes are the same; else 0, and 1 and a vertex, 2 and a quad, or 3
abbrev pub comparison_numbers : Comparison → List ℕ
comparison_numbers same = 1 ∷ []
comparison_numbers (vertex_at_fault v) = 0 ∷ 1 ∷ given v ∷ []
comparison_numbers (quad_at_fault q) = 0 ∷ 2 ∷ given q ∷ []
comparison_numbers some_missing = 0 ∷ 3 ∷ []

abbrev pub told_judgement : Answer Comparison → List ℕ
told_judgement = told 4 comparison_numbers

-- pieces, and the links of the longest search
abbrev pub told_pieces : Answer Parts → List ℕ
told_pieces = told 3 (λ p. p.count ∷ p.longest ∷ [])

-- the bytes of a file, and 0 where there is none
abbrev pub told_length : Answer ℕ → List ℕ
told_length (accepted n) = filled 1 0 (n ∷ [])
told_length (refused r) = filled 1 0 []

-- 0 alone, or the refusal: a file and its length stand in places of their own, and so do the answers of a row of thresholds
abbrev pub told_nothing : {A : Type 0} → Answer A → List ℕ
told_nothing = told 3 (λ _. [])

-- ---- plane by plane

-- how many vertices and quads a plane gave
abbrev pub told_growth : Answer Growth → List ℕ
told_growth = told 3 (λ g. g.counts.vertices ∷ g.counts.quads ∷ [])

-- a state in eight numbers; how many planes were taken stands last, so a place that is too short holds none
abbrev pub state_numbers : Stream → List ℕ
state_numbers st = st.nx ∷ st.ny ∷ st.nz ∷ st.cut.t ∷ st.cut.noise ∷ st.vertices ∷ st.quads ∷ st.planes ∷ []

-- the state that eight numbers are: a missing one is 0, and the threshold is taken modulo 65,536
abbrev pub state_of : List ℕ → Stream
state_of l = record { nx = get_or l 0 0; ny = get_or l 1 0; nz = get_or l 2 0; cut = cut_of (get_or l 3 0 % 65536) (get_or l 4 0); vertices = get_or l 5 0; quads = get_or l 6 0; planes = get_or l 7 0 }
