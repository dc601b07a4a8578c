-- Rows of thresholds that are computed: over the block of document 01, "The program", with thresholds that row 3 refuses and one that occurs twice; and the orders
-- of the rows that refuse a whole call.
-- Assumes nothing.
use Prim.Native.Nat.{ℕ}
use mathlib.Core.Path.{◌≡◌, refl}
use mathlib.Core.List.{List, [], ◌∷◌}
use lib.Count.{count_trailing_zeros}
use lib.ListN.{replicate}
use Rattle.laws.specs.Below.{below}
use Rattle.laws.specs.Bits.{mask_of}
use Rattle.laws.specs.Filled.{filled}
use Rattle.block.specs.declared.Checked.TheVariants.{Passes}
use Rattle.block.specs.Answer.{in_order, decided}
use Rattle.block.specs.Rows.{lowest, lowest_row}
use Rattle.block.proofs.Rows.{refusal}
use Rattle.cube_rule.specs.Decider.{joined}
use Rattle.cube_rule.specs.Edges.{pattern_of, crossed_mask}
use Rattle.cube_rule.specs.Loops.{grow, loop_from, loops_from, loops_by}
use Rattle.mesh_rule.specs.Grid.{corners_of}
use Rattle.mesh_rule.specs.Mesh.{vertices_of, vertices_before, vertices, vertex_number, quad_at, quads_before, quads}
use Rattle.mesh_rule.proofs.Example.{samples}
use Rattle.thresholds.specs.Answer.{row_verdict, answers_of}

abbrev seven : List ℕ
seven = 100 ∷ 0 ∷ 65535 ∷ 400 ∷ 401 ∷ 1 ∷ 100 ∷ []

pub the_answers : answers_of 3 3 3 samples seven 0 ≡ 0 ∷ 8 ∷ 6 ∷ 3 ∷ 0 ∷ 0 ∷ 3 ∷ 65535 ∷ 0 ∷ 0 ∷ 8 ∷ 6 ∷ 0 ∷ 0 ∷ 0 ∷ 0 ∷ 8 ∷ 6 ∷ 0 ∷ 8 ∷ 6 ∷ []
unfolding below filled decided in_order lowest_row lowest vertices vertices_before vertices_of quads quads_before quad_at vertex_number corners_of loops_by joined pattern_of crossed_mask loops_from loop_from grow mask_of count_trailing_zeros
the_answers = refl

-- one noise figure for all thresholds: the cube of a tie at t = 100 has two vertices with 1, and at t = 50, where A·C is 20,000 more than B·D, it still has one
abbrev tied : List ℕ
tied = 200 ∷ 0 ∷ 0 ∷ 200 ∷ 0 ∷ 0 ∷ 0 ∷ 0 ∷ []

pub the_noise : (answers_of 2 2 2 tied (100 ∷ 50 ∷ []) 0 ≡ 0 ∷ 1 ∷ 0 ∷ 0 ∷ 1 ∷ 0 ∷ []) × (answers_of 2 2 2 tied (100 ∷ 50 ∷ []) 1 ≡ 0 ∷ 2 ∷ 0 ∷ 0 ∷ 1 ∷ 0 ∷ []) × (answers_of 2 2 2 tied (100 ∷ 50 ∷ []) 20001 ≡ 0 ∷ 2 ∷ 0 ∷ 0 ∷ 2 ∷ 0 ∷ [])
unfolding below filled decided in_order lowest_row lowest vertices vertices_before vertices_of quads quads_before quad_at vertex_number corners_of loops_by joined pattern_of crossed_mask loops_from loop_from grow mask_of count_trailing_zeros
the_noise = (refl, refl, refl)

-- the seven answers fit into 21 places and not into 20
pub the_verdict : row_verdict 3 3 3 samples seven 21 ≡ Passes
unfolding in_order lowest_row lowest
the_verdict = refl

pub too_short : row_verdict 3 3 3 samples seven 20 ≡ refusal 15 7
unfolding in_order lowest_row lowest
too_short = refl

-- a threshold that row 3 refuses does not refuse the call, and neither do two
pub three_no_refusal : (row_verdict 3 3 3 samples (0 ∷ []) 3 ≡ Passes) × (row_verdict 3 3 3 samples (65535 ∷ 0 ∷ []) 6 ≡ Passes)
unfolding in_order lowest_row lowest
three_no_refusal = (refl, refl)

-- 17 thresholds, an empty buffer, a bad axis and no sample: 16 before 15, 15 before 1, 1 before 2
pub sixteen_first : row_verdict 1 3 3 [] (replicate 17 100) 0 ≡ refusal 16 17
unfolding in_order lowest_row lowest
sixteen_first = refl

pub fifteen_next : row_verdict 1 3 3 [] (replicate 16 100) 47 ≡ refusal 15 16
unfolding in_order lowest_row lowest
fifteen_next = refl

pub axis_next : row_verdict 1 3 3 [] (replicate 16 100) 48 ≡ refusal 1 0
unfolding in_order lowest_row lowest
axis_next = refl

pub count_last : row_verdict 3 3 3 [] (replicate 16 100) 48 ≡ refusal 2 27
unfolding in_order lowest_row lowest
count_last = refl

-- an empty row: nothing is written over a good block, and a bad one is refused
pub empty_good : (row_verdict 3 3 3 samples [] 0 ≡ Passes) × (answers_of 3 3 3 samples [] 0 ≡ [])
unfolding in_order lowest_row lowest below
empty_good = (refl, refl)

pub empty_bad : row_verdict 3 3 3 [] [] 0 ≡ refusal 2 27
unfolding in_order lowest_row lowest
empty_bad = refl
