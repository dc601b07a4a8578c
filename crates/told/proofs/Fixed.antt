-- Each promise of the crate fixes its answer: any two answers that it allows are equal.
-- Assumes nothing.
use Prim.Native.Nat.{ℕ}
use mathlib.Core.Path.{◌≡◌}
use mathlib.Core.List.{List}
use lib.Ieee.{Float}
use Rattle.laws.specs.Fixed.{Fixes}
use Rattle.laws.proofs.Fixed.{equation_fixes}
use Rattle.block.specs.declared.CeilingCount.{CeilingCount}
use Rattle.block.specs.Answer.{Answer, accepted}
use Rattle.place.specs.declared.Offset.{Offset}
use Rattle.mesh_rule.specs.Buffers.{triples}
use Rattle.mesh.specs.declared.Totals.{Totals}
use Rattle.mesh.specs.Answer.{told_counts}
use Rattle.closed.specs.Closed.{Finding}
use Rattle.foundry_rule.specs.Judged.{Comparison}
use Rattle.pieces.specs.declared.Parts.{Parts}
use Rattle.by_planes.specs.declared.Stream.{Stream}
use Rattle.by_planes.specs.declared.Growth.{Growth}
use Rattle.told.specs.Numbers.{told_ceilings, told_edge, told_fraction, told_number, told_closed, told_judgement, told_pieces, told_length, told_nothing, told_growth, state_numbers, state_of}

pub tell_ceilings_fixed : (x : CeilingCount) → Fixes (λ (r : List ℕ). r ≡ told_ceilings (accepted x))
tell_ceilings_fixed x = equation_fixes (told_ceilings (accepted x))

pub tell_edge_fixed : (x : Answer (List Float)) → Fixes (λ (r : List ℕ). r ≡ told_edge x)
tell_edge_fixed x = equation_fixes (told_edge x)

pub tell_fraction_fixed : (x : Answer (List Float)) → Fixes (λ (r : List Float). r ≡ told_fraction x)
tell_fraction_fixed x = equation_fixes (told_fraction x)

-- of `tell_reading`, `tell_cube` and `tell_crossed`
pub tell_number_fixed : (x : Answer ℕ) → Fixes (λ (r : List ℕ). r ≡ told_number x)
tell_number_fixed x = equation_fixes (told_number x)

pub tell_offsets_fixed : (x : List Offset) → Fixes (λ (r : List Float). r ≡ triples x)
tell_offsets_fixed x = equation_fixes (triples x)

pub tell_counts_fixed : (x : Answer Totals) → Fixes (λ (r : List ℕ). r ≡ told_counts x)
tell_counts_fixed x = equation_fixes (told_counts x)

pub tell_closed_fixed : (x : Answer Finding) → Fixes (λ (r : List ℕ). r ≡ told_closed x)
tell_closed_fixed x = equation_fixes (told_closed x)

pub tell_judgement_fixed : (x : Answer Comparison) → Fixes (λ (r : List ℕ). r ≡ told_judgement x)
tell_judgement_fixed x = equation_fixes (told_judgement x)

pub tell_pieces_fixed : (x : Answer Parts) → Fixes (λ (r : List ℕ). r ≡ told_pieces x)
tell_pieces_fixed x = equation_fixes (told_pieces x)

pub tell_length_fixed : (x : Answer ℕ) → Fixes (λ (r : List ℕ). r ≡ told_length x)
tell_length_fixed x = equation_fixes (told_length x)

-- of `tell_row` and `tell_file`
pub tell_nothing_fixed : {A : Type 0} (x : Answer A) → Fixes (λ (r : List ℕ). r ≡ told_nothing x)
tell_nothing_fixed x = equation_fixes (told_nothing x)

-- plane by plane
pub tell_taken_fixed : (x : Answer Growth) → Fixes (λ (r : List ℕ). r ≡ told_growth x)
tell_taken_fixed x = equation_fixes (told_growth x)

pub tell_state_fixed : (st : Stream) → Fixes (λ (r : List ℕ). r ≡ state_numbers st)
tell_state_fixed st = equation_fixes (state_numbers st)

pub read_state_fixed : (l : List ℕ) → Fixes (λ (r : Stream). r ≡ state_of l)
read_state_fixed l = equation_fixes (state_of l)
