-- The word of a loop, which a vertex takes beside its cube's number: its bits 0 to 11 are the loop's mask, and its bit 12 is the mark, which says that a
-- corner of the cube is at the detector's ceiling. Nothing else is in it.
-- Assumes nothing.
use Prim.Native.Nat.{ℕ, ◌+◌, ◌*◌, ◌%◌, ◌^◌, ◌<◌, ◌≤◌}
use mathlib.Core.Path.{◌≡◌, refl}
use mathlib.Core.Bool.{Bool, true, false}
use mathlib.Core.List.{List, [], ◌∷◌, map}
use native.Mathlib.Omega.{arith}
use lib.Count.{count_trailing_zeros}
use lib.ListN.{length, get_or, replicate}
use Rattle.laws.specs.Bits.{bit, holds, mask_of}
use Rattle.laws.specs.Fixed.{Fixes}
use Rattle.laws.proofs.Bits.{holds_top, holds_under}
use Rattle.laws.proofs.Fixed.{equation_fixes}
use Rattle.block.specs.declared.Cut.{Cut}
use Rattle.block.specs.Grey.{cut_of, ceiling, is_ceiling, has_ceiling}
use Rattle.block.proofs.Saturated.{ceiling_exactly, ceiling_none}
use Rattle.cube_rule.specs.Decider.{joined, loops_of}
use Rattle.cube_rule.specs.Edges.{pattern_of, crossed_mask}
use Rattle.cube_rule.specs.Loops.{grow, loop_from, loops_from, loops_by}
use Rattle.cell.specs.Answer.{mark_of, word_of}

-- ---- three cubes

abbrev hundred : Cut
hundred = record { t = 100; noise = 0 }

-- one corner, at the ceiling: its loop carries the mark
pub corner_at_ceiling : map (word_of (ceiling ∷ replicate 7 0)) (loops_of hundred (ceiling ∷ replicate 7 0)) ≡ 0x1111 ∷ []
unfolding loops_by joined pattern_of crossed_mask loops_from loop_from grow mask_of count_trailing_zeros
corner_at_ceiling = refl

-- all eight corners: there is no loop, so no word and no mark
pub all_at_ceiling : map (word_of (replicate 8 ceiling)) (loops_of hundred (replicate 8 ceiling)) ≡ []
unfolding loops_by joined pattern_of crossed_mask loops_from loop_from grow mask_of count_trailing_zeros
all_at_ceiling = refl

-- a face whose positive corners are at the ceiling: the greatest noise figure that joins them, and one more
pub joined_at_ceiling : map (word_of (ceiling ∷ 0 ∷ 0 ∷ ceiling ∷ replicate 4 0)) (loops_of (cut_of 1 4294705155) (ceiling ∷ 0 ∷ 0 ∷ ceiling ∷ replicate 4 0)) ≡ 0x1933 ∷ []
unfolding loops_by joined pattern_of crossed_mask loops_from loop_from grow mask_of count_trailing_zeros
joined_at_ceiling = refl

pub parted_at_ceiling : map (word_of (ceiling ∷ 0 ∷ 0 ∷ ceiling ∷ replicate 4 0)) (loops_of (cut_of 1 4294705156) (ceiling ∷ 0 ∷ 0 ∷ ceiling ∷ replicate 4 0)) ≡ 0x1111 ∷ 0x1822 ∷ []
unfolding loops_by joined pattern_of crossed_mask loops_from loop_from grow mask_of count_trailing_zeros
parted_at_ceiling = refl

-- ---- any cube

-- it holds an edge of the cube exactly if the mask does
pub word_holds : (corners : List ℕ) (m e : ℕ) → e < 12 → holds (word_of corners m) e ≡ holds m e
word_holds corners m e h = holds_under m 12 e (has_ceiling corners) h

-- its bit 12 is set exactly if some corner is at the ceiling
pub word_mark : (corners : List ℕ) (m : ℕ) → m < 4096 → holds (word_of corners m) 12 ≡ has_ceiling corners
word_mark corners m h = holds_top m 12 (has_ceiling corners) h

-- and what is left of it is the mask
pub word_mask : (corners : List ℕ) (m : ℕ) → m < 4096 → word_of corners m % 4096 ≡ m
word_mask corners m h = go (has_ceiling corners)
  where
    go : (b : Bool) → (m + bit b * 2 ^ 12) % 4096 ≡ m
    go true = omega arith
    go false = omega arith

-- it is below 8,192
pub word_small : (corners : List ℕ) (m : ℕ) → m < 4096 → word_of corners m < 8192
word_small corners m h = go (has_ceiling corners)
  where
    go : (b : Bool) → m + bit b * 2 ^ 12 < 8192
    go true = omega arith
    go false = omega arith

-- ---- the mark, corner by corner

pub marked_some : (corners : List ℕ) (i : ℕ) → i < length corners → get_or corners i 0 ≡ 65535 → 4096 ≡ mark_of corners
marked_some corners i h e = rw ((ceiling_exactly corners).1 (record { place = i; there = h; is = e }))

pub marked_none : (corners : List ℕ) (i : ℕ) → length corners ≤ i → ((k : ℕ) → k < i → is_ceiling (get_or corners k 0) ≡ false) → 0 ≡ mark_of corners
marked_none corners i h f = rw (ceiling_none corners (λ k l. f k (omega (arith, h, l))))

-- the promise of `mark` fixes its answer
pub mark_fixed : (corners : List ℕ) → Fixes (λ (r : ℕ). (r ≡ mark_of corners) × (r ≤ 4096))
mark_fixed corners a b p q = equation_fixes (mark_of corners) a b p.0 q.0
