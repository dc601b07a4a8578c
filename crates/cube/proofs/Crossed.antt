-- The crossed edges of a sign pattern as they are worked out, and that they are those of the definition: one computed test over all 256 patterns.
-- Assumes nothing.
use mathlib.Core.Path.{◌≡◌}
use Prim.Native.Nat.{ℕ, ◌*◌, ◌/◌, ◌%◌, ◌^◌, ◌<◌}
use lib.Bits.{bit_and, bit_or, bit_xor}
use lib.Dec.{T, eqb, eqb→eq}
use Rattle.laws.specs.Bits.{mask_of}
use Rattle.laws.proofs.Tests.{below, below_at}
use Rattle.cube_rule.specs.Edges.{crossed_mask}

-- The steps of the code. The pattern is compared with itself 1, 2 and 4 corners on. Of each comparison the bits of the lower corners are kept, and
-- moved together.
abbrev worked : ℕ → ℕ
worked p =
    let x = bit_and (bit_xor p (p / 2)) 85 in
    let y = bit_and (bit_xor p (p / 4)) 51 in
    let z = bit_and (bit_xor p (p / 16)) 15 in
    let pairs = bit_and (bit_or x (x / 2)) 51 in
    let along_x_lem = bit_and (bit_or pairs (pairs / 4)) 15 in
    let along_y_lem = bit_and (bit_or y (y / 4)) 15 in
    bit_or (bit_or along_x_lem (along_y_lem * 16 % 2 ^ 32)) (z * 256 % 2 ^ 32)

computed : T (below 256 (λ p. eqb (worked p) (crossed_mask p)))
unfolding below crossed_mask mask_of
computed = tt

pub worked_is : (p : ℕ) → p < 256 → worked p ≡ crossed_mask p
worked_is p h = eqb→eq _ _ (below_at 256 (λ p. eqb (worked p) (crossed_mask p)) computed p h)
