-- The samples that were read: at most 512, each of 16 bits, and as they stand at the front of a buffer.
-- Assumes nothing.
use Prim.Native.Nat.{ℕ, ◌*◌, ◌≤◌, ◌<◌}
use mathlib.Core.Path.{◌≡◌}
use mathlib.Core.Logic.{◌⊎◌, inl, inr}
use mathlib.Core.List.{List, [], ◌∷◌}
use native.Mathlib.Nat.{mul-le-mul}
use native.Mathlib.Omega.{arith}
use lib.ListN.{get_or, take, get_or-eq_default}
use Rattle.laws.specs.Below.{below, over}
use Rattle.laws.proofs.Over.{over_take, each, each_length, each_at}
use Rattle.laws.proofs.Tests.{lt_or_ge}
use Rattle.block.specs.declared.Size.{Size}
use Rattle.block.specs.Grey.{SixteenBit}
use Rattle.block.specs.Numbering.{sample_count}
use Rattle.reading.specs.Input.{samples_read}
use Rattle.reading.specs.Steps.{sample_read}
use Rattle.reading.proofs.Axes.{AtMostEight}
use Rattle.reading.proofs.Reading.{number_small}

-- ---- the samples that were read

-- a block has at most 512 samples
pub block_small : (nx ny nz : ℕ) → AtMostEight nx ny nz → nx * (ny * nz) ≤ 512
block_small nx ny nz h = mul-le-mul h.x h.rows

module _ (bytes : List ℕ) (n : Size) where
  pub samples_grey : SixteenBit (samples_read bytes n)
  unfolding samples_read
  samples_grey i = go (lt_or_ge i (sample_count n))
    where
      go : (i < sample_count n) ⊎ (sample_count n ≤ i) → get_or (each (sample_read bytes n.nx) (sample_count n)) i 0 < 65536
      go (inl l) = rw (each_at (sample_read bytes n.nx) (sample_count n) i 0 l) (number_small bytes _)
      go (inr g) =
          rw (get_or-eq_default (each (sample_read bytes n.nx) (sample_count n)) 0 {n = i} (rw (each_length (sample_read bytes n.nx) (sample_count n)) g)) (omega arith)

  -- as `fill` leaves them at the front of a buffer
  pub samples_front : (b c : List ℕ) → c ≡ over (below (λ (i : ℕ). sample_read bytes n.nx i ∷ []) (sample_count n)) b → take (sample_count n) c ≡ samples_read bytes n
  unfolding samples_read
  samples_front b c e = rw e (over_take (each (sample_read bytes n.nx) (sample_count n)) b (sample_count n) (each_length (sample_read bytes n.nx) (sample_count n)))
