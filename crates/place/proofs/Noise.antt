-- Neither an edge nor a place reads the noise figure: both are by the threshold alone.
-- Assumes nothing.
use Prim.Native.Nat.{ℕ, zero, suc}
use mathlib.Core.Path.{◌≡◌, refl, ap₂, ap}
use mathlib.Core.Bool.{cond}
use mathlib.Core.List.{List, [], ◌∷◌}
use lib.Count.{ones}
use lib.Ieee.{Float, binary64, add, div}
use Rattle.laws.specs.Bits.{holds}
use Rattle.block.specs.declared.Cut.{Cut}
use Rattle.block.specs.Answer.{in_order, judged}
use Rattle.block.specs.Grey.{cut_of}
use Rattle.block.specs.Rows.{threshold_row}
use Rattle.place.specs.Crossing.{float, fraction, crossing, edge_answer}
use Rattle.place.specs.Place.{local, fraction_at, sum_on, mean_on, place_of}

-- "Edge answers don't read n": what the edge question answers is the crossing by any cut with its threshold
pub edge_reads_no_noise : (cut : Cut) (p q : ℕ) → edge_answer p q cut.t ≡ judged (in_order (threshold_row cut ∷ [])) (crossing cut p q)
unfolding edge_answer crossing fraction
edge_reads_no_noise cut p q = refl

module _ (t m n : ℕ) (corners : List ℕ) (mask : ℕ) where
  sum_alike : (a e : ℕ) → sum_on a mask (cut_of t m) corners e ≡ sum_on a mask (cut_of t n) corners e
  unfolding sum_on fraction_at fraction
  sum_alike a zero = refl
  sum_alike a (suc e) =
      ap₂ (λ (x y : Float). cond (holds mask e) x y)
      (ap (λ (x : Float). add binary64 x (local a e (fraction_at (cut_of t n) corners e))) (sum_alike a e)) (sum_alike a e)

  mean_alike : (a : ℕ) → mean_on a mask (cut_of t m) corners ≡ mean_on a mask (cut_of t n) corners
  unfolding mean_on
  mean_alike a = ap (λ (x : Float). div binary64 x (float (ones mask))) (sum_alike a 12)

  -- a set of edges has the same place under any two noise figures
  pub place_reads_no_noise : place_of (cut_of t m) corners mask ≡ place_of (cut_of t n) corners mask
  unfolding place_of
  place_reads_no_noise = rw (mean_alike 0, mean_alike 1, mean_alike 2)
