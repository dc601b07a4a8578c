-- The rows of a block of readings, by cases, and what follows where they pass. Assumes nothing.
use mathlib.Core.Path.{◌≡◌, sym, ◌∙◌}
use mathlib.Core.List.{List}
use lib.ListN.{length}
use lib.Ieee.{Float}
use Rattle.block.specs.declared.Cut.{Cut}
use Rattle.block.specs.declared.Size.{Size}
use Rattle.block.specs.declared.Refusal.{Refusal}
use Rattle.block.specs.declared.Checked.{Checked}
use Rattle.block.specs.declared.Checked.TheVariants.{Passes, Refuses}
use Rattle.block.specs.Answer.{in_order}
use Rattle.block.specs.Rows.{count_row, threshold_row}
use Rattle.block.specs.Size.{Limits}
use Rattle.block.specs.Steps.{Sampled}
use Rattle.block.proofs.Blocks.{count_passed}
use Rattle.block.proofs.Order.{order_refuses, order_passes, order_last, order_first, order_rest}
use Rattle.mesh.specs.Steps.{Meshable}
use Rattle.readings.specs.Reading.{greys_of, bad_row, Sound}
use Rattle.readings.proofs.Readings.{greys_length, fault_none}
use Rattle.readings_mesh.specs.Answer.{reading_rows}

module _ (n : Size) (xs : List Float) (cut : Cut) where
  -- the first that refuses decides
  pub threshold_refused : count_row n (length xs) ≡ Passes → (r : Refusal) → threshold_row cut ≡ Refuses r → Refuses r ≡ in_order (reading_rows n xs cut)
  threshold_refused e r f = sym (order_passes (count_row n (length xs)) _ e ∙ order_refuses (threshold_row cut) _ r f)

  pub faults_decide : count_row n (length xs) ≡ Passes → threshold_row cut ≡ Passes → (k : Checked) → k ≡ bad_row xs → k ≡ in_order (reading_rows n xs cut)
  faults_decide e f k g = g ∙ sym (order_passes (count_row n (length xs)) _ e ∙ order_passes (threshold_row cut) _ f ∙ order_last (bad_row xs))

  -- all pass
  module _ (l : Limits n) (e : in_order (reading_rows n xs cut) ≡ Passes) where
    pub readings_sampled : Sampled n (greys_of xs)
    readings_sampled = record { limits = l; samples = greys_length xs ∙ count_passed n (length xs) (order_first (count_row n (length xs)) _ e) }

    pub readings_sound : Sound xs
    readings_sound = (fault_none xs).0 (sym (order_last (bad_row xs)) ∙ order_rest (threshold_row cut) _ (order_rest (count_row n (length xs)) _ e))

    pub readings_meshable : Meshable n (greys_of xs) cut
    readings_meshable = record {
      limits = l;
      count = readings_sampled.samples;
      threshold = order_first (threshold_row cut) _ (order_rest (count_row n (length xs)) _ e);
    }
