-- What the rows that pass say of the lists that the foundry sends.
-- Assumes nothing.
use Prim.Native.Nat.{ℕ, ◌*◌, ◌/◌, ◌≤◌}
use mathlib.Core.Path.{◌≡◌, refl}
use mathlib.Core.List.{List, [], ◌∷◌, ◌++◌}
use native.Mathlib.Omega.{arith}
use lib.Ieee.{Float}
use lib.ListN.{length}
use Rattle.block.specs.declared.Checked.{Checked}
use Rattle.block.specs.declared.Checked.TheVariants.{Passes}
use Rattle.block.specs.declared.Cut.{Cut}
use Rattle.block.specs.declared.Size.{Size}
use Rattle.block.specs.Answer.{accepted, in_order, judged}
use Rattle.block.specs.Block.{block_rows}
use Rattle.block.specs.Rows.{count_row, threshold_row}
use Rattle.block.specs.Size.{Limits}
use Rattle.block.specs.Steps.{Sampled}
use Rattle.block.proofs.Blocks.{count_passed}
use Rattle.block.proofs.Order.{order_first, order_rest, judged_passed}
use Rattle.block.proofs.Searches.{search_none}
use Rattle.lists.specs.Rows.{length_row, number_row, quad_below}
use Rattle.vertex_lists.specs.Rows.{shape_row}
use Rattle.vertex_lists.proofs.Rows.{shape_exactly}
use Rattle.foundry_rule.specs.Distinct.{QuadsBelow}
use Rattle.foundry_rule.specs.Judged.{vertex_total}
use Rattle.foundry_vertices.specs.Steps.{Shaped}
use Rattle.foundry.specs.Answer.{sent_rows}

module _ (n : Size) (s : List ℕ) (cut : Cut) (words : List ℕ) (offsets : List Float) (quads : List ℕ) (p : in_order (block_rows n s cut ++ sent_rows words offsets quads) ≡ Passes) where
  after_count : in_order (threshold_row cut ∷ sent_rows words offsets quads) ≡ Passes
  after_count = order_rest (count_row n (length s)) _ p

  sent_pass : in_order (sent_rows words offsets quads) ≡ Passes
  sent_pass = order_rest (threshold_row cut) _ after_count

  after_shape : in_order (length_row quads ∷ number_row (vertex_total words) quads ∷ []) ≡ Passes
  after_shape = order_rest (shape_row (length words) (length offsets)) _ sent_pass

  pub sent_sampled : Limits n → Sampled n s
  sent_sampled l = record { limits = l; samples = count_passed n (length s) (order_first (count_row n (length s)) _ p) }

  pub sent_shaped : Shaped words offsets
  sent_shaped = go ((shape_exactly (length words) (length offsets)).0 (order_first (shape_row (length words) (length offsets)) _ sent_pass))
    where
      go : (v : ℕ) × (length words ≡ 2 * v) × (length offsets ≡ 3 * v) × (v ≤ 66325500) → Shaped words offsets
      go r =
          let half : length words / 2 ≡ r.0 = omega (arith, r.1) in
          record { offsets_long = omega (arith, r.2, half); few = omega (arith, r.3, half) }

  pub sent_below : QuadsBelow (vertex_total words) quads
  sent_below = search_none 14 (quad_below (vertex_total words) quads) (length quads / 4) (order_first (number_row (vertex_total words) quads) [] (order_rest (length_row quads) _ after_shape))

-- where no row refuses, what is found is accepted
pub judged_accepts : {A : Type 0} (k : Checked) (a : A) → k ≡ Passes → accepted a ≡ judged k a
judged_accepts k a e = judged_passed k a a e refl
