-- `begun_at` meets its contract: the four numbers of a quad of the list are numbers of vertices.
-- Assumes nothing.
use Rattle.std.proofs.Common.{◌<◌, arith}
use Rattle.foundry_quads.proofs.Numbers.{number_below}
use Rattle.foundry_quads.proofs.begun_at.Goals as goal

pub returns-clause-four_below : goal.returns-clause-four_below
returns-clause-four_below c =
    let below = number_below _ c.args.quads.now c.args.q c.requires.quads_below c.requires.q_bound in
    let h : c.highest-h.result < 4 = c.highest-h.ensures.upper_bound in
    record {
      a_below = below _ (omega arith);
      b_below = below _ (omega arith);
      c_below = below _ h;
      d_below = below _ (omega arith);
    }
