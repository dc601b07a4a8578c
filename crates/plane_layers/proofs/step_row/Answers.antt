-- `step_row` meets its contract: the row's windows are made or lent, and what is written is the row of every block that has the planes.
-- Assumes nothing.
use native.Mathlib.Omega.{arith}
use Rattle.plane_layers.proofs.Shown.{words_short}
use Rattle.plane_layers.proofs.Steps.{row_small, written_ready, row_taken}
use Rattle.plane_layers.proofs.step_row.Goals as goal

pub unpack-requires : goal.unpack-requires
unpack-requires c = omega (arith, words_short c.requires.1 c.args.j _ c.nx-nx.ensures c.requires.3.row)

pub slice_bounds-row_step-end-2 : goal.slice_bounds-row_step-end-2
slice_bounds-row_step-end-2 c = omega (arith, row_small c.requires.1 c.args.j _ c.nx-nx.ensures c.requires.3.row)

pub row_step-requires : goal.row_step-requires
row_step-requires c =
    written_ready c.requires.1 c.requires.2 _ _ c.nx-nx.ensures c.requires.3.row _ (omega arith) c.unpack.ensures _ c.row_of-row.ensures c.args.under.now c.args.tab.now c.requires.3

pub returns : goal.returns
returns c =
    row_taken c.requires.1 c.requires.2 _ _ c.nx-nx.ensures c.requires.3.row _ (omega arith) c.unpack.ensures _ c.row_of-row.ensures c.requires.3 c.row_step.ensures
