-- `write_rows` meets its contract: the rows before j are written, and their numbers are remembered.
-- Assumes nothing.
use mathlib.Core.Path.{refl}
use native.Mathlib.Omega.{arith}
use Rattle.plane_layers.proofs.Writes.{state_none, small, fetch_fits, keep_fits, row_ready, state_more, state_all, ready_same, signs_same}
use Rattle.plane_layers.proofs.write_rows.Goals as goal

pub loop-j-init : goal.loop-j-init
loop-j-init c = state_none _ _ _ _ refl refl

pub step_row-m-requires : goal.step_row-m-requires
step_row-m-requires c =
    let st = c.loop-j.invariant in
    (omega arith, ready_same _ _ _ st.kept.work_long st.front c.requires.0, signs_same _ _ _ st.kept.work_long st.front c.requires.1, row_ready c.requires.0 c.requires.2 c.requires.3 st (omega arith) _ _ c.nx-nx.ensures c.ny-ny.ensures _ c.copy.ensures)

pub loop-j-preserved : goal.loop-j-preserved
loop-j-preserved c =
    let r = c.step_row-m in
    state_more c.requires.0 c.requires.2 c.requires.3 c.loop-j.invariant (omega arith) _ _ c.nx-nx.ensures c.ny-ny.ensures _ c.copy.ensures r.ensures _ c.copy-in-loop-j.ensures r.auto.words r.auto.offsets r.auto.quads

pub returns : goal.returns
returns c = state_all c.requires.0 c.requires.2 (omega arith) c.loop-j.invariant

pub copy-requires : goal.copy-requires
copy-requires c = fetch_fits c.requires.0 c.requires.2 c.requires.3 c.loop-j.invariant (omega arith) _ _ c.nx-nx.ensures c.ny-ny.ensures

pub copy-requires-in-loop-j : goal.copy-requires-in-loop-j
copy-requires-in-loop-j c = keep_fits c.requires.0 c.requires.2 c.requires.3 c.loop-j.invariant (omega arith) _ _ c.nx-nx.ensures c.ny-ny.ensures _ c.step_row-m.ensures.tab_long

pub overflow_mul-h : goal.overflow_mul-h
overflow_mul-h c = omega (arith, small c.requires.0 c.requires.2 c.requires.3 c.loop-j.invariant (omega arith) _ _ c.nx-nx.ensures c.ny-ny.ensures)
