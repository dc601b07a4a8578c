-- `step_samples` meets its contract: the row's windows are lent, and what is written is what the block has there.
-- Assumes nothing.
use Prim.Native.Nat.{◌+◌, ◌*◌, ◌-◌, ◌≤◌}
use lib.ListN.{length}
use Rattle.vertices.proofs.CubeCorners.{Windows}
use Rattle.vertices.proofs.Layers.{low_fits, high_fits, lent_low, lent_high, lent_windows}
use Rattle.mesh.proofs.RowSteps.{step_ready, row_more, underway_number, underway_roomy}
use Rattle.mesh.proofs.step_samples.Goals as goal

pub slice_bounds-row_step-end : goal.slice_bounds-row_step-end
slice_bounds-row_step-end c =
    let low_in : let nx = c.nx-nx.result in let p = nx * (c.args.j + c.ny-ny.result * c.args.k) in p + 2 * nx ≤ length c.args.samples.now = low_fits c.args.size c.args.samples.now c.args.j c.args.k _ _ c.nx-nx.ensures c.ny-ny.ensures c.requires.0.samples c.requires.2.row c.requires.0.inside in
    low_in

pub slice_bounds-row_step-end-2 : goal.slice_bounds-row_step-end-2
slice_bounds-row_step-end-2 c =
    let high_in : let nx = c.nx-nx.result in let p = nx * (c.args.j + c.ny-ny.result * c.args.k) + nx * c.ny-ny.result in p + 2 * nx ≤ length c.args.samples.now = high_fits c.args.size c.args.samples.now c.args.j c.args.k _ _ c.nx-nx.ensures c.ny-ny.ensures c.requires.0.samples c.requires.2.row c.requires.0.inside in
    high_in

pub row_step-requires : goal.row_step-requires
row_step-requires c =
    let windows : let n = c.nx-nx in Windows c.args.size c.args.samples.now c.args.j c.args.k (lent_low c.requires.0 c.args.j n.result c.ny-ny.result n.ensures c.ny-ny.ensures c.requires.2.row) (lent_high c.requires.0 c.args.j n.result c.ny-ny.result n.ensures c.ny-ny.ensures c.requires.2.row) = lent_windows c.requires.0 c.args.j _ _ c.nx-nx.ensures c.ny-ny.ensures c.requires.2.row in
    let r = c.requires in
    step_ready r.0 r.2.row r.1.threshold (underway_roomy r.3 r.0.limits r.2.row r.0.inside) c.args.under.now c.args.tab.now r.2.under_long r.2.tab_long windows _ c.row_of-row.ensures

pub returns : goal.returns
returns c =
    let windows : let n = c.nx-nx in Windows c.args.size c.args.samples.now c.args.j c.args.k (lent_low c.requires.0 c.args.j n.result c.ny-ny.result n.ensures c.ny-ny.ensures c.requires.2.row) (lent_high c.requires.0 c.args.j n.result c.ny-ny.result n.ensures c.ny-ny.ensures c.requires.2.row) = lent_windows c.requires.0 c.args.j _ _ c.nx-nx.ensures c.ny-ny.ensures c.requires.2.row in
    let r = c.requires in
    row_more r.0 r.2 (underway_number r.3) windows _ c.row_of-row.ensures c.row_step.ensures
