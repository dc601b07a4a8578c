-- `count_samples` meets its contract: the row's windows are lent, and what is counted is what the block has there.
-- Assumes nothing.
use Prim.Native.Nat.{◌+◌, ◌*◌, ◌-◌, ◌≤◌}
use lib.ListN.{length}
use Rattle.vertices.proofs.CubeCorners.{Windows}
use Rattle.vertices.proofs.Layers.{low_fits, high_fits, lent_low, lent_high, lent_windows}
use Rattle.mesh.proofs.RowSteps.{counts_ready, counts_next}
use Rattle.mesh.proofs.count_samples.Goals as goal

pub slice_bounds-row_counts-end : goal.slice_bounds-row_counts-end
slice_bounds-row_counts-end c =
    let low_in : let nx = c.nx-nx.result in let p = nx * (c.args.j + c.ny-ny.result * c.args.k) in p + 2 * nx ≤ length c.args.samples.now = low_fits c.args.size c.args.samples.now c.args.j c.args.k _ _ c.nx-nx.ensures c.ny-ny.ensures c.requires.0.samples c.requires.1 c.requires.0.inside in
    low_in

pub slice_bounds-row_counts-end-2 : goal.slice_bounds-row_counts-end-2
slice_bounds-row_counts-end-2 c =
    let high_in : let nx = c.nx-nx.result in let p = nx * (c.args.j + c.ny-ny.result * c.args.k) + nx * c.ny-ny.result in p + 2 * nx ≤ length c.args.samples.now = high_fits c.args.size c.args.samples.now c.args.j c.args.k _ _ c.nx-nx.ensures c.ny-ny.ensures c.requires.0.samples c.requires.1 c.requires.0.inside in
    high_in

pub row_counts-requires : goal.row_counts-requires
row_counts-requires c =
    let windows : let n = c.nx-nx in Windows c.args.size c.args.samples.now c.args.j c.args.k (lent_low c.requires.0 c.args.j n.result c.ny-ny.result n.ensures c.ny-ny.ensures c.requires.1) (lent_high c.requires.0 c.args.j n.result c.ny-ny.result n.ensures c.ny-ny.ensures c.requires.1) = lent_windows c.requires.0 c.args.j _ _ c.nx-nx.ensures c.ny-ny.ensures c.requires.1 in
    counts_ready c.requires.0 _ c.requires.1 windows _ c.row_of-row.ensures c.requires.2

pub returns : goal.returns
returns c =
    let windows : let n = c.nx-nx in Windows c.args.size c.args.samples.now c.args.j c.args.k (lent_low c.requires.0 c.args.j n.result c.ny-ny.result n.ensures c.ny-ny.ensures c.requires.1) (lent_high c.requires.0 c.args.j n.result c.ny-ny.result n.ensures c.ny-ny.ensures c.requires.1) = lent_windows c.requires.0 c.args.j _ _ c.nx-nx.ensures c.ny-ny.ensures c.requires.1 in
    counts_next c.requires.0 _ c.requires.1 windows _ c.row_of-row.ensures c.requires.2 c.row_counts.ensures
