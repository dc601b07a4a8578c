-- `step_readings` meets its contract: the row's windows are lent, and what is written is what the block has there.
-- Assumes nothing.
use Prim.Native.Nat.{ℕ, ◌+◌, ◌*◌, ◌-◌, ◌≤◌}
use native.Mathlib.Omega.{arith}
use mathlib.Core.List.{List}
use lib.Ieee.{Float}
use lib.ListN.{length, take, drop}
use Rattle.vertices.proofs.CubeCorners.{Windows}
use Rattle.vertices.proofs.Layers.{low_fits, high_fits, lent_windows}
use Rattle.readings.specs.Reading.{greys_of, Sound}
use Rattle.readings.proofs.Readings.{greys_length, sound_part}
use Rattle.mesh.proofs.Sources.{reading_windows}
use Rattle.mesh.proofs.RowSteps.{step_ready, row_more, underway_number, underway_roomy}
use Rattle.mesh.proofs.step_readings.Goals as goal

pub slice_bounds-row_step-end : goal.slice_bounds-row_step-end
slice_bounds-row_step-end c =
    let low : ℕ = let a = c.args in c.nx-nx.result * (a.j + c.ny-ny.result * a.k) in
    let low_in : low + 2 * c.nx-nx.result ≤ length c.args.readings.now = let xs = c.args.readings.now in omega (arith, greys_length xs, low_fits c.args.size (greys_of xs) c.args.j c.args.k _ _ c.nx-nx.ensures c.ny-ny.ensures c.requires.0.samples c.requires.2.row c.requires.0.inside) in
    low_in

pub slice_bounds-row_step-end-2 : goal.slice_bounds-row_step-end-2
slice_bounds-row_step-end-2 c =
    let low : ℕ = let a = c.args in c.nx-nx.result * (a.j + c.ny-ny.result * a.k) in
    let high : ℕ = low + c.nx-nx.result * c.ny-ny.result in
    let high_in : high + 2 * c.nx-nx.result ≤ length c.args.readings.now = let xs = c.args.readings.now in omega (arith, greys_length xs, high_fits c.args.size (greys_of xs) c.args.j c.args.k _ _ c.nx-nx.ensures c.ny-ny.ensures c.requires.0.samples c.requires.2.row c.requires.0.inside) in
    high_in

pub row_step-requires : goal.row_step-requires
row_step-requires c =
    let low : ℕ = let a = c.args in c.nx-nx.result * (a.j + c.ny-ny.result * a.k) in
    let high : ℕ = low + c.nx-nx.result * c.ny-ny.result in
    let lent : ℕ → List Float = λ p. take (p + 2 * c.nx-nx.result - p) (drop p c.args.readings.now) in
    let windows : Windows c.args.size (greys_of c.args.readings.now) c.args.j c.args.k (greys_of (lent (low))) (greys_of (lent (high))) = reading_windows c.args.size c.args.readings.now c.args.j c.args.k (low) (low + 2 * c.nx-nx.result - low) (high) (high + 2 * c.nx-nx.result - high) (lent_windows c.requires.0 c.args.j _ _ c.nx-nx.ensures c.ny-ny.ensures c.requires.2.row) in
    let sound : (p : ℕ) → Sound (lent p) = λ p. sound_part c.args.readings.now p (p + 2 * c.nx-nx.result - p) c.requires.4 in
    let r = c.requires in
    let g = step_ready r.0 r.2.row r.1.threshold (underway_roomy r.3 r.0.limits r.2.row r.0.inside) c.args.under.now c.args.tab.now r.2.under_long r.2.tab_long windows _ c.row_of-row.ensures in
    (sound low, sound high, g.0, g.1, g.2, g.3)

pub returns : goal.returns
returns c =
    let low : ℕ = let a = c.args in c.nx-nx.result * (a.j + c.ny-ny.result * a.k) in
    let high : ℕ = low + c.nx-nx.result * c.ny-ny.result in
    let lent : ℕ → List Float = λ p. take (p + 2 * c.nx-nx.result - p) (drop p c.args.readings.now) in
    let windows : Windows c.args.size (greys_of c.args.readings.now) c.args.j c.args.k (greys_of (lent (low))) (greys_of (lent (high))) = reading_windows c.args.size c.args.readings.now c.args.j c.args.k (low) (low + 2 * c.nx-nx.result - low) (high) (high + 2 * c.nx-nx.result - high) (lent_windows c.requires.0 c.args.j _ _ c.nx-nx.ensures c.ny-ny.ensures c.requires.2.row) in
    let r = c.requires in
    row_more r.0 r.2 (underway_number r.3) windows _ c.row_of-row.ensures c.row_step.ensures
