-- `tally_block` meets its contract: nothing is counted before the first layer, and all is before the last plane.
-- Assumes nothing.
use Prim.Native.Nat.{ℕ, ◌-◌}
use mathlib.Core.List.{List}
use native.Mathlib.Omega.{arith}
use Rattle.mesh.specs.Source.{block_of}
use Rattle.mesh.proofs.Tallies.{marked_start, marked_all}
use Rattle.mesh.proofs.tally_block.Goals as goal

pub layers_from-requires : goal.layers_from-requires
layers_from-requires c =
    let block : List ℕ = block_of c.args.source c.args.samples.now c.args.readings.now in
    (c.requires.0, c.requires.1, omega arith, omega (arith, c.nz-last.ensures, c.requires.0.limits.z_low), marked_start c.args.size block c.args.cut 0 0)

pub returns : goal.returns
returns c =
    let block : List ℕ = block_of c.args.source c.args.samples.now c.args.readings.now in
    marked_all c.args.size block c.args.cut 0 0 (c.nz-last.result - 1) (omega (arith, c.nz-last.ensures, c.requires.0.limits.z_low)) c.layers_from.ensures
