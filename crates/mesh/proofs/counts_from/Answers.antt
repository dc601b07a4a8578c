-- `counts_from` meets its contract: the counts of a whole tally.
-- Assumes nothing.
use Prim.Native.Nat.{ℕ}
use mathlib.Core.Path.{◌∙◌}
use mathlib.Core.List.{List}
use Rattle.mesh.specs.Source.{block_of}
use Rattle.mesh.proofs.Tallies.{tallied_few, tallied_counts}
use Rattle.mesh.proofs.counts_from.Goals as goal

pub total-requires : goal.total-requires
total-requires c =
    let block : List ℕ = block_of c.args.source c.args.samples.now c.args.readings.now in
    tallied_few c.args.size block c.args.cut c.tally_block.result c.requires.0.limits c.tally_block.ensures

pub returns : goal.returns
returns c =
    let block : List ℕ = block_of c.args.source c.args.samples.now c.args.readings.now in
    c.total.ensures ∙ tallied_counts c.args.size block c.args.cut c.tally_block.result c.tally_block.ensures
