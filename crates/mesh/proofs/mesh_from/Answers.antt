-- `mesh_from` meets its contract: rows 5 and 6 refuse with the counts, or the whole mesh is written.
-- Assumes nothing.
use Prim.Native.Nat.{ℕ}
use mathlib.Core.Path.{◌≡◌, ap, sym, ◌∙◌}
use mathlib.Core.List.{List}
use native.Mathlib.Omega.{arith}
use Rattle.mesh.specs.declared.Totals.{Totals}
use Rattle.mesh.specs.Answer.{counts_of}
use Rattle.mesh.specs.Source.{block_of}
use Rattle.mesh.proofs.Tallies.{tallied_few, tallied_counts}
use Rattle.mesh.proofs.MeshSteps.{late_refused, roomy_of, passed_by}
use Rattle.mesh.proofs.mesh_from.Goals as goal

pub total-counts-requires : goal.total-counts-requires
total-counts-requires c =
    let block : List ℕ = block_of c.args.source c.args.samples.now c.args.readings.now in
    tallied_few c.args.size block c.args.cut c.tally_block-t.result c.requires.0.limits c.tally_block-t.ensures

pub check_buffers-fits-requires : goal.check_buffers-fits-requires
check_buffers-fits-requires c =
    let block : List ℕ = block_of c.args.source c.args.samples.now c.args.readings.now in
    let few = tallied_few c.args.size block c.args.cut c.tally_block-t.result c.requires.0.limits c.tally_block-t.ensures in
    (omega (arith, few.0, ap (λ (t : Totals). t.vertices) c.total-counts.ensures), omega (arith, few.1, ap (λ (t : Totals). t.quads) c.total-counts.ensures))

pub returns-in-Refuses : goal.returns-in-Refuses
returns-in-Refuses c =
    let block : List ℕ = block_of c.args.source c.args.samples.now c.args.readings.now in
    let counts_are : c.total-counts.result ≡ counts_of c.args.size (block) c.args.cut = c.total-counts.ensures ∙ tallied_counts c.args.size (block) c.args.cut c.tally_block-t.result c.tally_block-t.ensures in
    late_refused c.args.size block c.args.cut c.args.words.now c.args.offsets.now c.args.quads.now c.total-counts.result counts_are _
    (sym c.check_buffers-fits.ensures ∙ c.in-Refuses.is)

pub write_block-requires : goal.write_block-requires
write_block-requires c =
    let block : List ℕ = block_of c.args.source c.args.samples.now c.args.readings.now in
    let counts_are : c.total-counts.result ≡ counts_of c.args.size (block) c.args.cut = c.total-counts.ensures ∙ tallied_counts c.args.size (block) c.args.cut c.tally_block-t.result c.tally_block-t.ensures in (
      c.requires.0,
      c.tally_block-t.ensures,
      roomy_of c.args.size block c.args.cut c.args.words.now c.args.offsets.now c.args.quads.now c.total-counts.result counts_are
          (sym c.check_buffers-fits.ensures ∙ c.in_default.is),
      c.requires.1,
    )

pub returns : goal.returns
returns c =
    let block : List ℕ = block_of c.args.source c.args.samples.now c.args.readings.now in
    let counts_are : c.total-counts.result ≡ counts_of c.args.size (block) c.args.cut = c.total-counts.ensures ∙ tallied_counts c.args.size (block) c.args.cut c.tally_block-t.result c.tally_block-t.ensures in
    passed_by c.args.size block c.args.cut c.args.words.now c.args.offsets.now c.args.quads.now c.total-counts.result counts_are
    (sym c.check_buffers-fits.ensures ∙ c.in_default.is) _ _ _ c.write_block.ensures
