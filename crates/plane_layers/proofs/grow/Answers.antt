-- `grow` meets its contract: the layer is counted, rows 5 and 6 refuse, or the layer is written and remembered.
-- Assumes nothing.
use mathlib.Core.Path.{ap, sym, ◌∙◌}
use native.Mathlib.Omega.{arith}
use Rattle.mesh.specs.declared.Totals.{Totals}
use Rattle.plane_layers.specs.Layer.{SignsReady}
use Rattle.plane_layers.proofs.Grown.{signs_ready, layer_few, grown_refused, layer_roomy, grown_passed}
use Rattle.plane_layers.proofs.grow.Goals as goal

pub total-counts-requires : goal.total-counts-requires
total-counts-requires c = layer_few c.requires c.count_rows-t.ensures

pub check_buffers-fits-requires : goal.check_buffers-fits-requires
check_buffers-fits-requires c =
    let few = layer_few c.requires c.count_rows-t.ensures in
    (omega (arith, few.0, ap (λ (t : Totals). t.vertices) c.total-counts.ensures), omega (arith, few.1, ap (λ (t : Totals). t.quads) c.total-counts.ensures))

pub returns-in-Refuses : goal.returns-in-Refuses
returns-in-Refuses c = grown_refused c.requires c.count_rows-t.ensures c.args.words.now c.args.offsets.now c.args.quads.now c.total-counts.result c.total-counts.ensures _ (sym c.check_buffers-fits.ensures ∙ c.in-Refuses.is)

pub write_rows-requires : goal.write_rows-requires
write_rows-requires c =
    let ready : SignsReady c.args.layer c.args.work.now c.args.plane.now c.old_signs.new.signs c.new_signs.new.signs = signs_ready c.requires _ _ _ _ c.nx-nx.ensures c.ny-ny.ensures c.old_signs.auto.signs c.new_signs.auto.signs c.old_signs.ensures c.new_signs.ensures in
    (c.requires, ready, c.count_rows-t.ensures, layer_roomy c.requires c.count_rows-t.ensures c.args.words.now c.args.offsets.now c.args.quads.now c.total-counts.result c.total-counts.ensures (sym c.check_buffers-fits.ensures ∙ c.in_default.is))

pub returns : goal.returns
returns c = grown_passed c.requires c.count_rows-t.ensures c.args.words.now c.args.offsets.now c.args.quads.now c.total-counts.result c.total-counts.ensures (sym c.check_buffers-fits.ensures ∙ c.in_default.is) _ _ _ _ _ c.write_rows.ensures c.keep_plane.ensures
