-- `check_call` meets its contract: one row after the other.
-- Assumes nothing.
use Rattle.std.proofs.Common.{◌≡◌, ◌*◌, ◌≤◌, sym, ◌∙◌, arith}
use Rattle.block.specs.declared.Checked.TheVariants.{Passes}
use Rattle.block.specs.Rows.{threshold_row}
use Rattle.by_planes.proofs.Rows.{plane_small, plane_is, work_is, call_threshold, call_past, call_plane, call_room}
use Rattle.by_planes.proofs.check_call.Goals as goal

pub returns-in-Refuses : goal.returns-in-Refuses
returns-in-Refuses c = call_threshold c.args.stream c.args.count c.args.room _ (sym c.check_threshold-threshold.ensures ∙ c.in-Refuses.is)

pub returns-then-stream : goal.returns-then-stream
returns-then-stream c =
    let passed : threshold_row c.args.stream.cut ≡ Passes = sym c.check_threshold-threshold.ensures ∙ c.in_default.is in
    c.refuse.ensures ∙ call_past c.args.stream c.args.count c.args.room passed (omega (arith, c.ranges)) (omega (arith, c.if-stream.true))

pub returns-then-count-all : goal.returns-then-count-all
returns-then-count-all c =
    let passed : threshold_row c.args.stream.cut ≡ Passes = sym c.check_threshold-threshold.ensures ∙ c.in_default.is in
    let small : c.nx-nx.result * c.ny-ny.result ≤ 65536 = plane_small c.requires c.nx-nx.ensures c.ny-ny.ensures in
    c.refuse-then-count-all.ensures ∙ call_plane c.args.stream c.args.count c.args.room passed (omega (arith, c.if-stream.false)) _ small (plane_is c.requires c.nx-nx.ensures c.ny-ny.ensures) (λ e. c.if-count-all.true e)

pub returns : goal.returns
returns c =
    let passed : threshold_row c.args.stream.cut ≡ Passes = sym c.check_threshold-threshold.ensures ∙ c.in_default.is in
    c.check_room.ensures ∙ work_is c.requires c.nx-nx.ensures c.ny-ny.ensures _ ∙ call_room c.args.stream c.args.count c.args.room passed (omega (arith, c.if-stream.false)) (c.if-count-all.false ∙ plane_is c.requires c.nx-nx.ensures c.ny-ny.ensures)
