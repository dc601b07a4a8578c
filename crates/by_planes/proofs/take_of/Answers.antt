-- `take_of` meets its contract: a row that needs no count refuses, or the first plane is remembered, or a further plane finishes a layer.
-- Assumes nothing.
use Rattle.std.proofs.Common.{◌≡◌, ◌*◌, ◌<◌, ◌≤◌, length, sym, ◌∙◌, arith}
use Rattle.block.specs.declared.Checked.TheVariants.{Passes}
use Rattle.block.specs.Answer.{in_order}
use Rattle.by_planes.specs.Answer.{call_rows}
use Rattle.by_planes.proofs.Rows.{later_rows, call_axes, passed}
use Rattle.by_planes.proofs.Calls.{taken_refused, taken_first, taken_short, taken_further, layer_ready, grown_as, sized_limits, wrote_as}
use Rattle.by_planes.proofs.take_of.Goals as goal

pub returns-in-Refuses : goal.returns-in-Refuses
returns-in-Refuses c =
    taken_refused c.args.stream c.args.plane.now c.args.work.now c.args.words.now c.args.offsets.now c.args.quads.now _
    (call_axes c.args.stream _ _ (sized_limits c.requires) ∙ sym c.check_call-checked.ensures ∙ c.in-Refuses.is)

pub keep_plane-requires : goal.keep_plane-requires
keep_plane-requires c =
    let later : in_order (later_rows c.args.stream (length c.args.plane.now) (length c.args.work.now)) ≡ Passes = sym c.check_call-checked.ensures ∙ c.in_default.is in
    let facts : (length c.args.plane.now ≡ c.args.stream.nx * c.args.stream.ny) × (6 * (c.args.stream.nx * c.args.stream.ny) ≤ length c.args.work.now) × (c.args.stream.planes < c.args.stream.nz) × (c.args.stream.nz ≤ 256) = let p = passed c.args.stream (length c.args.plane.now) (length c.args.work.now) (later) in (p.2, p.3, p.1, (sized_limits c.requires).z_high) in
    let f = facts in omega (arith, f.0, f.1)

pub returns-then-stream-eq0 : goal.returns-then-stream-eq0
returns-then-stream-eq0 c =
    let later : in_order (later_rows c.args.stream (length c.args.plane.now) (length c.args.work.now)) ≡ Passes = sym c.check_call-checked.ensures ∙ c.in_default.is in
    let early : in_order (call_rows c.args.stream (length c.args.plane.now) (length c.args.work.now)) ≡ Passes = call_axes c.args.stream _ _ (sized_limits c.requires) ∙ later in
    let facts : (length c.args.plane.now ≡ c.args.stream.nx * c.args.stream.ny) × (6 * (c.args.stream.nx * c.args.stream.ny) ≤ length c.args.work.now) × (c.args.stream.planes < c.args.stream.nz) × (c.args.stream.nz ≤ 256) = let p = passed c.args.stream (length c.args.plane.now) (length c.args.work.now) (later) in (p.2, p.3, p.1, (sized_limits c.requires).z_high) in
    let f = facts in
    let st = c.args.stream in
    wrote_as c.grown.ensures
    (taken_first st c.args.plane.now c.args.work.now c.args.words.now c.args.offsets.now c.args.quads.now early f.0 f.1 f.2 c.if-stream-eq0.true _ c.keep_plane.ensures)

pub grow-counted-requires : goal.grow-counted-requires
grow-counted-requires c =
    let later : in_order (later_rows c.args.stream (length c.args.plane.now) (length c.args.work.now)) ≡ Passes = sym c.check_call-checked.ensures ∙ c.in_default.is in
    layer_ready c.requires c.args.plane.now c.args.work.now later _ _ c.first_of.ensures.upper_bound c.before-2.ensures

pub grown-requires-in-Counts : goal.grown-requires-in-Counts
grown-requires-in-Counts c =
    let later : in_order (later_rows c.args.stream (length c.args.plane.now) (length c.args.work.now)) ≡ Passes = sym c.check_call-checked.ensures ∙ c.in_default.is in
    let facts : (length c.args.plane.now ≡ c.args.stream.nx * c.args.stream.ny) × (6 * (c.args.stream.nx * c.args.stream.ny) ≤ length c.args.work.now) × (c.args.stream.planes < c.args.stream.nz) × (c.args.stream.nz ≤ 256) = let p = passed c.args.stream (length c.args.plane.now) (length c.args.work.now) (later) in (p.2, p.3, p.1, (sized_limits c.requires).z_high) in
    let f = facts in omega (arith, f.2, f.3)

pub returns-in-Refused : goal.returns-in-Refused
returns-in-Refused c =
    let later : in_order (later_rows c.args.stream (length c.args.plane.now) (length c.args.work.now)) ≡ Passes = sym c.check_call-checked.ensures ∙ c.in_default.is in
    let early : in_order (call_rows c.args.stream (length c.args.plane.now) (length c.args.work.now)) ≡ Passes = call_axes c.args.stream _ _ (sized_limits c.requires) ∙ later in
    let facts : (length c.args.plane.now ≡ c.args.stream.nx * c.args.stream.ny) × (6 * (c.args.stream.nx * c.args.stream.ny) ≤ length c.args.work.now) × (c.args.stream.planes < c.args.stream.nz) × (c.args.stream.nz ≤ 256) = let p = passed c.args.stream (length c.args.plane.now) (length c.args.work.now) (later) in (p.2, p.3, p.1, (sized_limits c.requires).z_high) in
    let f = facts in
    taken_short c.args.stream c.args.plane.now c.args.work.now c.args.words.now c.args.offsets.now c.args.quads.now early f.0 f.1 f.2 _ c.before-2.ensures
    (grown_as c.requires _ _ c.first_of.ensures.value c.grow-counted.ensures) _ c.in-Refused.is

pub returns-in-Counts : goal.returns-in-Counts
returns-in-Counts c =
    let later : in_order (later_rows c.args.stream (length c.args.plane.now) (length c.args.work.now)) ≡ Passes = sym c.check_call-checked.ensures ∙ c.in_default.is in
    let early : in_order (call_rows c.args.stream (length c.args.plane.now) (length c.args.work.now)) ≡ Passes = call_axes c.args.stream _ _ (sized_limits c.requires) ∙ later in
    let facts : (length c.args.plane.now ≡ c.args.stream.nx * c.args.stream.ny) × (6 * (c.args.stream.nx * c.args.stream.ny) ≤ length c.args.work.now) × (c.args.stream.planes < c.args.stream.nz) × (c.args.stream.nz ≤ 256) = let p = passed c.args.stream (length c.args.plane.now) (length c.args.work.now) (later) in (p.2, p.3, p.1, (sized_limits c.requires).z_high) in
    let f = facts in
    wrote_as c.grown-in-Counts.ensures
    (taken_further c.args.stream c.args.plane.now c.args.work.now c.args.words.now c.args.offsets.now c.args.quads.now early f.0 f.1 f.2 _ c.before-2.ensures
    (grown_as c.requires _ _ c.first_of.ensures.value c.grow-counted.ensures) _ c.in-Counts.is)
