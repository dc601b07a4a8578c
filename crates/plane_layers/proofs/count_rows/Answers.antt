-- `count_rows` meets its contract: whatever block has these planes, the marks are moved by its rows before j.
-- Assumes nothing.
use Prim.Native.Nat.{◌-◌}
use mathlib.Core.Path.{◌≡◌}
use native.Mathlib.Omega.{arith}
use Rattle.plane_layers.proofs.Rows.{marked_none}
use Rattle.plane_layers.proofs.Steps.{row_small, counted_ready, counted_next}
use Rattle.plane_layers.proofs.count_rows.Goals as goal

pub loop-j-init : goal.loop-j-init
loop-j-init c = λ s h. marked_none _ s _ _ 0 0

pub slice_bounds-row_counts-end-in-loop-j : goal.slice_bounds-row_counts-end-in-loop-j
slice_bounds-row_counts-end-in-loop-j c = omega (arith, row_small c.requires.0 c.loop-j.j _ c.nx-nx.ensures (omega arith))

pub row_counts-m-requires : goal.row_counts-m-requires
row_counts-m-requires c =
    counted_ready c.requires.0 c.requires.1 _ _ c.nx-nx.ensures (omega arith) _ (omega arith) c.unpack.ensures _ c.row_of-row.ensures c.loop-j.invariant

pub loop-j-preserved : goal.loop-j-preserved
loop-j-preserved c =
    λ s h. counted_next c.requires.0 c.requires.1 _ _ c.nx-nx.ensures (omega arith) _ (omega arith) c.unpack.ensures _ c.row_of-row.ensures h (c.loop-j.invariant s h) c.row_counts-m.ensures

pub returns : goal.returns
returns c =
    let h = c.loop-j in
    let e : h.j ≡ c.args.layer.size.ny - 1 = omega arith in
    λ s g. rw e at (h.invariant s g)
