-- `new_signs` meets its contract: the signs of the rows before j stand there.
-- Assumes nothing.
use Prim.Native.Nat.{◌*◌}
use mathlib.Core.Path.{refl}
use native.Mathlib.Omega.{arith}
use Rattle.plane_layers.specs.Memory.{item_at}
use Rattle.plane_layers.proofs.Signed.{signed_more, row_in, lent_row}
use Rattle.plane_layers.proofs.new_signs.Goals as goal

pub loop-j-preserved : goal.loop-j-preserved
loop-j-preserved c =
    let a = c.args in
    let h = c.loop-j in
    let f = row_in a.nx a.ny h.j c.requires.0 c.requires.1 c.loop-j-test.true in
    let row = lent_row a.plane.now (item_at a.plane.now) a.nx (a.nx * h.j) (omega (arith, f.0)) (λ x l. refl) in
    signed_more a.nx h.j (item_at a.plane.now) a.cut _ h.signs _ row.0 row.1 (omega arith) c.row_signs.ensures h.invariant
