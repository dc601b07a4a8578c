-- `old_signs` meets its contract: the signs of the rows before j stand there.
-- Assumes nothing.
use Prim.Native.Nat.{◌*◌}
use native.Mathlib.Omega.{arith}
use Rattle.plane_layers.specs.Memory.{sample_in}
use Rattle.plane_layers.proofs.Signed.{signed_more, row_in, lent_window}
use Rattle.plane_layers.proofs.old_signs.Goals as goal

pub loop-j-preserved : goal.loop-j-preserved
loop-j-preserved c =
    let a = c.args in
    let h = c.loop-j in
    let f = row_in a.nx a.ny h.j c.requires.0 c.requires.1 c.loop-j-test.true in
    let row = lent_window a.work.now (a.nx * h.j) a.nx (omega (arith, f.0)) (omega arith) c.unpack.new.window (omega (arith, f.0)) (omega arith) c.unpack.ensures in
    signed_more a.nx h.j (sample_in a.work.now) a.cut _ h.signs _ row.0 row.1 (omega arith) c.row_signs.ensures h.invariant
