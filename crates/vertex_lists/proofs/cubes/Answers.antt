-- `cubes` meets its contract: 255³ is the largest product.
-- Assumes nothing.
use native.Mathlib.Omega.{arith}
use native.Mathlib.Nat.{mul-le-mul}
use Rattle.vertex_lists.proofs.Rows.{less}
use Rattle.vertex_lists.proofs.cubes.Goals as goal

pub overflow_mul-result : goal.overflow_mul-result
overflow_mul-result c =
    let p = c.requires in omega (arith, mul-le-mul (less p.y_high c.ny-y.ensures) (less p.z_high c.nz-z.ensures))
