-- `cube::raised` meets its contract: the product of two i32 and a u32 fit an i64.
-- Assumes nothing.
use mathlib.Core.Path.{◌≡◌, ap₂, ◌∙◌, subst⁻¹}
use lib.IntN.{ℤ, pos, ◌+ℤ◌, ◌*ℤ◌}
use mir.Syntax.{w64}
use mir.Val.{SFits, to_z, of_z}
use mir.Facts.{to_z-of_z}
use Rattle.laws.proofs.Signed.{back, raised_fits, read_u32}
use Rattle.cube.proofs.raised.Goals as goal

pub overflow_add-result : goal.overflow_add-result
overflow_add-result c =
    let whole : to_z w64 (of_z w64 c.product.result) +ℤ to_z w64 c.args.n ≡ c.args.x *ℤ c.args.y +ℤ pos c.args.n = ap₂ (λ (x y : ℤ). x +ℤ y) (back w64 c.product.type_inv ∙ c.product.ensures ∙ ap₂ (λ (x y : ℤ). x *ℤ y) (to_z-of_z c.ranges.x) (to_z-of_z c.ranges.y)) (read_u32 c.ranges.n) in
    subst⁻¹ (λ (z : ℤ). SFits w64 z) whole (raised_fits c.ranges.x c.ranges.y c.ranges.n)
