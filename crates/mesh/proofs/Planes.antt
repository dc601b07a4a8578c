-- Plane by plane: the first and the last plane have no inner edges along x and y, the last none along z.
-- Assumes nothing.
use Prim.Native.Nat.{ℕ, ◌+◌, ◌*◌, ◌/◌, ◌<◌}
use mathlib.Core.Path.{◌≡◌, refl, ap, ◌∙◌}
use mathlib.Core.Bool.{Bool, true, false, ◌&&◌, and-false}
use mathlib.Core.List.{List}
use native.Mathlib.Nat.{add_comm, div-div-eq-div-mul}
use native.Mathlib.Omega.{arith}
use lib.Dec.{ltb}
use borrow.Author.Tests.{le-ltb}
use Rattle.laws.proofs.Index.{pair_div}
use Rattle.block.specs.declared.Cut.{Cut}
use Rattle.block.specs.declared.Size.{Size}
use Rattle.block.specs.Numbering.{Axis, X, Y, Z}
use Rattle.mesh_rule.specs.Grid.{inner, between}
use Rattle.mesh_rule.specs.Layers.{plane_size}

-- the plane of a sample, by its index
pub plane_of_lem : (w h k p : ℕ) → p < w * h → (w * h * k + p) / w / h ≡ k
plane_of_lem w h k p l = div-div-eq-div-mul (w * h * k + p) w h ∙ ap (λ (x : ℕ). x / (w * h)) (add_comm (w * h * k) p) ∙ pair_div (w * h) p k l

last_false : (a b c : Bool) → c ≡ false → (a && b && c) ≡ false
last_false true true c h = h
last_false true false c h = refl
last_false false b c h = refl

-- c is the first or the last of n
pub end_first : (n : ℕ) → between n 0 ≡ false
end_first n = refl

pub end_last : (n k : ℕ) → k + 1 ≡ n → between n k ≡ false
end_last n k e = ap (λ (b : Bool). ltb 0 k && b) (le-ltb (k + 1) n (omega arith)) ∙ and-false (ltb 0 k)

module _ (n : Size) (s : List ℕ) (cut : Cut) where
  pub plane_z : (k p : ℕ) → p < plane_size n → (plane_size n * k + p) / n.nx / n.ny ≡ k
  plane_z k p l = plane_of_lem n.nx n.ny k p l

  -- a plane from which no inner edge runs along the axis: the first and the last along x and y, the last along z
  abbrev pub Outer : Axis → ℕ → Type 0
  Outer X k = between n.nz k ≡ false
  Outer Y k = between n.nz k ≡ false
  Outer Z k = k + 1 ≡ n.nz

  pub outer_inner : (a : Axis) (i j k : ℕ) → Outer a k → inner n a i j k ≡ false
  outer_inner X i j k h = last_false (ltb (i + 1) n.nx) (between n.ny j) (between n.nz k) h
  outer_inner Y i j k h = last_false (between n.nx i) (ltb (j + 1) n.ny) (between n.nz k) h
  outer_inner Z i j k h = last_false (between n.nx i) (between n.ny j) (ltb (k + 1) n.nz) (le-ltb (k + 1) n.nz (omega arith))

  pub outer_last : (a : Axis) (k : ℕ) → k + 1 ≡ n.nz → Outer a k
  outer_last X k e = end_last n.nz k e
  outer_last Y k e = end_last n.nz k e
  outer_last Z k e = e
