-- The rows in their order, as the code tries them.
-- Assumes nothing.
use Prim.Native.Nat.{ℕ, ◌/◌, ◌≤◌}
use mathlib.Core.Path.{◌≡◌, sym, ap, subst, ◌∙◌}
use mathlib.Core.List.{List}
use native.Mathlib.Omega.{arith}
use lib.ListN.{length}
use lib.Ieee.{Float}
use Rattle.block.specs.declared.Refusal.{Refusal}
use Rattle.block.specs.declared.Checked.{Checked}
use Rattle.block.specs.declared.Checked.TheVariants.{Passes, Refuses}
use Rattle.block.specs.declared.Size.{Size}
use Rattle.block.specs.declared.Sized.TheVariants.{Made, BadAxis}
use Rattle.block.specs.Answer.{in_order}
use Rattle.block.specs.Rows.{axis_row}
use Rattle.block.specs.Size.{size_of, SizeMade}
use Rattle.block.proofs.Order.{order_refuses, order_passes, order_first, orders_refuse, orders_pass}
use Rattle.block.proofs.Sizes.{axis_refused, axis_passed, size_made}
use Rattle.vertex_lists.specs.Rows.{shape_row, vertex_rows}
use Rattle.vertex_lists.proofs.Rows.{shape_exactly}
use Rattle.ply.specs.declared.Spacing.{Spacing}
use Rattle.ply.specs.Answer.{face_rows, ply_verdict}
use Rattle.ply.specs.Words.{file_length}
use Rattle.ply.proofs.Files.{ply_length}

module _ (nx ny nz : ℕ) (words : List ℕ) (offsets : List Float) (quads : List ℕ) (spacing : Spacing) (room : ℕ) where
  pub axis_refuses : (a : ℕ) → SizeMade nx ny nz (BadAxis a) → Refuses (record { number = 1; value = a }) ≡ ply_verdict nx ny nz words offsets quads spacing room
  axis_refuses a m = sym (order_refuses (axis_row nx ny nz) _ _ (axis_refused nx ny nz a m))

  module _ (n : Size) (made : SizeMade nx ny nz (Made n)) where
    -- the rows of the vertices, of the size that was made
    of_size : (k : Checked) → in_order (vertex_rows n words offsets) ≡ k → in_order (vertex_rows (size_of nx ny nz) words offsets) ≡ k
    of_size k = subst (λ (m : Size). in_order (vertex_rows m words offsets) ≡ k) (size_made nx ny nz n made).0

    pub vertices_refuse : (r : Refusal) → in_order (vertex_rows n words offsets) ≡ Refuses r → Refuses r ≡ ply_verdict nx ny nz words offsets quads spacing room
    vertices_refuse r e = sym (order_passes (axis_row nx ny nz) _ (axis_passed nx ny nz n made) ∙ orders_refuse (vertex_rows (size_of nx ny nz) words offsets) _ r (of_size (Refuses r) e))

    pub faces_decide : in_order (vertex_rows n words offsets) ≡ Passes → (k : Checked) → k ≡ in_order (face_rows (length words / 2) quads spacing (file_length (length words / 2) (length quads / 4)) room)
        → k ≡ ply_verdict nx ny nz words offsets quads spacing room
    faces_decide e k f =
        f
        ∙ ap (λ (l : ℕ). in_order (face_rows (length words / 2) quads spacing l room)) (sym (ply_length (size_of nx ny nz) words offsets quads spacing))
        ∙ sym (order_passes (axis_row nx ny nz) _ (axis_passed nx ny nz n made) ∙ orders_pass (vertex_rows (size_of nx ny nz) words offsets) _ (of_size Passes e))

-- as many vertices as there may be
pub few_vertices : (n : Size) (words : List ℕ) (offsets : List Float) → in_order (vertex_rows n words offsets) ≡ Passes → length words / 2 ≤ 66325500
few_vertices n words offsets e =
    let h = (shape_exactly (length words) (length offsets)).0 (order_first (shape_row (length words) (length offsets)) _ e) in
    omega (arith, h.1, h.3)
