-- The promises of `row_step`, `row_counts` and `with_quads` fix the answer, and that of `row_step` every buffer at exit. `active_step` and `active_counts` have the
-- promises of the first two.
-- Assumes nothing.
use mathlib.Core.Path.{◌≡◌, sym, ap, ap₂, ◌∙◌}
use mathlib.Core.List.{List}
use Prim.Native.Nat.{ℕ, ◌+◌}
use lib.Ieee.{Float}
use lib.ListN.{length}
use lib.Seq.{sets}
use Rattle.laws.specs.Fixed.{Fixes}
use Rattle.block.specs.declared.Cut.{Cut}
use Rattle.vertices.proofs.Fixed.{row_written_fixed}
use Rattle.layers.specs.declared.Marks.{Marks}
use Rattle.rows.specs.declared.Row.{Row}
use Rattle.rows.specs.Rows.{row_masks}
use Rattle.layers.specs.Steps.{half, step_x, step_y, step_z, RowStepped, MarksBy, RowCounted}
use Rattle.layers.proofs.Halves.{halves_same}
use Rattle.layers.proofs.Steps.{step_counts}

-- the same four numbers
pub same_marks : (r r' : Marks) → r.v ≡ r'.v → r.x ≡ r'.x → r.y ≡ r'.y → r.z ≡ r'.z → r ≡ r'
same_marks r r' e f g h =
    ap₂ (λ (v x : ℕ). record { v = v; x = x; y = r.y; z = r.z }) e f ∙ ap₂ (λ (y z : ℕ). record { v = r'.v; x = r'.x; y = y; z = z }) g h

pub with_quads_fixed : (v : ℕ) (row : Row) (a b : List ℕ) (m : Marks) → Fixes (λ (r : Marks). MarksBy v row a b m r)
with_quads_fixed v row a b m r r' p s =
    same_marks r r' (p.v_is ∙ sym s.v_is) (p.x_is ∙ sym s.x_is) (p.y_is ∙ sym s.y_is) (p.z_is ∙ sym s.z_is)

module _ (loops_of : Cut → List ℕ → List ℕ) (lo hi : List ℕ) (row : Row) (a b : List ℕ) where
  pub row_counts_fixed : (m : Marks) → Fixes (λ (r : Marks). RowCounted loops_of lo hi row a b m r)
  row_counts_fixed m = with_quads_fixed (length (row_masks loops_of lo hi row.cut row.nx)) row a b m

  pub row_step_fixed : (below : List ℕ) (m : Marks) (w₀ w w' : List ℕ) (o₀ o o' : List Float) (q₀ q q' t₀ t t' : List ℕ) (r r' : Marks)
      → RowStepped loops_of lo hi row a b below m w₀ w o₀ o q₀ q t₀ t r → RowStepped loops_of lo hi row a b below m w₀ w' o₀ o' q₀ q' t₀ t' r' → (r ≡ r') × (w ≡ w') × (o ≡ o') × (q ≡ q') × (t ≡ t')
  row_step_fixed below m w₀ w w' o₀ o o' q₀ q q' t₀ t t' r r' p s =
      let x = row_written_fixed loops_of lo hi row.cut row.nx row.c row.first m.v w₀ w w' o₀ o o' (half row.j t₀) (half row.j t) (half row.j t') r.v r'.v p.written s.written in
      let e = halves_same row.j t t' p.long s.long x.3 (p.prev_kept ∙ sym s.prev_kept) in (
        row_counts_fixed m r r' (step_counts loops_of lo hi row a b below m w₀ w o₀ o q₀ q t₀ t r p) (step_counts loops_of lo hi row a b below m w₀ w' o₀ o' q₀ q' t₀ t' r' s),
        x.1,
        x.2,
        p.more.quads_are ∙ ap (stepped below m q₀) e ∙ sym s.more.quads_are,
        e,
      )
    where
      -- the quads by the numbers that are left
      stepped : List ℕ → Marks → List ℕ → List ℕ → List ℕ
      stepped below m q₀ t =
          let j = row.j in
          sets (sets (sets q₀ m.x (step_x a row.nx j row.lower (half (j + 1) below) (half j below) (half (j + 1) t) (half j t))) m.y (step_y a row.nx j row.lower (half j below) (half j t)))
          m.z (step_z a b row.nx j row.lower (half (j + 1) t) (half j t))
