-- From the size that was made, or the axis that was refused, to the verdict of a whole call; and that the promises fix their answers.
-- Assumes nothing.
use Prim.Native.Nat.{ℕ}
use mathlib.Core.Path.{◌≡◌, ap₂, sym, ◌∙◌, subst}
use mathlib.Core.List.{List, [], ◌∷◌, ◌++◌}
use native.Mathlib.Omega.{arith}
use lib.ListN.{length}
use lib.Ieee.{Float}
use Rattle.laws.specs.Fixed.{Fixes}
use Rattle.laws.proofs.Fixed.{Injective, equation_fixes, said_fixes}
use Rattle.block.specs.declared.Cut.{Cut}
use Rattle.block.specs.declared.Size.{Size}
use Rattle.block.specs.declared.Refusal.{Refusal}
use Rattle.block.specs.declared.Sized.TheVariants.{Made, BadAxis}
use Rattle.block.specs.declared.Checked.{Checked}
use Rattle.block.specs.declared.Checked.TheVariants.{Passes, Refuses}
use Rattle.block.specs.Answer.{in_order}
use Rattle.block.specs.Block.{block_rows}
use Rattle.block.specs.Rows.{axis_row, count_row, threshold_row}
use Rattle.block.specs.Size.{size_of, SizeMade, Limits}
use Rattle.block.proofs.Order.{order_refuses, order_passes, order_first, order_rest, judged_refused, written_refused}
use Rattle.block.proofs.Blocks.{sampled_of}
use Rattle.block.proofs.Sizes.{axis_refused, axis_passed, size_made}
use Rattle.cube_rule.specs.Decider.{loops_of}
use Rattle.rows.specs.declared.Row.{Row}
use Rattle.layers.specs.declared.Marks.{Marks}
use Rattle.layers.proofs.Fixed.{same_marks}
use Rattle.mesh.specs.declared.Totals.{Totals}
use Rattle.mesh.specs.declared.Counted.{Counted}
use Rattle.mesh.specs.declared.Counted.TheVariants as counted
use Rattle.mesh.specs.Answer.{counts_of, said_counts, buffer_rows, CountsAnswered, MeshedBy, Meshed}
use Rattle.mesh.specs.Steps.{Meshable, totals_of, row_of, Counting}

-- ---- a refused axis refuses the call, and leaves every buffer

pub refused_by : (k : Checked) (n : Size) (s : List ℕ) (cut : Cut) (w : List ℕ) (o : List Float) (q : List ℕ) (r : Refusal) → k ≡ Refuses r
    → MeshedBy k n s cut w o q (counted.Refused r) w o q
refused_by k n s cut w o q r e = record {
  answer = judged_refused k (counts_of n s cut) r e;
  words = sym (written_refused k _ w r e);
  offsets = sym (written_refused k _ o r e);
  quads = sym (written_refused k _ q r e);
}

-- the rows of a block of this size, and then rows 5 and 6
module _ (nx ny nz : ℕ) (rows : Size → List Checked) (s : List ℕ) (cut : Cut) (w : List ℕ) (o : List Float) (q : List ℕ) where
  abbrev behind : Size → List Checked
  behind n = rows n ++ buffer_rows (counts_of n s cut) (length w) (length o) (length q)

  abbrev whole : Checked
  whole = in_order (axis_row nx ny nz ∷ behind (size_of nx ny nz))

  pub mesh_bad_axis : (a : ℕ) → SizeMade nx ny nz (BadAxis a) → MeshedBy whole (size_of nx ny nz) s cut w o q (counted.Refused (record { number = 1; value = a })) w o q
  mesh_bad_axis a e = refused_by _ _ s _ w o q _ (order_refuses (axis_row nx ny nz) _ _ (axis_refused nx ny nz a e))

  -- a size that was made leaves it to the other rows
  pub mesh_made : (n : Size) (r : Counted) (w' : List ℕ) (o' : List Float) (q' : List ℕ) → SizeMade nx ny nz (Made n) → MeshedBy (in_order (behind n)) n s cut w o q r w' o' q'
      → MeshedBy whole (size_of nx ny nz) s cut w o q r w' o' q'
  mesh_made n r w' o' q' e h =
      subst (λ (k : Checked). MeshedBy k (size_of nx ny nz) s cut w o q r w' o' q') (sym (order_passes (axis_row nx ny nz) _ (axis_passed nx ny nz n e)))
      (subst (λ (m : Size). MeshedBy (in_order (behind m)) m s cut w o q r w' o' q') (size_made nx ny nz n e).0 h)

-- ---- unique

pub said_counts_injective : Injective said_counts
said_counts_injective (counted.Counts c) (counted.Counts d) e = cc
said_counts_injective (counted.Counts c) (counted.Refused r) e = let z : ◌≡◌ {A = ℕ} 0 1 = cc in absurd (omega arith)
said_counts_injective (counted.Refused r) (counted.Counts d) e = let z : ◌≡◌ {A = ℕ} 0 1 = cc in absurd (omega arith)
said_counts_injective (counted.Refused r) (counted.Refused q) e = cc

-- any two answers that the promise of `counts` allows are equal
pub counts_fixed : (nx ny nz : ℕ) (s : List ℕ) (cut : Cut) → Fixes (CountsAnswered nx ny nz s cut)
counts_fixed nx ny nz s cut = said_fixes said_counts _ said_counts_injective

-- any two answers of a mesh, with the three buffers at exit, that one verdict allows are equal: of `mesh_from`, and of `mesh`
pub meshed_fixed : (k : Checked) (n : Size) (s : List ℕ) (cut : Cut) (w : List ℕ) (o : List Float) (q : List ℕ)
    → Fixes (λ (x : Counted × List ℕ × List Float × List ℕ). MeshedBy k n s cut w o q x.0 x.1 x.2 x.3)
meshed_fixed k n s cut w o q a b p r =
    ap₂ (λ (x : Counted) (y : List ℕ). (x, y, a.2, a.3)) (said_counts_injective a.0 b.0 (p.answer ∙ sym r.answer)) (p.words ∙ sym r.words)
    ∙ ap₂ (λ (x : List Float) (y : List ℕ). (b.0, b.1, x, y)) (p.offsets ∙ sym r.offsets) (p.quads ∙ sym r.quads)

pub mesh_fixed : (nx ny nz : ℕ) (s : List ℕ) (cut : Cut) (w : List ℕ) (o : List Float) (q : List ℕ)
    → Fixes (λ (x : Counted × List ℕ × List Float × List ℕ). Meshed nx ny nz s cut w o q x.0 x.1 x.2 x.3)
mesh_fixed nx ny nz s cut w o q = meshed_fixed _ (size_of nx ny nz) s cut w o q

-- of `counts_from`, `check_buffers`, `row_of`, `total` and `with_layers`
pub counts_from_fixed : (n : Size) (s : List ℕ) (cut : Cut) → Fixes (λ (r : Totals). r ≡ counts_of n s cut)
counts_from_fixed n s cut = equation_fixes (counts_of n s cut)

pub check_buffers_fixed : (t : Totals) (words offsets lent : ℕ) → Fixes (λ (r : Checked). r ≡ in_order (buffer_rows t words offsets lent))
check_buffers_fixed t words offsets lent = equation_fixes (in_order (buffer_rows t words offsets lent))

pub row_of_fixed : (n : Size) (cut : Cut) (first j k : ℕ) → Fixes (λ (r : Row). r ≡ row_of n cut first j k)
row_of_fixed n cut first j k = equation_fixes (row_of n cut first j k)

pub total_fixed : (m : Marks) → Fixes (λ (r : Totals). r ≡ totals_of m)
total_fixed m = equation_fixes (totals_of m)

pub with_layers_fixed : (n : Size) (s : List ℕ) (cut : Cut) (k : ℕ) → Fixes (Counting loops_of n s cut 0 k)
with_layers_fixed n s cut k r q p h =
    same_marks r q (p.v_is ∙ sym h.v_is) (p.x_is ∙ sym h.x_is) (p.y_is ∙ sym h.y_is) (p.z_is ∙ sym h.z_is)

-- ---- what follows where rows 2 and 3 pass

pub meshable_of : (n : Size) (s : List ℕ) (cut : Cut) → Limits n → in_order (block_rows n s cut) ≡ Passes → Meshable n s cut
meshable_of n s cut l e =
    record { limits = l; count = (sampled_of n s cut l e).samples; threshold = order_first (threshold_row cut) [] (order_rest (count_row n (length s)) _ e) }
