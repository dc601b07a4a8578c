-- Which numbers an entry point gives: counting a mesh gives 1 to 3 only, the mesh 5 and 6 besides, cube and edge questions give 3, the closed question
-- only 7, with lent memory 15 besides. And that no value of counting or meshing is cut.
use Prim.Native.Nat.{ℕ, ◌*◌, ◌%◌, ◌≤◌, ◌<◌}
use mathlib.Core.Path.{◌≡◌, sym, ap, ◌∙◌}
use mathlib.Core.Bool.{Bool, cond, ◌&&◌}
use mathlib.Core.Logic.{◌⊎◌, inl, inr, ⊎_elim}
use mathlib.Core.List.{List, [], ◌∷◌, ◌++◌}
use native.Mathlib.Omega.{arith}
use lib.Dec.{eqb, leb}
use lib.ListN.{length}
use Rattle.block.specs.declared.Cut.{Cut}
use Rattle.block.specs.declared.Refusal.{Refusal}
use Rattle.block.specs.declared.Size.{Size}
use Rattle.block.specs.declared.Checked.{Checked}
use Rattle.block.specs.declared.Checked.TheVariants.{Passes, Refuses}
use Rattle.block.specs.Answer.{given, refuses, in_order}
use Rattle.block.specs.Grey.{cut_of, no_threshold}
use Rattle.block.specs.Numbering.{sample_count}
use Rattle.block.specs.Rows.{lowest, lowest_row, search_row, out_of_limits, axis_row, count_row, threshold_row}
use Rattle.block.specs.Size.{size_of, Limits}
use Rattle.block.proofs.Order.{order_splits, order_last, first_has}
use Rattle.block.proofs.Products.{product_le}
use Rattle.block.proofs.Rows.{holds_where, holds_unless, lowest_refusal}
use Rattle.block.proofs.Searches.{search_exactly}
use Rattle.block.proofs.Sizes.{axes_within}
use Rattle.cube_rule.specs.Decider.{joined, loops_of}
use Rattle.cube_rule.proofs.Laws.{cube_laws}
use Rattle.cell.specs.Answer.{cube_verdict}
use Rattle.mesh_rule.proofs.Counts.{most_vertices, most_quads}
use Rattle.block.specs.Block.{block_rows, block_verdict}
use Rattle.mesh.specs.Answer.{vertex_count, quad_count, counts_of, buffer_rows, vertex_row, quad_row, mesh_verdict}
use Rattle.lists.specs.Rows.{length_row}
use Rattle.closed.specs.Chains.{words_needed, work_rows}

-- ---- numbers

pub lowest_number : {A : Type 0} (n : ℕ) (bad : A → Bool) (xs : List A) (x : Refusal) → lowest_row n bad xs ≡ Refuses x → x.number ≡ n
lowest_number n bad xs x e = ap (λ (r : Refusal). r.number) (lowest_refusal n bad xs x e).1

-- a row that holds where a test does not
pub unless_number : (b : Bool) (n v : ℕ) (x : Refusal) → cond b Passes (refuses n v) ≡ Refuses x → x.number ≡ n
unless_number b n v x e = ap (λ (r : Refusal). r.number) (holds_unless b n v x e)

-- a row that searches
pub search_number : (number : ℕ) (good : ℕ → Bool) (n : ℕ) (x : Refusal) → search_row number good n ≡ Refuses x → x.number ≡ number
search_number number good n x e = ap (λ (r : Refusal). r.number) ((search_exactly number good n x).0 e).2

pub axis_number_lem : (nx ny nz : ℕ) (x : Refusal) → axis_row nx ny nz ≡ Refuses x → x.number ≡ 1
axis_number_lem nx ny nz = lowest_number 1 out_of_limits (nx ∷ ny ∷ nz ∷ [])

pub count_number : (n : Size) (c : ℕ) (x : Refusal) → count_row n c ≡ Refuses x → x.number ≡ 2
count_number n c = unless_number (eqb c (sample_count n)) 2 (sample_count n)

pub threshold_number : (cut : Cut) (x : Refusal) → threshold_row cut ≡ Refuses x → x.number ≡ 3
threshold_number cut x e = ap (λ (r : Refusal). r.number) (holds_where (no_threshold cut) 3 cut.t x e)

pub vertex_number_lem : (v words offsets : ℕ) (x : Refusal) → vertex_row v words offsets ≡ Refuses x → x.number ≡ 5
vertex_number_lem v words offsets = unless_number (leb (2 * v) words && leb (3 * v) offsets) 5 v

pub quad_number : (q room : ℕ) (x : Refusal) → quad_row q room ≡ Refuses x → x.number ≡ 6
quad_number q room = unless_number (leb (4 * q) room) 6 q

pub size_numbers : (nx ny nz : ℕ) (x : Refusal) → in_order (axis_row nx ny nz ∷ []) ≡ Refuses x → x.number ≡ 1
size_numbers nx ny nz = first_has (λ (x : Refusal). x.number ≡ 1) _ (axis_number_lem nx ny nz, tt)

pub cube_numbers : (cut : Cut) (x : Refusal) → cube_verdict cut ≡ Refuses x → x.number ≡ 3
cube_numbers cut = first_has (λ (x : Refusal). x.number ≡ 3) _ (threshold_number cut, tt)

pub edge_numbers : (t : ℕ) (x : Refusal) → in_order (threshold_row (cut_of t 0) ∷ []) ≡ Refuses x → x.number ≡ 3
edge_numbers t = cube_numbers (cut_of t 0)

-- a number between two others
from_to : (a b : ℕ) {n : ℕ} → (x : Refusal) → x.number ≡ n → a ≤ n → n ≤ b → (a ≤ x.number) × (x.number ≤ b)
from_to a b x e l h = (omega (arith, e, l), omega (arith, e, h))

pub counts_numbers : (nx ny nz : ℕ) (s : List ℕ) (cut : Cut) (x : Refusal) → block_verdict nx ny nz s cut ≡ Refuses x → (1 ≤ x.number) × (x.number ≤ 3)
counts_numbers nx ny nz s cut =
    first_has (λ (x : Refusal). (1 ≤ x.number) × (x.number ≤ 3)) _ (
      λ x e. from_to 1 3 x (axis_number_lem nx ny nz x e) (omega arith) (omega arith),
      (
        λ x e. from_to 1 3 x (count_number (size_of nx ny nz) (length s) x e) (omega arith) (omega arith),
        (λ x e. from_to 1 3 x (threshold_number cut x e) (omega arith) (omega arith), tt),
      ),
    )

pub mesh_numbers : (nx ny nz : ℕ) (s : List ℕ) (cut : Cut) (words offsets room : ℕ) (x : Refusal) → mesh_verdict nx ny nz s cut words offsets room ≡ Refuses x
    → ((1 ≤ x.number) × (x.number ≤ 3)) ⊎ ((5 ≤ x.number) × (x.number ≤ 6))
mesh_numbers nx ny nz s cut words offsets room =
    first_has (λ (x : Refusal). ((1 ≤ x.number) × (x.number ≤ 3)) ⊎ ((5 ≤ x.number) × (x.number ≤ 6))) _ (
      λ x e. inl (from_to 1 3 x (axis_number_lem nx ny nz x e) (omega arith) (omega arith)),
      (
        λ x e. inl (from_to 1 3 x (count_number (size_of nx ny nz) (length s) x e) (omega arith) (omega arith)),
        (
          λ x e. inl (from_to 1 3 x (threshold_number cut x e) (omega arith) (omega arith)),
          (
            λ x e. inr (from_to 5 6 x (vertex_number_lem (vertex_count (size_of nx ny nz) s cut) words offsets x e) (omega arith) (omega arith)),
            (λ x e. inr (from_to 5 6 x (quad_number (quad_count (size_of nx ny nz) s cut) room x e) (omega arith) (omega arith)), tt),
          ),
        ),
      ),
    )

pub length_number : (quads : List ℕ) (x : Refusal) → length_row quads ≡ Refuses x → x.number ≡ 7
length_number quads = unless_number (eqb (length quads % 4) 0) 7 (length quads % 4)

pub closed_numbers : (quads : List ℕ) (x : Refusal) → in_order (length_row quads ∷ []) ≡ Refuses x → x.number ≡ 7
closed_numbers quads = first_has (λ (x : Refusal). x.number ≡ 7) _ (length_number quads, tt)

pub closed_with_numbers : (quads : List ℕ) (room : ℕ) (x : Refusal) → in_order (work_rows quads room) ≡ Refuses x → (x.number ≡ 7) ⊎ (x.number ≡ 15)
closed_with_numbers quads room =
    first_has (λ (x : Refusal). (x.number ≡ 7) ⊎ (x.number ≡ 15)) _ (
      λ x e. inl (length_number quads x e),
      (λ x e. inr (unless_number (leb (words_needed quads) room) 15 (words_needed quads) x e), tt),
    )

-- ---- values

-- a value that is given is never more than it is
given_le : (x : Refusal) {n : ℕ} (v : ℕ) → x ≡ record { number = n; value = given v } → x.value ≤ v
given_le x v e = omega (arith, ap (λ (r : Refusal). r.value) e)

-- Every value that counting and meshing give is at most 66,325,500, so none of them is ever cut to 4,294,967,295. The rows of a block whose size is made:
module _ (nx ny nz : ℕ) (s : List ℕ) (cut : Cut) (x : Refusal) (grey : cut.t < 65536) (axes : axis_row nx ny nz ≡ Passes) where
  abbrev n : Size
  n = size_of nx ny nz

  limits : Limits (size_of nx ny nz)
  limits = axes_within nx ny nz axes

  samples : nx * (ny * nz) ≤ 16777216
  samples = product_le nx ny nz 256 256 256 limits.x_high limits.y_high limits.z_high

  -- whatever is tried behind them
  block_uncut : (ks : List Checked) → (in_order ks ≡ Refuses x → x.value ≤ 66325500) → in_order (block_rows n s cut ++ ks) ≡ Refuses x → x.value ≤ 66325500
  block_uncut ks rest e =
      ⊎_elim (λ h. omega (arith, samples, given_le x (sample_count n) (holds_unless (eqb (length s) (sample_count n)) 2 (sample_count n) x h)))
      (λ h₁.
      ⊎_elim (λ h. omega (arith, grey, given_le x cut.t (holds_where (no_threshold cut) 3 cut.t x h)))
      (λ h₂. rest h₂.1)
      (order_splits (threshold_row cut) _ x h₁.1))
      (order_splits (count_row n (length s)) _ x e)

  buffers_uncut : (words offsets room : ℕ) → in_order (buffer_rows (counts_of n s cut) words offsets room) ≡ Refuses x → x.value ≤ 66325500
  buffers_uncut words offsets room e =
      ⊎_elim (λ h. omega (arith, most_vertices loops_of n s cut (cube_laws joined) limits, given_le x (vertex_count n s cut) (holds_unless (leb (2 * vertex_count n s cut) words && leb (3 * vertex_count n s cut) offsets) 5 (vertex_count n s cut) x h)))
      (λ h. omega (arith, most_quads loops_of n s cut limits, given_le x (quad_count n s cut) (holds_unless (leb (4 * quad_count n s cut) room) 6 (quad_count n s cut) x (sym (order_last (quad_row (quad_count n s cut) room)) ∙ h.1))))
      (order_splits (vertex_row (vertex_count n s cut) words offsets) _ x e)

-- the value of row 1 is an axis
axis_uncut : (nx ny nz : ℕ) (x : Refusal) → axis_row nx ny nz ≡ Refuses x → x.value ≤ 66325500
axis_uncut nx ny nz x e =
    let h = lowest_refusal 1 out_of_limits (nx ∷ ny ∷ nz ∷ []) x e in
    omega (arith, h.0, given_le x (lowest out_of_limits (nx ∷ ny ∷ nz ∷ [])) h.1)

pub counts_uncut : (nx ny nz : ℕ) (s : List ℕ) (cut : Cut) (x : Refusal) → cut.t < 65536 → block_verdict nx ny nz s cut ≡ Refuses x → x.value ≤ 66325500
counts_uncut nx ny nz s cut x grey e =
    ⊎_elim (axis_uncut nx ny nz x) (λ h. block_uncut nx ny nz s cut x grey h.0 [] none h.1)
    (order_splits (axis_row nx ny nz) _ x e)
  where
    none : in_order [] ≡ Refuses x → x.value ≤ 66325500
    none f = first_has (λ (r : Refusal). r.value ≤ 66325500) [] tt x f

pub mesh_uncut : (nx ny nz : ℕ) (s : List ℕ) (cut : Cut) (words offsets room : ℕ) (x : Refusal) → cut.t < 65536 → mesh_verdict nx ny nz s cut words offsets room ≡ Refuses x
    → x.value ≤ 66325500
mesh_uncut nx ny nz s cut words offsets room x grey e =
    ⊎_elim (axis_uncut nx ny nz x)
    (λ h. block_uncut nx ny nz s cut x grey h.0 (buffer_rows (counts_of (size_of nx ny nz) s cut) words offsets room) (buffers_uncut nx ny nz s cut x grey h.0 words offsets room) h.1)
    (order_splits (axis_row nx ny nz) _ x e)
