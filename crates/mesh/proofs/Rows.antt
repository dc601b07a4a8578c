-- Row by row: the cubes and samples before a row, the quads from a row, and room for what a row has.
-- Assumes nothing.
use Prim.Native.Nat.{ℕ, zero, suc, ◌+◌, ◌*◌, ◌-◌, ◌≤◌, ◌<◌}
use mathlib.Core.Path.{◌≡◌, refl, ap, sym, ◌∙◌}
use mathlib.Core.Logic.{⊎_elim}
use mathlib.Core.Bool.{false}
use mathlib.Core.List.{List, [], ◌++◌, append-nil}
use native.Mathlib.Nat.{eq-or-lt_of_le, mul-le-mul_left}
use native.Mathlib.Omega.{arith}
use lib.ListN.{length, length-append}
use Rattle.laws.specs.Below.{below}
use Rattle.laws.proofs.Below.{below_add, below_same, length-below}
use Rattle.laws.proofs.Index.{index_x, index_y, index_z, pair_lt}
use Rattle.block.specs.declared.Cut.{Cut}
use Rattle.block.specs.declared.Size.{Size}
use Rattle.block.specs.Numbering.{Axis, sample_count, cube_count}
use Rattle.cube_rule.specs.Decider.{loops_of}
use Rattle.mesh_rule.specs.Layers.{row_cube, row_sample, run_masks, quads_from}
use Rattle.mesh_rule.specs.Mesh.{vertices_before, vertices}
use Rattle.signs.proofs.Rows.{row_room}
use Rattle.quads.specs.Edges.{crossed_on}
use Rattle.quads.specs.Writing.{edge_quads, row_quads}
use Rattle.quads.proofs.Crossed.{crossed_last}
use Rattle.quads.proofs.Numbers.{number_run}
use Rattle.quads.proofs.Round.{quads_none}
use Rattle.mesh.specs.Answer.{vertex_count}
use Rattle.mesh.specs.Steps.{quads_up_to}

-- no list, however many of them
pub below_empty : {A : Type 0} (g : ℕ → List A) (n : ℕ) → ((x : ℕ) → x < n → g x ≡ []) → below g n ≡ []
unfolding below
below_empty g zero h = refl
below_empty g (suc n) h = rw (below_empty g n (λ x l. h x (omega arith)), h n (omega arith))

-- fewer lists are no longer
pub below_le : {A : Type 0} (f : ℕ → List A) (m n : ℕ) → m ≤ n → length (below f m) ≤ length (below f n)
below_le f m n h = ⊎_elim (λ (e : m ≡ n). rw e (omega arith)) (λ (l : m < n). omega (arith, length-below f n m l)) (eq-or-lt_of_le h)

-- ---- numbers

pub next_cube : (nx ny j k : ℕ) → row_cube nx ny (j + 1) k ≡ row_cube nx ny j k + (nx - 1)
next_cube nx ny j k = step (nx - 1) (ny - 1)
  where
    step : (w h : ℕ) → w * (j + 1 + h * k) ≡ w * (j + h * k) + w
    step w h = omega arith

pub next_sample : (nx ny j k : ℕ) → row_sample nx ny (j + 1) k ≡ row_sample nx ny j k + nx
next_sample nx ny j k = omega arith

-- the last row of cubes is behind, and the last row of samples
pub next_layer_cube : (nx ny j k : ℕ) → j + 1 ≡ ny → row_cube nx ny j k ≡ row_cube nx ny 0 (k + 1)
next_layer_cube nx ny j k e = ap (λ (x : ℕ). (nx - 1) * x) (last (ny - 1) (omega arith))
  where
    last : (h : ℕ) → j ≡ h → j + h * k ≡ 0 + h * (k + 1)
    last h q = omega arith

pub next_layer_sample : (nx ny j k : ℕ) → j + 1 ≡ ny → row_sample nx ny (j + 1) k ≡ row_sample nx ny 0 (k + 1)
next_layer_sample nx ny j k e = ap (λ (x : ℕ). nx * x) (last e)
  where
    last : j + 1 ≡ ny → j + 1 + ny * k ≡ 0 + ny * (k + 1)
    last q = omega arith

-- a row of the block
pub cube_in_lem : (nx ny nz j k : ℕ) → j + 1 < ny → k + 1 < nz → row_cube nx ny (j + 1) k ≤ (nx - 1) * ((ny - 1) * (nz - 1))
cube_in_lem nx ny nz j k hj hk = mul-le-mul_left (nx - 1) (inside (ny - 1) (nz - 1) (omega arith) (omega arith))
  where
    inside : (h d : ℕ) → j < h → k < d → j + 1 + h * k ≤ h * d
    inside h d a b = omega (arith, pair_lt h d j k a b)

-- ---- the quads from a row

module _ (n : Size) (s : List ℕ) (cut : Cut) (a : Axis) where
  pub row_next : (j k : ℕ) → j < n.ny → quads_up_to loops_of n s cut a (row_sample n.nx n.ny (j + 1) k) ≡ quads_up_to loops_of n s cut a (row_sample n.nx n.ny j k) ++ row_quads loops_of n s cut a k j
  row_next j k hj =
      ap (quads_up_to loops_of n s cut a) (next_sample n.nx n.ny j k)
      ∙ below_add (quads_from loops_of n s cut a) (row_sample n.nx n.ny j k) n.nx
      ∙ ap (λ (l : List ℕ). quads_up_to loops_of n s cut a (row_sample n.nx n.ny j k) ++ l) (below_same _ (edge_quads loops_of n s cut a j k) n.nx (λ x hx. at x hx))
    where
      place : (w h x : ℕ) → w * (j + h * k) + x ≡ x + w * (j + h * k)
      place w h x = omega arith

      at : (x : ℕ) → x < n.nx → quads_from loops_of n s cut a (row_sample n.nx n.ny j k + x) ≡ edge_quads loops_of n s cut a j k x
      at x hx =
          ap (quads_from loops_of n s cut a) (place n.nx n.ny x)
          ∙ rw (index_x n.nx n.ny x j k hx hj, index_y n.nx n.ny x j k hx hj, index_z n.nx n.ny x j k hx hj)

  -- a row without a crossed inner edge
  pub row_empty : (j k : ℕ) → ((x : ℕ) → crossed_on n s cut a j k x ≡ false) → row_quads loops_of n s cut a k j ≡ []
  row_empty j k h = below_empty _ n.nx (λ x l. quads_none loops_of n s cut a x j k (h x))

  -- the last row of a plane has none
  pub row_last : (j k : ℕ) → j + 1 ≡ n.ny → quads_up_to loops_of n s cut a (row_sample n.nx n.ny 0 (k + 1)) ≡ quads_up_to loops_of n s cut a (row_sample n.nx n.ny j k)
  row_last j k e =
      ap (quads_up_to loops_of n s cut a) (sym (next_layer_sample n.nx n.ny j k e))
      ∙ row_next j k (omega arith)
      ∙ ap (λ (l : List ℕ). quads_up_to loops_of n s cut a (row_sample n.nx n.ny j k) ++ l) (row_empty j k (λ x. crossed_last n s cut a x j k (omega arith)))
      ∙ append-nil (quads_up_to loops_of n s cut a (row_sample n.nx n.ny j k))

  -- room for them
  pub quads_room : (j k : ℕ) → j < n.ny → k < n.nz
      → length (quads_up_to loops_of n s cut a (row_sample n.nx n.ny j k)) + length (row_quads loops_of n s cut a k j) ≤ length (quads_up_to loops_of n s cut a (sample_count n))
  quads_room j k hj hk =
      omega (
        arith,
        ap length (row_next j k hj),
        length-append (quads_up_to loops_of n s cut a (row_sample n.nx n.ny j k)) (row_quads loops_of n s cut a k j),
        below_le (quads_from loops_of n s cut a) (row_sample n.nx n.ny (j + 1) k) (sample_count n) (omega (arith, next_sample n.nx n.ny j k, row_room n.nx n.ny n.nz j k hj hk)),
      )

-- ---- the vertices of a row

module _ (n : Size) (s : List ℕ) (cut : Cut) where
  pub row_vertices : (j k : ℕ)
      → length (vertices_before loops_of n s cut (row_cube n.nx n.ny (j + 1) k)) ≡ length (vertices_before loops_of n s cut (row_cube n.nx n.ny j k)) + length (run_masks loops_of n s cut (row_cube n.nx n.ny j k) (n.nx - 1))
  row_vertices j k = ap (λ (c : ℕ). length (vertices_before loops_of n s cut c)) (next_cube n.nx n.ny j k) ∙ number_run loops_of n s cut (row_cube n.nx n.ny j k) (n.nx - 1)

  pub vertices_le : (c : ℕ) → c ≤ cube_count n → length (vertices_before loops_of n s cut c) ≤ vertex_count n s cut
  unfolding vertices vertices_before
  vertices_le c h = below_le _ c (cube_count n) h

  pub vertices_room : (j k : ℕ) → j + 1 < n.ny → k + 1 < n.nz
      → length (vertices_before loops_of n s cut (row_cube n.nx n.ny j k)) + length (run_masks loops_of n s cut (row_cube n.nx n.ny j k) (n.nx - 1)) ≤ vertex_count n s cut
  vertices_room j k hj hk = omega (arith, row_vertices j k, vertices_le (row_cube n.nx n.ny (j + 1) k) (cube_in_lem n.nx n.ny n.nz j k hj hk))
