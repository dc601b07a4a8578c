-- The quad buffer's three lists, one for each axis, plane by plane.
-- Assumes nothing.
use Prim.Native.Nat.{ℕ, zero, suc, ◌+◌, ◌*◌, ◌/◌, ◌%◌, ◌<◌}
use mathlib.Core.Path.{◌≡◌, refl, ap, ap₂, sym, ◌∙◌}
use mathlib.Core.Bool.{Bool, cond, ◌&&◌}
use mathlib.Core.List.{List, [], ◌∷◌, ◌++◌, append-nil}
use native.Mathlib.Nat.{mul_assoc}
use native.Mathlib.Omega.{arith}
use Rattle.laws.specs.Below.{below}
use Rattle.block.specs.declared.Cut.{Cut}
use Rattle.block.specs.declared.Size.{Size}
use Rattle.block.specs.Numbering.{Axis, X, Y, Z, sample_count}
use Rattle.cube_rule.specs.Decider.{loops_of}
use Rattle.mesh_rule.specs.Grid.{metal, inner, crossed_from}
use Rattle.mesh_rule.specs.Mesh.{Quad, turned, flat, around, quad_at, quads_before, quads}
use Rattle.mesh_rule.specs.Buffers.{mesh_quads}
use Rattle.mesh_rule.specs.Layers.{plane_size, quads_from, plane_quads}
use Rattle.mesh.specs.Steps.{quads_up_to}
use Rattle.mesh.proofs.Layers.{layer_next}
use Rattle.mesh.proofs.Planes.{Outer, outer_inner, outer_last, plane_z}

pub flat_append : (p q : List Quad) → flat (p ++ q) ≡ flat p ++ flat q
flat_append [] q = refl
flat_append (a ∷ p) q = ap (λ (l : List ℕ). a.v0 ∷ a.v1 ∷ a.v2 ∷ a.v3 ∷ l) (flat_append p q)

pub flat_below : (f : ℕ → List Quad) (m : ℕ) → flat (below f m) ≡ below (λ (p : ℕ). flat (f p)) m
unfolding below
flat_below f zero = refl
flat_below f (suc m) = flat_append (below f m) (f m) ∙ ap (λ (l : List ℕ). l ++ flat (f m)) (flat_below f m)

below_empty : {A : Type 0} (f : ℕ → List A) (m : ℕ) → ((p : ℕ) → p < m → f p ≡ []) → below f m ≡ []
unfolding below
below_empty {A} f zero h = refl
below_empty {A} f (suc m) h = ap₂ (λ (x y : List A). x ++ y) (below_empty f m (λ p l. h p (omega arith))) (h m (omega arith))

module _ (n : Size) (s : List ℕ) (cut : Cut) where
  pub quads_flat : (a : Axis) (m : ℕ) → flat (quads_before loops_of n s cut a m) ≡ quads_up_to loops_of n s cut a m
  unfolding quads_before
  quads_flat a m = flat_below (λ (p : ℕ). quad_at loops_of n s cut a (p % n.nx) (p / n.nx % n.ny) (p / n.nx / n.ny)) m

  -- the whole buffer
  pub mesh_quads_lem : mesh_quads loops_of n s cut ≡ quads_up_to loops_of n s cut X (sample_count n) ++ quads_up_to loops_of n s cut Y (sample_count n) ++ quads_up_to loops_of n s cut Z (sample_count n)
  unfolding mesh_quads quads
  mesh_quads_lem =
      flat_append (quads_before loops_of n s cut X (sample_count n) ++ quads_before loops_of n s cut Y (sample_count n)) (quads_before loops_of n s cut Z (sample_count n))
      ∙ ap₂ (λ (x y : List ℕ). x ++ y)
      (flat_append (quads_before loops_of n s cut X (sample_count n)) (quads_before loops_of n s cut Y (sample_count n))
      ∙ ap₂ (λ (x y : List ℕ). x ++ y) (quads_flat X (sample_count n)) (quads_flat Y (sample_count n)))
      (quads_flat Z (sample_count n))

  -- an outer plane has none
  pub plane_quads_none : (a : Axis) (k : ℕ) → Outer n s cut a k → plane_quads loops_of n s cut a k ≡ []
  unfolding quad_at
  plane_quads_none a k o = below_empty (λ (x : ℕ). quads_from loops_of n s cut a (plane_size n * k + x)) (plane_size n) none
    where
      none : (p : ℕ) → p < plane_size n → quads_from loops_of n s cut a (plane_size n * k + p) ≡ []
      none p l =
          let q = plane_size n * k + p in
          ap (λ (b : Bool). flat (cond (b && crossed_from n s cut a (q % n.nx) (q / n.nx % n.ny) (q / n.nx / n.ny)) (turned (metal n s cut (q % n.nx) (q / n.nx % n.ny) (q / n.nx / n.ny)) (around loops_of n s cut a (q % n.nx) (q / n.nx % n.ny) (q / n.nx / n.ny)) ∷ []) []))
          (ap (λ (z : ℕ). inner n a (q % n.nx) (q / n.nx % n.ny) z) (plane_z n s cut k p l) ∙ outer_inner n s cut a (q % n.nx) (q / n.nx % n.ny) k o)

  pub planes_quads_next : (a : Axis) (k : ℕ) → quads_up_to loops_of n s cut a (plane_size n * (k + 1)) ≡ quads_up_to loops_of n s cut a (plane_size n * k) ++ plane_quads loops_of n s cut a k
  planes_quads_next a k = layer_next (quads_from loops_of n s cut a) (plane_size n) k

  -- those of the planes before the last are all
  pub planes_quads_all : (a : Axis) (k : ℕ) → k + 1 ≡ n.nz → quads_up_to loops_of n s cut a (plane_size n * k) ≡ quads_up_to loops_of n s cut a (sample_count n)
  planes_quads_all a k e =
      sym (append-nil (quads_up_to loops_of n s cut a (plane_size n * k)))
      ∙ ap (λ (l : List ℕ). quads_up_to loops_of n s cut a (plane_size n * k) ++ l) (sym (plane_quads_none a k (outer_last n s cut a k e)))
      ∙ sym (planes_quads_next a k)
      ∙ ap (quads_up_to loops_of n s cut a) (ap (λ (x : ℕ). plane_size n * x) e ∙ mul_assoc n.nx n.ny n.nz)
