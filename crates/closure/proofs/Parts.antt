-- All walks from u to v over the quads of a mesh, sorted by the faces that they cross.
-- Assumes nothing.
use Prim.Native.Nat.{ℕ, ◌+◌, ◌/◌, ◌%◌}
use mathlib.Core.Path.{◌≡◌, refl, ap, ◌∙◌}
use mathlib.Core.Bool.{Bool, true, false, cond, ◌&&◌}
use mathlib.Core.List.{List, [], ◌∷◌, ◌++◌}
use native.Mathlib.Omega.{arith}
use Rattle.laws.proofs.Sums.{boxed, boxed_same, boxed_four, boxed_x, boxed_y, boxed_z, total_boxed, summed, summed_append, summed_below}
use Rattle.block.specs.declared.Cut.{Cut}
use Rattle.block.specs.declared.Size.{Size}
use Rattle.block.specs.Numbering.{Axis, X, Y, Z, sample_count}
use Rattle.mesh_rule.specs.Grid.{metal, crossed_from, inner}
use Rattle.mesh_rule.specs.Mesh.{Quad, turned, around, quad_at, quads_before, quads}
use Rattle.mesh_rule.proofs.Inner.{Inner}
use Rattle.closure.proofs.Face.{hit, side, term}
use Rattle.closure.proofs.Surface.{not_inner}
use Rattle.closure.proofs.Walks.{walks_in, walks_over}

-- a quad that may be turned
turned_walks : (b : Bool) (q : Quad) (u v : ℕ) → walks_in u v (turned b q) ≡ side b q.v0 q.v1 u v + side b q.v1 q.v2 u v + side b q.v2 q.v3 u v + side b q.v3 q.v0 u v
turned_walks true q u v = refl
turned_walks false q u v = omega arith

quad_walks : (c b : Bool) (q : Quad) (u v : ℕ)
    → walks_over u v (cond c (turned b q ∷ []) []) ≡ term c b q.v0 q.v1 u v + term c b q.v1 q.v2 u v + term c b q.v2 q.v3 u v + term c b q.v3 q.v0 u v
quad_walks true b q u v = omega (arith, turned_walks b q u v)
quad_walks false b q u v = refl

none : (c b : Bool) (x y u v : ℕ) → c ≡ false → term c b x y u v ≡ 0
none c b x y u v e = rw e

-- the vertices of a quad
abbrev pub first : Quad → ℕ
first q = q.v0

abbrev pub second : Quad → ℕ
second q = q.v1

abbrev pub third : Quad → ℕ
third q = q.v2

abbrev pub fourth : Quad → ℕ
fourth q = q.v3

module _ (loops_of : Cut → List ℕ → List ℕ) (n : Size) (s : List ℕ) (cut : Cut) (u v : ℕ) where
  -- a side of the quad of an edge: that between these two of its vertices
  abbrev part : (Quad → ℕ) → (Quad → ℕ) → Axis → ℕ → ℕ → ℕ → ℕ
  part f g a i j k =
      term (inner n a i j k && crossed_from n s cut a i j k) (metal n s cut i j k) (f (around loops_of n s cut a i j k)) (g (around loops_of n s cut a i j k)) u v

  abbrev pub p0 : Axis → ℕ → ℕ → ℕ → ℕ
  p0 = part first second

  abbrev pub p1 : Axis → ℕ → ℕ → ℕ → ℕ
  p1 = part second third

  abbrev pub p2 : Axis → ℕ → ℕ → ℕ → ℕ
  p2 = part third fourth

  abbrev pub p3 : Axis → ℕ → ℕ → ℕ → ℕ
  p3 = part fourth first

  all : Axis → ℕ → ℕ → ℕ → ℕ
  all a i j k = p0 a i j k + p1 a i j k + p2 a i j k + p3 a i j k

  at_edge : (a : Axis) (i j k : ℕ) → walks_over u v (quad_at loops_of n s cut a i j k) ≡ all a i j k
  unfolding quad_at all
  at_edge a i j k = quad_walks (inner n a i j k && crossed_from n s cut a i j k) (metal n s cut i j k) (around loops_of n s cut a i j k) u v

  abbrev in_block : (ℕ → ℕ → ℕ → ℕ) → ℕ
  in_block f = boxed f n.nx n.ny n.nz

  along : (a : Axis) → walks_over u v (quads_before loops_of n s cut a (sample_count n)) ≡ in_block (p0 a) + in_block (p1 a) + in_block (p2 a) + in_block (p3 a)
  unfolding quads_before all
  along a =
      summed_below (walks_in u v) (λ (p : ℕ). quad_at loops_of n s cut a (p % n.nx) (p / n.nx % n.ny) (p / n.nx / n.ny)) (sample_count n)
      ∙ total_boxed (λ (i j k : ℕ). walks_over u v (quad_at loops_of n s cut a i j k)) n.nx n.ny n.nz
      ∙ boxed_same _ (all a) n.nx n.ny n.nz (λ i j k _ _ _. at_edge a i j k)
      ∙ boxed_four (p0 a) (p1 a) (p2 a) (p3 a) n.nx n.ny n.nz

  -- those across the face with the lower corner (i,j,k) that is square to an axis, edge by edge
  abbrev pub face_x : ℕ → ℕ → ℕ → ℕ
  face_x i j k = p1 Y i j k + p0 Z i (j + 1) k + p3 Y i j (k + 1) + p2 Z i j k

  abbrev pub face_y : ℕ → ℕ → ℕ → ℕ
  face_y i j k = p2 X i j k + p3 Z (i + 1) j k + p0 X i j (k + 1) + p1 Z i j k

  abbrev pub face_z : ℕ → ℕ → ℕ → ℕ
  face_z i j k = p1 X i j k + p0 Y (i + 1) j k + p3 X i (j + 1) k + p2 Y i j k

  -- an edge that is no inner one has no side
  out : (f g : Quad → ℕ) (a : Axis) (i j k : ℕ) → (Inner n a i j k → ⊥) → part f g a i j k ≡ 0
  out f g a i j k h = none _ (metal n s cut i j k) (f (around loops_of n s cut a i j k)) (g (around loops_of n s cut a i j k)) u v (not_inner n a i j k (crossed_from n s cut a i j k) h)

  -- so the sides of the edges at both ends of an axis are none, and the others may be counted one step further on
  ahead_x : (f g : Quad → ℕ) (a : Axis) → ((j k : ℕ) → Inner n a 0 j k → ⊥) → ((j k : ℕ) → Inner n a n.nx j k → ⊥) → in_block (part f g a) ≡ in_block (λ (i j k : ℕ). part f g a (i + 1) j k)
  ahead_x f g a p q = boxed_x (part f g a) n.nx n.ny n.nz (λ j k. out f g a 0 j k (p j k)) (λ j k. out f g a n.nx j k (q j k))

  ahead_y : (f g : Quad → ℕ) (a : Axis) → ((i k : ℕ) → Inner n a i 0 k → ⊥) → ((i k : ℕ) → Inner n a i n.ny k → ⊥) → in_block (part f g a) ≡ in_block (λ (i j k : ℕ). part f g a i (j + 1) k)
  ahead_y f g a p q = boxed_y (part f g a) n.nx n.ny n.nz (λ i k. out f g a i 0 k (p i k)) (λ i k. out f g a i n.ny k (q i k))

  ahead_z : (f g : Quad → ℕ) (a : Axis) → ((i j : ℕ) → Inner n a i j 0 → ⊥) → ((i j : ℕ) → Inner n a i j n.nz → ⊥) → in_block (part f g a) ≡ in_block (λ (i j k : ℕ). part f g a i j (k + 1))
  ahead_z f g a p q = boxed_z (part f g a) n.nx n.ny n.nz (λ i j. out f g a i j 0 (p i j)) (λ i j. out f g a i j n.nz (q i j))

  pub by_faces : walks_over u v (quads loops_of n s cut) ≡ in_block face_x + in_block face_y + in_block face_z
  unfolding quads
  by_faces =
      summed_append (walks_in u v) (quads_before loops_of n s cut X (sample_count n) ++ quads_before loops_of n s cut Y (sample_count n)) (quads_before loops_of n s cut Z (sample_count n))
      ∙ ap (λ (x : ℕ). x + walks_over u v (quads_before loops_of n s cut Z (sample_count n))) (summed_append (walks_in u v) (quads_before loops_of n s cut X (sample_count n)) (quads_before loops_of n s cut Y (sample_count n)))
      ∙ rw (along X, along Y, along Z)
      (omega (
        arith,
        ahead_z first second X (λ i j h. omega arith) (λ i j h. omega arith),
        ahead_y fourth first X (λ i k h. omega arith) (λ i k h. omega arith),
        ahead_x first second Y (λ j k h. omega arith) (λ j k h. omega arith),
        ahead_z fourth first Y (λ i j h. omega arith) (λ i j h. omega arith),
        ahead_y first second Z (λ i k h. omega arith) (λ i k h. omega arith),
        ahead_x fourth first Z (λ j k h. omega arith) (λ j k h. omega arith),
        boxed_four (p1 Y) (λ (i j k : ℕ). p0 Z i (j + 1) k) (λ (i j k : ℕ). p3 Y i j (k + 1)) (p2 Z) n.nx n.ny n.nz,
        boxed_four (p2 X) (λ (i j k : ℕ). p3 Z (i + 1) j k) (λ (i j k : ℕ). p0 X i j (k + 1)) (p1 Z) n.nx n.ny n.nz,
        boxed_four (p1 X) (λ (i j k : ℕ). p0 Y (i + 1) j k) (λ (i j k : ℕ). p3 X i (j + 1) k) (p2 Y) n.nx n.ny n.nz,
      ))
