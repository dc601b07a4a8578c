-- The quads of some planes, plane by plane and in a plane axis by axis, put back into 01's order: each tells its axis, so those along an axis are the quads of
-- all these planes along it.
-- Assumes nothing.
use Prim.Native.Nat.{ℕ, zero, suc, ◌+◌, ◌*◌, ◌/◌, ◌%◌}
use mathlib.Core.Path.{◌≡◌, refl, ap, sym, ◌∙◌}
use mathlib.Core.Bool.{Bool, true, false, cond, ◌&&◌}
use mathlib.Core.List.{List, [], ◌∷◌, ◌++◌, append-nil}
use Rattle.laws.specs.Below.{below}
use Rattle.laws.proofs.Below.{below_mul, below_same}
use Rattle.laws.proofs.Tests.{and_both}
use Rattle.block.specs.declared.Cut.{Cut}
use Rattle.block.specs.declared.Size.{Size}
use Rattle.block.specs.Numbering.{Axis, X, Y, Z, at_sample}
use Rattle.cube_rule.specs.Laws.{CubeLaws}
use Rattle.cube_rule.specs.Links.{Decider}
use Rattle.mesh_rule.specs.Grid.{metal, inner, crossed_from}
use Rattle.mesh_rule.specs.Mesh.{Quad, flat, turned, around, quad_at, quads_before}
use Rattle.mesh_rule.specs.Layers.{plane_size}
use Rattle.mesh_rule.specs.Reading.{same_axis, in_fours, axis_for, telling, put_back}
use Rattle.mesh_rule.proofs.Inner.{inner_facts}
use Rattle.mesh_rule.proofs.Reading.{Told, cubes, read_quad}

-- what a buffer holds of quads is these quads
pub fours_flat : (qs : List Quad) → in_fours (flat qs) ≡ qs
fours_flat [] = refl
fours_flat (q ∷ qs) = ap (λ (l : List Quad). q ∷ l) (fours_flat qs)

-- ---- lists one behind the other

module _ (n : Size) (cube : ℕ → ℕ) (a : Axis) where
  telling_append : (p q : List Quad) → telling n cube a (p ++ q) ≡ telling n cube a p ++ telling n cube a q
  unfolding telling
  telling_append [] q = refl
  telling_append (x ∷ p) q = go (same_axis a (axis_for n cube x)) (telling_append p q)
    where
      go : (b : Bool) → telling n cube a (p ++ q) ≡ telling n cube a p ++ telling n cube a q
          → cond b (x ∷ telling n cube a (p ++ q)) (telling n cube a (p ++ q)) ≡ cond b (x ∷ telling n cube a p) (telling n cube a p) ++ telling n cube a q
      go true e = ap (λ (l : List Quad). x ∷ l) e
      go false e = e

  telling_below : (f : ℕ → List Quad) (m : ℕ) → telling n cube a (below f m) ≡ below (λ (k : ℕ). telling n cube a (f k)) m
  unfolding below telling
  telling_below f zero = refl
  telling_below f (suc m) = telling_append (below f m) (f m) ∙ ap (λ (l : List Quad). l ++ telling n cube a (f m)) (telling_below f m)

-- lists that are all kept, or all dropped
keep_below : (b : Bool) (f : ℕ → List Quad) (m : ℕ) → below (λ (k : ℕ). cond b (f k) []) m ≡ cond b (below f m) []
unfolding below
keep_below true f m = refl
keep_below false f zero = refl
keep_below false f (suc m) = ap (λ (l : List Quad). l ++ []) (keep_below false f m)

-- three lists one behind the other
pub three_same : {A : Type 0} {x x' y y' z z' : List A} → x ≡ x' → y ≡ y' → z ≡ z' → x ++ y ++ z ≡ x' ++ y' ++ z'
three_same p q r = cc

-- ---- the quads of the mesh

module _ {D : Decider} {loops_of : Cut → List ℕ → List ℕ} (laws : CubeLaws D loops_of) (n : Size) (s : List ℕ) (cut : Cut) where
  abbrev told : Axis → List Quad → List Quad
  told = telling n (cubes loops_of n s cut)

  -- a quad tells its axis
  quad_tells : (a b : Axis) (i j k : ℕ) → told a (quad_at loops_of n s cut b i j k) ≡ cond (same_axis a b) (quad_at loops_of n s cut b i j k) []
  unfolding quad_at telling
  quad_tells a b i j k = go (inner n b i j k && crossed_from n s cut b i j k) refl
    where
      q : Quad
      q = turned (metal n s cut i j k) (around loops_of n s cut b i j k)

      none : (t : Bool) → ◌≡◌ {A = List Quad} [] (cond t [] [])
      none true = refl
      none false = refl

      go : (t : Bool) → (inner n b i j k && crossed_from n s cut b i j k) ≡ t → told a (cond t (q ∷ []) []) ≡ cond (same_axis a b) (cond t (q ∷ []) []) []
      go true e =
          let f = and_both (inner n b i j k) (crossed_from n s cut b i j k) e in
          let is : axis_for n (cubes loops_of n s cut) q ≡ b = ap (λ (x : Told). x.axis) (read_quad loops_of n s cut laws b i j k (metal n s cut i j k) (inner_facts n b i j k f.0) f.1) in
          ap (λ (x : Axis). cond (same_axis a x) (q ∷ []) []) is
      go false e = none (same_axis a b)

  -- the quads from plane k along an axis
  abbrev pub plane_list : Axis → ℕ → List Quad
  plane_list a k = below (λ (x : ℕ). at_sample n (quad_at loops_of n s cut a) (plane_size n * k + x)) (plane_size n)

  plane_tells : (a b : Axis) (k : ℕ) → told a (plane_list b k) ≡ cond (same_axis a b) (plane_list b k) []
  plane_tells a b k =
      telling_below n (cubes loops_of n s cut) a (λ (x : ℕ). at_sample n (quad_at loops_of n s cut b) (plane_size n * k + x)) (plane_size n)
      ∙ below_same _ (λ (x : ℕ). cond (same_axis a b) (at_sample n (quad_at loops_of n s cut b) (plane_size n * k + x)) []) (plane_size n)
      (λ x l. let p = plane_size n * k + x in quad_tells a b (p % n.nx) (p / n.nx % n.ny) (p / n.nx / n.ny))
      ∙ keep_below (same_axis a b) (λ (x : ℕ). at_sample n (quad_at loops_of n s cut b) (plane_size n * k + x)) (plane_size n)

  -- those of all three, in the order of a call
  abbrev pub call_list : ℕ → List Quad
  call_list k = plane_list X k ++ plane_list Y k ++ plane_list Z k

  call_tells : (a : Axis) (k : ℕ) → told a (call_list k) ≡ plane_list a k
  call_tells a k =
      telling_append n (cubes loops_of n s cut) a (plane_list X k ++ plane_list Y k) (plane_list Z k)
      ∙ ap (λ (l : List Quad). l ++ told a (plane_list Z k)) (telling_append n (cubes loops_of n s cut) a (plane_list X k) (plane_list Y k))
      ∙ three_same (plane_tells a X k) (plane_tells a Y k) (plane_tells a Z k)
      ∙ one a
    where
      one : (a : Axis) → cond (same_axis a X) (plane_list X k) [] ++ cond (same_axis a Y) (plane_list Y k) [] ++ cond (same_axis a Z) (plane_list Z k) [] ≡ plane_list a k
      one X = append-nil (plane_list X k ++ []) ∙ append-nil (plane_list X k)
      one Y = append-nil (plane_list Y k)
      one Z = refl

  calls_tell : (a : Axis) (m : ℕ) → told a (below call_list m) ≡ quads_before loops_of n s cut a (plane_size n * m)
  unfolding quads_before
  calls_tell a m =
      telling_below n (cubes loops_of n s cut) a call_list m
      ∙ below_same _ (plane_list a) m (λ k l. call_tells a k)
      ∙ sym (below_mul (at_sample n (quad_at loops_of n s cut a)) (plane_size n) m)

  -- all of them
  pub calls_back : (m : ℕ) → put_back n (cubes loops_of n s cut) (below call_list m) ≡ quads_before loops_of n s cut X (plane_size n * m) ++ quads_before loops_of n s cut Y (plane_size n * m) ++ quads_before loops_of n s cut Z (plane_size n * m)
  unfolding put_back
  calls_back m = three_same (calls_tell X m) (calls_tell Y m) (calls_tell Z m)
