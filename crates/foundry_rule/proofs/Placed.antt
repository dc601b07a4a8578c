-- Where a quad of ours stands: behind the quads of the edges along an earlier axis, and of those along its own whose lower samples come before. So each edge has one place.
-- Assumes nothing.
use Prim.Native.Nat.{ℕ, zero, suc, ◌+◌, ◌-◌, ◌/◌, ◌%◌, ◌≤◌, ◌<◌}
use mathlib.Core.Path.{◌≡◌, refl, ap, ◌∙◌}
use mathlib.Core.Logic.{◌⊎◌, inl, inr}
use mathlib.Core.Bool.{Bool, true, false, cond}
use mathlib.Core.List.{List, [], ◌∷◌, ◌++◌}
use native.Mathlib.Nat.{not-suc-le-zero, le_of_suc-le-suc}
use native.Mathlib.Omega.{arith}
use lib.ListN.{length, get_or, length-append, get_or-append}
use lib.Seq.{get_or-append-add}
use Rattle.laws.proofs.Below.{get_or-below, split}
use Rattle.laws.proofs.Tests.{lt_or_ge, and_both}
use Rattle.block.specs.declared.Cut.{Cut}
use Rattle.block.specs.declared.Size.{Size}
use Rattle.block.specs.Numbering.{Axis, X, Y, Z, sample_count, at_sample}
use Rattle.cube_rule.specs.Decider.{loops_of}
use Rattle.mesh_rule.specs.Buffers.{mesh_quads}
use Rattle.mesh_rule.specs.Grid.{inner, crossed_from, crossed_inner}
use Rattle.mesh_rule.specs.Mesh.{Quad, quad, flat, quad_at, quads_before, quads}
use Rattle.mesh_rule.proofs.Quads.{quad_of, FromEdge}
use Rattle.foundry_rule.specs.Judged.{quad_total, named_quad, as_sent}
use Rattle.foundry_rule.proofs.Ours.{flat_next, our_total}

-- ---- places in lists

-- a list of one where the test passes, else of none
one_at : {A : Type 0} (b : Bool) (x d : A) (r : ℕ) → r < length (cond b (x ∷ []) []) → (r ≡ 0) × (b ≡ true) × (get_or (cond b (x ∷ []) []) r d ≡ x)
one_at true x d zero h = (refl, refl, refl)
one_at true x d (suc r) h = absurd (not-suc-le-zero (le_of_suc-le-suc h))
one_at false x d r h = absurd (not-suc-le-zero h)

-- q is what stands at the place p of two lists one behind the other, in the first or in the second
abbrev InParts : List Quad → List Quad → Quad → ℕ → Quad → Type 0
InParts xs ys d p q = ((p < length xs) × (q ≡ get_or xs p d)) ⊎ ((r : ℕ) × (r < length ys) × (p ≡ length xs + r) × (q ≡ get_or ys r d))

in_parts : (xs ys : List Quad) (d : Quad) (p : ℕ) → p < length (xs ++ ys) → InParts xs ys d p (get_or (xs ++ ys) p d)
in_parts xs ys d p h = go (lt_or_ge p (length xs))
  where
    go : (p < length xs) ⊎ (length xs ≤ p) → InParts xs ys d p (get_or (xs ++ ys) p d)
    go (inl l) = inl (l, get_or-append xs ys d p l)
    go (inr g) =
        let e : p ≡ length xs + (p - length xs) = omega arith in
        inr (p - length xs, omega (arith, length-append xs ys), e, ap (λ (x : ℕ). get_or (xs ++ ys) x d) e ∙ get_or-append-add xs ys (p - length xs) d)

-- the quad p by the four numbers that the buffer holds of it
flat_at : (qs : List Quad) (d : Quad) (p : ℕ) → p < length qs → named_quad as_sent (flat qs) p ≡ get_or qs p d
flat_at [] d p h = absurd (not-suc-le-zero h)
flat_at (q ∷ qs) d zero h = refl
flat_at (q ∷ qs) d (suc p) h = flat_next q qs p ∙ flat_at qs d p (le_of_suc-le-suc h)

module _ (n : Size) (s : List ℕ) (cut : Cut) where
  abbrev along : Axis → List Quad
  along a = quads_before loops_of n s cut a (sample_count n)

  -- how many quads stand before those along an axis
  abbrev pub start : Axis → ℕ
  start X = 0
  start Y = length (along X)
  start Z = length (along X ++ along Y)

  -- q, at the place p of our quads, is that of the edge along the axis from the sample
  pub record Placed (q : Quad) (p : ℕ) : Type 0 where
    pub axis : Axis
    pub sample : ℕ
    pub sample_lt : sample < sample_count n
    pub is_crossed : crossed_inner n s cut axis sample ≡ true
    pub number : p ≡ start axis + length (quads_before loops_of n s cut axis sample)
    pub is : q ≡ at_sample n (quad_of loops_of n s cut axis) sample

  along_placed : (a : Axis) (d : Quad) (r : ℕ) → r < length (along a) → Placed (get_or (along a) r d) (start a + r)
  unfolding quads_before quad_at
  along_placed a d r h =
      let t = split (at_sample n (quad_at loops_of n s cut a)) (sample_count n) r h in
      let o = one_at (crossed_inner n s cut a t.0) (at_sample n (quad_of loops_of n s cut a) t.0) d t.1 t.3 in
      record {
        axis = a;
        sample = t.0;
        sample_lt = t.2;
        is_crossed = o.1;
        number = omega (arith, t.4, o.0);
        is = ap (λ (x : ℕ). get_or (along a) x d) t.4 ∙ get_or-below (at_sample n (quad_at loops_of n s cut a)) d (sample_count n) t.0 t.1 t.2 t.3 ∙ o.2;
      }

  moved : {q q' : Quad} {p p' : ℕ} → Placed q p → q' ≡ q → p' ≡ p → Placed q' p'
  moved a e f = record { axis = a.axis; sample = a.sample; sample_lt = a.sample_lt; is_crossed = a.is_crossed; number = f ∙ a.number; is = e ∙ a.is }

  list_placed : (d : Quad) (p : ℕ) → p < length (quads loops_of n s cut) → Placed (get_or (quads loops_of n s cut) p d) p
  unfolding quads
  list_placed d p h = last (in_parts (along X ++ along Y) (along Z) d p h)
    where
      front : {q : Quad} → InParts (along X) (along Y) d p q → Placed q p
      front (inl t) = moved (along_placed X d p t.0) t.1 (omega arith)
      front (inr t) = moved (along_placed Y d t.0 t.1) t.3 t.2

      last : {q : Quad} → InParts (along X ++ along Y) (along Z) d p q → Placed q p
      last (inl t) = moved (front (in_parts (along X) (along Y) d p t.0)) t.1 refl
      last (inr t) = moved (along_placed Z d t.0 t.1) t.3 t.2

  -- each quad of ours has its edge, and stands where that edge says
  pub placed : (p : ℕ) → p < quad_total (mesh_quads loops_of n s cut) → Placed (named_quad as_sent (mesh_quads loops_of n s cut) p) p
  unfolding mesh_quads
  placed p h =
      let l : p < length (quads loops_of n s cut) = omega (arith, our_total n s cut) in
      moved (list_placed (quad 0 0 0 0) p l) (flat_at (quads loops_of n s cut) (quad 0 0 0 0) p l) refl

  abbrev pub placed_from : {q : Quad} {p : ℕ} → Placed q p → FromEdge loops_of n s cut q
  placed_from a =
      let m = a.sample in
      let b = and_both (at_sample n (inner n a.axis) m) (at_sample n (crossed_from n s cut a.axis) m) a.is_crossed in
      record { axis = a.axis; i = m % n.nx; j = m / n.nx % n.ny; k = m / n.nx / n.ny; is_inner = b.0; is_crossed = b.1; is = a.is }
