-- Either a face of the box cuts the surface off, or each crossed edge is an inner one. The second is so where the faces of the box are of one sign.
-- Assumes nothing.
use Prim.Native.Nat.{ℕ, ◌+◌, ◌/◌, ◌%◌, ◌≤◌, ◌<◌}
use mathlib.Core.Path.{◌≡◌, refl, ap₂, sym, ◌∙◌}
use mathlib.Core.Bool.{Bool, true, false, not, ◌&&◌, ◌||◌, false≢true, true≢false}
use mathlib.Core.Logic.{◌⊎◌, inl, inr}
use mathlib.Core.List.{List}
use native.Mathlib.Omega.{arith}
use lib.Dec.{ltb}
use borrow.Author.Tests.{eq-eqb, ne_eqb, lt-ltb, le-ltb, not-true}
use Rattle.block.specs.declared.Cut.{Cut}
use Rattle.block.specs.declared.Size.{Size}
use Rattle.block.specs.Numbering.{Axis, X, Y, Z, sample_index, sample_count, at_sample}
use Rattle.mesh_rule.specs.Grid.{EdgeIn, metal, crossed_from, stays, inner, between, at_end}
use Rattle.laws.proofs.Index.{index_lt, index_x, index_y, index_z, index_box}
use Rattle.laws.proofs.Tests.{lt_or_ge, and_both, some_or_none}
use Rattle.mesh_rule.proofs.Inner.{Inner, inner_facts, stays_in, in_stays}
use Rattle.closure.specs.Faces.{on_box_face, FacesAre, CutOff}
use Rattle.cube_rule.proofs.Laws.{differ_self}

-- no edge of the block that lies on a face of the box is crossed
abbrev pub Uncut : Size → List ℕ → Cut → Type 0
Uncut n s cut = (a : Axis) (i j k : ℕ) → EdgeIn n a i j k → inner n a i j k ≡ false → crossed_from n s cut a i j k ≡ false

-- a coordinate is at an end or between
at_out : (n c : ℕ) → c < n → at_end n c ≡ not (between n c)
at_out n c h = go (lt_or_ge 0 c) (lt_or_ge (c + 1) n)
  where
    go : (0 < c) ⊎ (c ≤ 0) → (c + 1 < n) ⊎ (n ≤ c + 1) → at_end n c ≡ not (between n c)
    go (inl a) (inl b) = simp (ne_eqb c 0 (omega arith), ne_eqb (c + 1) n (omega arith), lt-ltb 0 c a, lt-ltb (c + 1) n b)
    go (inl a) (inr b) = simp (ne_eqb c 0 (omega arith), eq-eqb (c + 1) n (omega arith), lt-ltb 0 c a, le-ltb (c + 1) n b)
    go (inr a) b = simp (eq-eqb c 0 (omega arith), le-ltb 0 c a)

yz : (p q r x : Bool) → p ≡ true → (p && q && r) ≡ false → (x || not q || not r) ≡ true
yz true true true x e h = absurd (true≢false h)
yz true true false true e h = refl
yz true true false false e h = refl
yz true false r true e h = refl
yz true false r false e h = refl
yz false q r x e h = absurd (false≢true e)

xz : (p q r x : Bool) → q ≡ true → (p && q && r) ≡ false → (not p || x || not r) ≡ true
xz true true true x e h = absurd (true≢false h)
xz true true false true e h = refl
xz true true false false e h = refl
xz false true r x e h = refl
xz p false r x e h = absurd (false≢true e)

xy : (p q r x : Bool) → r ≡ true → (p && q && r) ≡ false → (not p || not q || x) ≡ true
xy true true true x e h = absurd (true≢false h)
xy true false true x e h = refl
xy false q true x e h = refl
xy p q false x e h = absurd (false≢true e)

-- ---- faces of one sign

module _ (n : Size) (s : List ℕ) (cut : Cut) (sign : Bool) (faces : FacesAre sign n s cut) where
  -- an edge of the block that is no inner one lies on a face of the box, with both its ends
  pub faces_uncut : Uncut n s cut
  faces_uncut X i j k h e =
      let on : (x : ℕ) → on_box_face n x j k ≡ true = λ x. ap₂ (λ (p q : Bool). at_end n.nx x || p || q) (at_out n.ny j h.0.1) (at_out n.nz k h.0.2) ∙ yz (ltb (i + 1) n.nx) (between n.ny j) (between n.nz k) (at_end n.nx x) (lt-ltb _ _ h.1.0) e in
      differ_self (metal n s cut i j k) (metal n s cut (i + 1) j k) sign (faces i j k h.0 (on i)) (faces (i + 1) j k h.1 (on (i + 1)))
  faces_uncut Y i j k h e =
      let on : (y : ℕ) → on_box_face n i y k ≡ true = λ y. ap₂ (λ (p q : Bool). p || at_end n.ny y || q) (at_out n.nx i h.0.0) (at_out n.nz k h.0.2) ∙ xz (between n.nx i) (ltb (j + 1) n.ny) (between n.nz k) (at_end n.ny y) (lt-ltb _ _ h.1.1) e in
      differ_self (metal n s cut i j k) (metal n s cut i (j + 1) k) sign (faces i j k h.0 (on j)) (faces i (j + 1) k h.1 (on (j + 1)))
  faces_uncut Z i j k h e =
      let on : (z : ℕ) → on_box_face n i j z ≡ true = λ z. ap₂ (λ (p q : Bool). p || q || at_end n.nz z) (at_out n.nx i h.0.0) (at_out n.ny j h.0.1) ∙ xy (between n.nx i) (between n.ny j) (ltb (k + 1) n.nz) (at_end n.nz z) (lt-ltb _ _ h.1.2) e in
      differ_self (metal n s cut i j k) (metal n s cut i j (k + 1)) sign (faces i j k h.0 (on k)) (faces i j (k + 1) h.1 (on (k + 1)))

-- ---- an edge on a face of the box that is crossed, or none

last_off : (a b c : Bool) → a ≡ true → b ≡ false → (a && not b && c) ≡ false → c ≡ false
last_off true false c p q e = e
last_off true true c p q e = absurd (true≢false q)
last_off false b c p q e = absurd (false≢true p)

module _ (n : Size) (s : List ℕ) (cut : Cut) where
  -- the edge is one of the block, on a face of the box, and crossed
  abbrev cut_test : Axis → ℕ → ℕ → ℕ → Bool
  cut_test a i j k = stays n a i j k && not (inner n a i j k) && crossed_from n s cut a i j k

  cut_there : (a : Axis) (p : ℕ) → p < sample_count n → at_sample n (cut_test a) p ≡ true → CutOff n s cut
  cut_there a p h t =
      let crossed = and_both _ _ t in
      let outer = and_both _ _ crossed.0 in
      record {
        axis = a;
        i = p % n.nx;
        j = p / n.nx % n.ny;
        k = p / n.nx / n.ny;
        in_block = stays_in n a _ _ _ (index_box n.nx n.ny n.nz p h) outer.0;
        on_face_lem = not-true _ outer.1;
        is_crossed = crossed.1;
      }

  none_there : (a : Axis) → ((p : ℕ) → p < sample_count n → at_sample n (cut_test a) p ≡ false)
      → (i j k : ℕ) → EdgeIn n a i j k → inner n a i j k ≡ false → crossed_from n s cut a i j k ≡ false
  none_there a none i j k h e =
      let p = sample_index n i j k in
      let at : cut_test a i j k ≡ false = rw (index_x n.nx n.ny i j k h.0.0 h.0.1, index_y n.nx n.ny i j k h.0.0 h.0.1, index_z n.nx n.ny i j k h.0.0 h.0.1) at (none p (index_lt n.nx n.ny i j k h.0.0 h.0.1 n.nz h.0.2)) in
      last_off _ _ _ (in_stays n a i j k h) e at

  pub cut_or_uncut : CutOff n s cut ⊎ Uncut n s cut
  cut_or_uncut = go (some_or_none (at_sample n (cut_test X)) (sample_count n)) (some_or_none (at_sample n (cut_test Y)) (sample_count n)) (some_or_none (at_sample n (cut_test Z)) (sample_count n))
    where
      Along : Axis → Type 0
      Along a = ((p : ℕ) × (p < sample_count n) × (at_sample n (cut_test a) p ≡ true)) ⊎ ((p : ℕ) → p < sample_count n → at_sample n (cut_test a) p ≡ false)

      all : ((a : Axis) (p : ℕ) → p < sample_count n → at_sample n (cut_test a) p ≡ false) → Uncut n s cut
      all f a = none_there a (f a)

      go : Along X → Along Y → Along Z → CutOff n s cut ⊎ Uncut n s cut
      go (inl t) _ _ = inl (cut_there X t.0 t.1 t.2)
      go (inr _) (inl t) _ = inl (cut_there Y t.0 t.1 t.2)
      go (inr _) (inr _) (inl t) = inl (cut_there Z t.0 t.1 t.2)
      go (inr x) (inr y) (inr z) = inr (all each)
        where
          each : (a : Axis) (p : ℕ) → p < sample_count n → at_sample n (cut_test a) p ≡ false
          each X = x
          each Y = y
          each Z = z

-- ---- where none is crossed, each crossed edge is an inner one

pub crossed_inner_lem : (n : Size) (s : List ℕ) (cut : Cut) → Uncut n s cut → (a : Axis) (i j k : ℕ) → EdgeIn n a i j k → (inner n a i j k && crossed_from n s cut a i j k) ≡ crossed_from n s cut a i j k
crossed_inner_lem n s cut uncut a i j k h = go (inner n a i j k) refl
  where
    go : (c : Bool) → inner n a i j k ≡ c → (c && crossed_from n s cut a i j k) ≡ crossed_from n s cut a i j k
    go true e = refl
    go false e = sym (uncut a i j k h e)

-- an edge that is no inner one has no quad
pub not_inner : (n : Size) (a : Axis) (i j k : ℕ) (c : Bool) → (Inner n a i j k → ⊥) → (inner n a i j k && c) ≡ false
not_inner n a i j k c f = go (inner n a i j k) refl
  where
    go : (d : Bool) → inner n a i j k ≡ d → (d && c) ≡ false
    go true e = absurd (f (inner_facts n a i j k e))
    go false e = refl

-- four orders hold, or not
pub four : (a b c d e f g h : ℕ) → ((a < b) × (c < d) × (e < f) × (g < h)) ⊎ ((a < b) × (c < d) × (e < f) × (g < h) → ⊥)
four a b c d e f g h = go (lt_or_ge a b) (lt_or_ge c d) (lt_or_ge e f) (lt_or_ge g h)
  where
    go : (a < b) ⊎ (b ≤ a) → (c < d) ⊎ (d ≤ c) → (e < f) ⊎ (f ≤ e) → (g < h) ⊎ (h ≤ g)
        → ((a < b) × (c < d) × (e < f) × (g < h)) ⊎ ((a < b) × (c < d) × (e < f) × (g < h) → ⊥)
    go (inl p) (inl q) (inl r) (inl u) = inl (p, q, r, u)
    go (inr p) _ _ _ = inr (λ w. omega arith)
    go (inl p) (inr q) _ _ = inr (λ w. omega arith)
    go (inl p) (inl q) (inr r) _ = inr (λ w. omega arith)
    go (inl p) (inl q) (inl r) (inr u) = inr (λ w. omega arith)
