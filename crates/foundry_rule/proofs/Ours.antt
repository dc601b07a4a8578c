-- A quad of known vertices is one of ours just if it passes 01's table (`ours_by_table`). One of its four beginnings is the quad of a crossed inner edge; there the third
-- vertex is in the highest cube, so it is the beginning that `led` finds.
-- Assumes nothing.
use Prim.Native.Nat.{ℕ, suc, ◌+◌, ◌*◌, ◌<◌}
use mathlib.Core.Path.{◌≡◌, sym, ◌∙◌, subst}
use mathlib.Core.Logic.{◌⊎◌, inl, inr}
use mathlib.Core.Bool.{Bool, true}
use mathlib.Core.List.Memᴰ
use mathlib.Core.List.{List, [], ◌∷◌, Memᴰ}
use native.Mathlib.Omega.{arith}
use borrow.Author.Tests.{ltb-true}
use lib.Ieee.{Float}
use lib.ListN.{length}
use Rattle.block.specs.declared.Cut.{Cut}
use Rattle.block.specs.declared.Size.{Size}
use Rattle.cube_rule.specs.Decider.{loops_of}
use Rattle.mesh_rule.specs.Buffers.{mesh_words, mesh_quads}
use Rattle.mesh_rule.specs.Mesh.{Quad, flat, Holder, quads}
use Rattle.mesh_rule.proofs.Quads.{flat_length, quad_numbers, FromEdge, quad_of_edge, edge_of_quad}
use Rattle.foundry_rule.specs.Judged.{first_passing, is_some, quad_total, named_quad, as_sent, same_round, our_quad}
use Rattle.foundry_rule.specs.Spots.{led, fits}
use Rattle.foundry_rule.proofs.Firsts.{same_test, first_passes, is_some_lem}
use Rattle.foundry_rule.proofs.Known.{name_of, known, own_facts, own_holder, holder_own}
use Rattle.foundry_rule.proofs.Rounds.{begun_by, renamed, renamed_begun, round_begun, begun_round, begun_keeps}
use Rattle.foundry_rule.proofs.Rotations.{led_begun, led_highest}
use Rattle.foundry_rule.proofs.Laid.{Laid, laid_highest, fits_laid, laid_fits}
use Rattle.foundry_rule.proofs.Owned.{Tied, AllTied, laid_from, from_laid}

-- ---- our own list of quads

-- behind a quad, the buffer has the numbers of the others
pub flat_next : (q : Quad) (qs : List Quad) (p : ℕ) → named_quad as_sent (flat (q ∷ qs)) (suc p) ≡ named_quad as_sent (flat qs) p
flat_next q qs p =
    let four : (m : ℕ) → 4 * suc p + m ≡ suc (suc (suc (suc (4 * p + m)))) = λ m. omega arith in
    let none : 4 * suc p ≡ suc (suc (suc (suc (4 * p)))) = omega arith in
    rw (four 1, four 2, four 3, none)

-- each quad has its place in the buffer
quad_place : (q : Quad) (qs : List Quad) → Memᴰ q qs → (p : ℕ) × (p < length qs) × (named_quad as_sent (flat qs) p ≡ q)
quad_place q [] d = absurd (Memᴰ.not-nil d)
quad_place q (x ∷ qs) d = go (Memᴰ.cases_cons d) (quad_place q qs)
  where
    go : (q ≡ x) ⊎ Memᴰ q qs → (Memᴰ q qs → (p : ℕ) × (p < length qs) × (named_quad as_sent (flat qs) p ≡ q))
        → (p : ℕ) × (p < suc (length qs)) × (named_quad as_sent (flat (x ∷ qs)) p ≡ q)
    go (inl e) ih = (0, omega arith, sym e)
    go (inr t) ih = let r = ih t in (suc r.0, omega arith, flat_next x qs r.0 ∙ r.2)

module _ (n : Size) (s : List ℕ) (cut : Cut) where
  pub our_total : quad_total (mesh_quads loops_of n s cut) ≡ length (quads loops_of n s cut)
  unfolding mesh_quads
  our_total = omega (arith, flat_length (quads loops_of n s cut))

  -- a place in it has the quad of a crossed inner edge
  pub place_edge : (p : ℕ) → p < quad_total (mesh_quads loops_of n s cut) → FromEdge loops_of n s cut (named_quad as_sent (mesh_quads loops_of n s cut) p)
  unfolding mesh_quads
  place_edge p h = edge_of_quad loops_of n s cut (quad_numbers (quads loops_of n s cut) p (omega (arith, our_total)))

  -- and each such quad has a place
  pub edge_place : (q : Quad) → FromEdge loops_of n s cut q
      → (p : ℕ) × (p < quad_total (mesh_quads loops_of n s cut)) × (named_quad as_sent (mesh_quads loops_of n s cut) p ≡ q)
  unfolding mesh_quads
  edge_place q e =
      let r = quad_place _ (quads loops_of n s cut) (quad_of_edge loops_of n s cut e.axis e.i e.j e.k e.is_inner e.is_crossed) in
      (r.0, omega (arith, our_total, r.1), r.2 ∙ sym e.is)

-- ---- the quads that are sent

module _ (n : Size) (s : List ℕ) (cut : Cut) (words : List ℕ) (offsets : List Float) (quads : List ℕ) where
  abbrev W : List ℕ
  W = mesh_words loops_of n s cut

  abbrev Q : List ℕ
  Q = mesh_quads loops_of n s cut

  -- the number of ours that a vertex has, and whether it has one
  abbrev pub own_of : ℕ → ℕ
  own_of v = name_of n s cut Q words offsets quads v

  abbrev pub is_known : ℕ → Bool
  is_known v = known n s cut Q words offsets quads v

  -- the four vertices of a quad are known
  abbrev pub AllKnown : Quad → Type 0
  AllKnown q = (is_known q.v0 ≡ true) × (is_known q.v1 ≡ true) × (is_known q.v2 ≡ true) × (is_known q.v3 ≡ true)

  known_begun : (m : ℕ) (q : Quad) → AllKnown q → AllKnown (begun_by m q)
  known_begun = begun_keeps AllKnown (λ q k. (k.1, k.2, k.3, k.0))

  tied : (v : ℕ) → is_known v ≡ true → Tied n s cut words v (own_of v)
  tied v k = record {
    to_holder = λ c e l d. subst (λ (x : ℕ). Holder loops_of n s cut (own_of v) x e) d.at_cube_lem (own_holder n s cut Q words offsets quads v e k l d.at_edge);
    to_spot = λ c e l h. let r = holder_own n s cut Q words offsets quads v c e l h in record { at_cube_lem = r.0; at_edge = r.1 };
  }

  pub all_tied : (q : Quad) → AllKnown q → AllTied n s cut words q (renamed own_of q)
  all_tied q k = record { first = tied _ k.0; second = tied _ k.1; third = tied _ k.2; fourth = tied _ k.3 }

  -- begun further on, it lies round an inner edge just if its renamed quad is one of ours, so begun
  begun_laid : (m p : ℕ) (q : Quad) → AllKnown q → p < quad_total Q → begun_by m (renamed own_of q) ≡ named_quad as_sent Q p → Laid words n s cut (begun_by m q)
  begun_laid m p q k l e =
      from_laid n s cut words (begun_by m q) (renamed own_of (begun_by m q)) (all_tied (begun_by m q) (known_begun m q k))
      (subst (FromEdge loops_of n s cut) (sym (renamed_begun own_of m q ∙ e)) (place_edge n s cut p l))

  laid_begun : (m : ℕ) (q : Quad) → AllKnown q → Laid words n s cut (begun_by m q) → (p : ℕ) × (p < quad_total Q) × (begun_by m (renamed own_of q) ≡ named_quad as_sent Q p)
  laid_begun m q k d =
      let r = edge_place n s cut (renamed own_of (begun_by m q)) (laid_from n s cut words (begun_by m q) (renamed own_of (begun_by m q)) (all_tied (begun_by m q) (known_begun m q k)) d) in
      (r.0, r.1, sym (renamed_begun own_of m q) ∙ sym r.2)

  ours_laid : (q : Quad) → AllKnown q → (p : ℕ) → p < quad_total Q → same_round (renamed own_of q) (named_quad as_sent Q p) ≡ true → Laid words n s cut (led words q)
  ours_laid q k p l h =
      let r = round_begun (renamed own_of q) (named_quad as_sent Q p) h in
      let d = begun_laid r.0 p q k l r.1 in
      subst (Laid words n s cut) (sym (led_highest words r.0 q (laid_highest words n s cut (begun_by r.0 q) d))) d

  laid_ours : (q : Quad) → AllKnown q → Laid words n s cut (led words q) → (p : ℕ) × (p < quad_total Q) × (same_round (renamed own_of q) (named_quad as_sent Q p) ≡ true)
  laid_ours q k d =
      let b = led_begun words q in
      let r = laid_begun b.0 q k (subst (Laid words n s cut) b.1 d) in
      (r.0, r.1, begun_round b.0 (renamed own_of q) (named_quad as_sent Q r.0) r.2)

  pub known_led : (q : Quad) → AllKnown q → AllKnown (led words q)
  known_led q k = let b = led_begun words q in subst AllKnown (sym b.1) (known_begun b.0 q k)

  led_laid : (q : Quad) → AllKnown q → fits words n s cut (led words q) ≡ true → Laid words n s cut (led words q)
  led_laid q k h = fits_laid words n s cut (led words q) (own_facts n s cut Q words offsets quads (led words q).v2 (known_led q k).2).cube_lt h

  -- a quad of known vertices is one of ours just if, begun as `led` begins it, it passes 01's table
  pub ours_by_table : (q : ℕ) → AllKnown (named_quad as_sent quads q) → our_quad W Q words offsets quads q ≡ fits words n s cut (led words (named_quad as_sent quads q))
  unfolding our_quad
  ours_by_table q k = same_test (our_quad W Q words offsets quads q) (fits words n s cut (led words sent)) there back
    where
      sent : Quad
      sent = named_quad as_sent quads q

      test : ℕ → Bool
      test p = same_round (named_quad own_of quads q) (named_quad as_sent Q p)

      there : is_some test (quad_total Q) ≡ true → fits words n s cut (led words sent) ≡ true
      there h =
          let l = ltb-true (first_passing test (quad_total Q)) (quad_total Q) h in
          laid_fits words n s cut (led words sent) (ours_laid sent k (first_passing test (quad_total Q)) l (first_passes test (quad_total Q) l))

      back : fits words n s cut (led words sent) ≡ true → is_some test (quad_total Q) ≡ true
      back h =
          let r = laid_ours sent k (led_laid sent k h) in
          is_some_lem test (quad_total Q) r.0 r.1 r.2

  -- so one of ours, begun as `led` begins it, lies round an inner edge
  pub our_laid : (q : ℕ) → AllKnown (named_quad as_sent quads q) → our_quad W Q words offsets quads q ≡ true → Laid words n s cut (led words (named_quad as_sent quads q))
  our_laid q k h = led_laid (named_quad as_sent quads q) k (sym (ours_by_table q k) ∙ h)
