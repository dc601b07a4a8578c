-- Quads begun at another of their vertices: two are the same round exactly if one is the other, begun some vertices further on. So being the same round is an
-- equivalence, is kept by every renaming, and goes back through a renaming that keeps the numbers of both quads apart.
-- Assumes nothing.
use Prim.Native.Nat.{ℕ, zero, suc, ◌+◌, ◌*◌, ◌<◌}
use mathlib.Core.Path.{◌≡◌, refl, sym, ap, subst, ◌∙◌}
use mathlib.Core.Bool.{true, or-true}
use mathlib.Core.Logic.{⊎_elim}
use mathlib.Core.List.{List}
use native.Mathlib.Nat.{zero-add, suc-add}
use lib.ListN.{get_or}
use borrow.Author.Tests.{eqb-true, eq-eqb, ltb-true, lt-ltb}
use Rattle.laws.proofs.Tests.{and_both}
use Rattle.lists.specs.Rows.{quad_below}
use Rattle.mesh_rule.specs.Mesh.{Quad, quad}
use Rattle.foundry_rule.specs.Judged.{named_quad, as_sent, begun_next, same_quad, same_round}
use Rattle.foundry_rule.proofs.Firsts.{or_either}

-- a quad begun m vertices further on
abbrev pub begun_by : ℕ → Quad → Quad
begun_by zero q = q
begun_by (suc m) q = begun_next (begun_by m q)

-- every number of a quad renamed; and every number below n
abbrev pub renamed : (ℕ → ℕ) → Quad → Quad
renamed f q = quad (f q.v0) (f q.v1) (f q.v2) (f q.v3)

pub record AllBelow (n : ℕ) (q : Quad) : Type 0 where
  pub at0 : q.v0 < n
  pub at1 : q.v1 < n
  pub at2 : q.v2 < n
  pub at3 : q.v3 < n

-- ---- the tests and what they say

pub quad_equal : {p q : Quad} → p.v0 ≡ q.v0 → p.v1 ≡ q.v1 → p.v2 ≡ q.v2 → p.v3 ≡ q.v3 → p ≡ q
quad_equal e0 e1 e2 e3 = λ i. record { v0 = e0 i; v1 = e1 i; v2 = e2 i; v3 = e3 i }

same_quad_lem : (p q : Quad) → same_quad p q ≡ true → p ≡ q
same_quad_lem p q h =
    let a = and_both _ _ h in
    let b = and_both _ _ a.0 in
    let c = and_both _ _ b.0 in
    quad_equal (eqb-true _ _ c.0) (eqb-true _ _ c.1) (eqb-true _ _ b.1) (eqb-true _ _ a.1)

quad_same : (q : Quad) → same_quad q q ≡ true
quad_same q = rw (eq-eqb q.v0 q.v0 refl, eq-eqb q.v1 q.v1 refl, eq-eqb q.v2 q.v2 refl, eq-eqb q.v3 q.v3 refl)

-- the same round is the same quad, begun some vertices further on
pub round_begun : (p q : Quad) → same_round p q ≡ true → (m : ℕ) × (begun_by m p ≡ q)
round_begun p q h =
    ⊎_elim (λ a. ⊎_elim (λ b. ⊎_elim (λ c. (0, same_quad_lem p q c)) (λ c. (1, same_quad_lem (begun_next p) q c)) (or_either _ _ b))
    (λ b. (2, same_quad_lem (begun_next (begun_next p)) q b)) (or_either _ _ a))
    (λ a. (3, same_quad_lem (begun_next (begun_next (begun_next p))) q a)) (or_either _ _ h)

-- four vertices further on is where it was
begun_same : (m : ℕ) (p : Quad) → same_round p (begun_by m p) ≡ true
begun_same zero p = rw (quad_same p)
begun_same (suc zero) p = rw (quad_same (begun_next p), or-true)
begun_same (suc (suc zero)) p = rw (quad_same (begun_next (begun_next p)), or-true)
begun_same (suc (suc (suc zero))) p = rw (quad_same (begun_next (begun_next (begun_next p))), or-true)
begun_same (suc (suc (suc (suc m)))) p = begun_same m p

pub begun_round : (m : ℕ) (p q : Quad) → begun_by m p ≡ q → same_round p q ≡ true
begun_round m p q e = rw e at (begun_same m p)

-- ---- an equivalence

pub begun_add : (k m : ℕ) (q : Quad) → begun_by k (begun_by m q) ≡ begun_by (k + m) q
begun_add zero m q = rw zero-add
begun_add (suc k) m q = rw suc-add (ap begun_next (begun_add k m q))

-- begun further on until it is begun as before
unbegun : (m : ℕ) (r q : Quad) → r ≡ begun_by m q → (k : ℕ) × (begun_by k r ≡ q)
unbegun zero r q e = (0, e)
unbegun (suc zero) r q e = (3, ap (begun_by 3) e)
unbegun (suc (suc zero)) r q e = (2, ap (begun_by 2) e)
unbegun (suc (suc (suc zero))) r q e = (1, ap (begun_by 1) e)
unbegun (suc (suc (suc (suc m)))) r q e = unbegun m r q e

-- two quads that are equal once both are begun further on
pub begun_both : (m k : ℕ) (p q : Quad) → begun_by m p ≡ begun_by k q → same_round p q ≡ true
begun_both m k p q e = let b = unbegun k (begun_by m p) q e in begun_round (b.0 + m) p q (sym (begun_add b.0 m p) ∙ b.1)

pub round_same : (q : Quad) → same_round q q ≡ true
round_same = begun_same 0

pub round_turned : (p q : Quad) → same_round p q ≡ true → same_round q p ≡ true
round_turned p q t = let s = round_begun p q t in begun_both 0 s.0 q p (sym s.1)

pub round_then : (p q r : Quad) → same_round p q ≡ true → same_round q r ≡ true → same_round p r ≡ true
round_then p q r t u =
    let s = round_begun p q t in
    let v = round_begun q r u in
    begun_round (v.0 + s.0) p r (sym (begun_add v.0 s.0 p) ∙ ap (begun_by v.0) s.1 ∙ v.1)

-- ---- what stays

-- what begun quads keep
pub begun_keeps : (P : Quad → Type 0) → ((q : Quad) → P q → P (begun_next q)) → (m : ℕ) (q : Quad) → P q → P (begun_by m q)
begun_keeps P step zero q h = h
begun_keeps P step (suc m) q h = step (begun_by m q) (begun_keeps P step m q h)

pub begun_below : (n m : ℕ) (q : Quad) → AllBelow n q → AllBelow n (begun_by m q)
begun_below n = begun_keeps (AllBelow n) (λ q b. record { at0 = b.at1; at1 = b.at2; at2 = b.at3; at3 = b.at0 })

pub round_below : (n : ℕ) (p q : Quad) → same_round p q ≡ true → AllBelow n p → AllBelow n q
round_below n p q t b = let s = round_begun p q t in subst (AllBelow n) s.1 (begun_below n s.0 p b)

-- ---- renaming

pub renamed_begun : (f : ℕ → ℕ) (m : ℕ) (q : Quad) → renamed f (begun_by m q) ≡ begun_by m (renamed f q)
renamed_begun f zero q = refl
renamed_begun f (suc m) q = ap begun_next (renamed_begun f m q)

-- the same round stays so
pub round_renamed : (f : ℕ → ℕ) (p q : Quad) → same_round p q ≡ true → same_round (renamed f p) (renamed f q) ≡ true
round_renamed f p q t =
    let s = round_begun p q t in
    begun_round s.0 (renamed f p) (renamed f q) (sym (renamed_begun f s.0 p) ∙ ap (renamed f) s.1)

renamed_back : (f : ℕ → ℕ) (n : ℕ) → ((i k : ℕ) → i < n → k < n → f i ≡ f k → i ≡ k) → (p q : Quad) → AllBelow n p → AllBelow n q
    → renamed f p ≡ renamed f q → p ≡ q
renamed_back f n apart p q a b e =
    quad_equal (apart _ _ a.at0 b.at0 (ap (λ (x : Quad). x.v0) e)) (apart _ _ a.at1 b.at1 (ap (λ (x : Quad). x.v1) e))
    (apart _ _ a.at2 b.at2 (ap (λ (x : Quad). x.v2) e)) (apart _ _ a.at3 b.at3 (ap (λ (x : Quad). x.v3) e))

-- and back, where the renaming keeps the numbers below n apart and both quads have only such
pub round_back : (f : ℕ → ℕ) (n : ℕ) → ((i k : ℕ) → i < n → k < n → f i ≡ f k → i ≡ k) → (p q : Quad) → AllBelow n p → AllBelow n q
    → same_round (renamed f p) (renamed f q) ≡ true → same_round p q ≡ true
round_back f n apart p q a b t =
    let s = round_begun (renamed f p) (renamed f q) t in
    begun_round s.0 p q (renamed_back f n apart (begun_by s.0 p) q (begun_below n s.0 p a) b (renamed_begun f s.0 p ∙ s.1))

-- renamings that agree on the quad's numbers
pub renamed_alike : (f g : ℕ → ℕ) (n : ℕ) → ((i : ℕ) → i < n → f i ≡ g i) → (q : Quad) → AllBelow n q → renamed f q ≡ renamed g q
renamed_alike f g n e q b = quad_equal (e _ b.at0) (e _ b.at1) (e _ b.at2) (e _ b.at3)

-- numbers below m renamed to numbers below n
pub renamed_below : (f : ℕ → ℕ) (m n : ℕ) → ((i : ℕ) → i < m → f i < n) → (q : Quad) → AllBelow m q → AllBelow n (renamed f q)
renamed_below f m n h q b = record { at0 = h _ b.at0; at1 = h _ b.at1; at2 = h _ b.at2; at3 = h _ b.at3 }

-- ---- quads of a list

-- row 14 says that a quad's numbers are below the vertex count
pub quad_below_lem : (n : ℕ) (quads : List ℕ) (q : ℕ) → quad_below n quads q ≡ true → AllBelow n (named_quad as_sent quads q)
quad_below_lem n quads q t =
    let three = and_both _ _ t in
    let two = and_both _ _ three.0 in
    let one = and_both _ _ two.0 in
    record { at0 = ltb-true _ _ one.0; at1 = ltb-true _ _ one.1; at2 = ltb-true _ _ two.1; at3 = ltb-true _ _ three.1 }

pub below_quad : (n : ℕ) (quads : List ℕ) (q : ℕ) → AllBelow n (named_quad as_sent quads q) → quad_below n quads q ≡ true
below_quad n quads q b =
    simp (
      lt-ltb (get_or quads (4 * q) 0) n b.at0,
      lt-ltb (get_or quads (4 * q + 1) 0) n b.at1,
      lt-ltb (get_or quads (4 * q + 2) 0) n b.at2,
      lt-ltb (get_or quads (4 * q + 3) 0) n b.at3,
    )
