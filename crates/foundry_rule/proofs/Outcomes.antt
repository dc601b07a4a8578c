-- What is found, by where the two searches end: at the first vertex, else at the first quad that is not sound, else by the counts. Each of the four, both ways.
-- Assumes nothing.
use Prim.Native.Nat.{ℕ, ◌≤◌, ◌<◌}
use mathlib.Core.Path.{◌≡◌, refl}
use mathlib.Core.Bool.{Bool, true, false, cond, ◌&&◌}
use native.Mathlib.Omega.{arith}
use lib.Dec.{eqb, ltb}
use borrow.Author.Tests.{ltb-true, ltb-false, lt-ltb, le-ltb, eqb-true, eq-eqb}
use Rattle.laws.proofs.Tests.{and_both}
use Rattle.foundry_rule.specs.Judged.{Comparison, same, vertex_at_fault, quad_at_fault, some_missing}
use Rattle.foundry_rule.proofs.Firsts.{both_ways, not_so}

-- what the three tests choose
abbrev chosen : Bool → Bool → Bool → ℕ → ℕ → Comparison
chosen a b c v q = cond a (vertex_at_fault v) (cond b (quad_at_fault q) (cond c same some_missing))

chosen_vertex : (a b c : Bool) (v q x : ℕ) → chosen a b c v q ≡ vertex_at_fault x → (a ≡ true) × (v ≡ x)
chosen_vertex true b c v q x e = (refl, (cc))
chosen_vertex false true c v q x e = let z : ◌≡◌ {A = ℕ} 0 1 = cc in absurd (omega arith)
chosen_vertex false false true v q x e = let z : ◌≡◌ {A = ℕ} 0 1 = cc in absurd (omega arith)
chosen_vertex false false false v q x e = let z : ◌≡◌ {A = ℕ} 0 1 = cc in absurd (omega arith)

chosen_quad : (a b c : Bool) (v q x : ℕ) → chosen a b c v q ≡ quad_at_fault x → (a ≡ false) × (b ≡ true) × (q ≡ x)
chosen_quad true b c v q x e = let z : ◌≡◌ {A = ℕ} 0 1 = cc in absurd (omega arith)
chosen_quad false true c v q x e = (refl, refl, (cc))
chosen_quad false false true v q x e = let z : ◌≡◌ {A = ℕ} 0 1 = cc in absurd (omega arith)
chosen_quad false false false v q x e = let z : ◌≡◌ {A = ℕ} 0 1 = cc in absurd (omega arith)

chosen_same : (a b c : Bool) (v q : ℕ) → chosen a b c v q ≡ same → (a ≡ false) × (b ≡ false) × (c ≡ true)
chosen_same true b c v q e = let z : ◌≡◌ {A = ℕ} 0 1 = cc in absurd (omega arith)
chosen_same false true c v q e = let z : ◌≡◌ {A = ℕ} 0 1 = cc in absurd (omega arith)
chosen_same false false true v q e = (refl, refl, refl)
chosen_same false false false v q e = let z : ◌≡◌ {A = ℕ} 0 1 = cc in absurd (omega arith)

chosen_missing : (a b c : Bool) (v q : ℕ) → chosen a b c v q ≡ some_missing → (a ≡ false) × (b ≡ false) × (c ≡ false)
chosen_missing true b c v q e = let z : ◌≡◌ {A = ℕ} 0 1 = cc in absurd (omega arith)
chosen_missing false true c v q e = let z : ◌≡◌ {A = ℕ} 0 1 = cc in absurd (omega arith)
chosen_missing false false true v q e = let z : ◌≡◌ {A = ℕ} 0 1 = cc in absurd (omega arith)
chosen_missing false false false v q e = (refl, refl, refl)

-- there are vs vertices and qs quads, of ours ourVs and ourQs; the searches end at v and q
module _ (vs qs ourVs ourQs v q : ℕ) where
  abbrev pub ended_at : Comparison
  ended_at = chosen (ltb v vs) (ltb q qs) (eqb vs ourVs && eqb qs ourQs) v q

  counted : vs ≡ ourVs → qs ≡ ourQs → eqb vs ourVs && eqb qs ourQs ≡ true
  counted a b = simp (eq-eqb vs ourVs a, eq-eqb qs ourQs b)

  -- what was found says where the searches ended

  pub vertex_found : (x : ℕ) → ended_at ≡ vertex_at_fault x → (v < vs) × (v ≡ x)
  vertex_found x e = let h = chosen_vertex (ltb v vs) (ltb q qs) (eqb vs ourVs && eqb qs ourQs) v q x e in (ltb-true v vs h.0, h.1)

  pub quad_found : (x : ℕ) → ended_at ≡ quad_at_fault x → (vs ≤ v) × (q < qs) × (q ≡ x)
  quad_found x e =
      let h = chosen_quad (ltb v vs) (ltb q qs) (eqb vs ourVs && eqb qs ourQs) v q x e in
      (ltb-false v vs h.0, ltb-true q qs h.1, h.2)

  pub same_found : ended_at ≡ same → (vs ≤ v) × (qs ≤ q) × (vs ≡ ourVs) × (qs ≡ ourQs)
  same_found e =
      let h = chosen_same (ltb v vs) (ltb q qs) (eqb vs ourVs && eqb qs ourQs) v q e in
      let k = and_both _ _ h.2 in
      (ltb-false v vs h.0, ltb-false q qs h.1, eqb-true vs ourVs k.0, eqb-true qs ourQs k.1)

  pub missing_found : ended_at ≡ some_missing → (vs ≤ v) × (qs ≤ q) × (vs ≡ ourVs → qs ≡ ourQs → ⊥)
  missing_found e =
      let h = chosen_missing (ltb v vs) (ltb q qs) (eqb vs ourVs && eqb qs ourQs) v q e in
      (ltb-false v vs h.0, ltb-false q qs h.1, λ a b. both_ways (counted a b) h.2)

  -- where they ended says what is found

  pub find_vertex : v < vs → ended_at ≡ vertex_at_fault v
  find_vertex l = rw (lt-ltb v vs l)

  pub find_quad : vs ≤ v → q < qs → ended_at ≡ quad_at_fault q
  find_quad m l = rw (le-ltb v vs m, lt-ltb q qs l)

  pub find_same : vs ≤ v → qs ≤ q → vs ≡ ourVs → qs ≡ ourQs → ended_at ≡ same
  find_same m n a b = rw (le-ltb v vs m, le-ltb q qs n, counted a b)

  pub find_missing : vs ≤ v → qs ≤ q → (vs ≡ ourVs → qs ≡ ourQs → ⊥) → ended_at ≡ some_missing
  find_missing m n h =
      rw (le-ltb v vs m, le-ltb q qs n, not_so (eqb vs ourVs && eqb qs ourQs) (λ s. let k = and_both _ _ s in h (eqb-true vs ourVs k.0) (eqb-true qs ourQs k.1)))
