-- The beginning that `led` chooses: the quad's third vertex is in the highest cube. So it begins the same round at the same vertex.
-- Assumes nothing.
use Prim.Native.Nat.{ℕ, zero, suc, ◌+◌, ◌<◌}
use mathlib.Core.Path.{◌≡◌, refl, ap, sym, ◌∙◌}
use mathlib.Core.Bool.{Bool, true, false, cond}
use mathlib.Core.List.{List}
use native.Mathlib.Omega.{arith}
use lib.Dec.{ltb}
use borrow.Author.Tests.{lt-ltb, le-ltb}
use Rattle.mesh_rule.specs.Mesh.{Quad}
use Rattle.foundry_rule.specs.Judged.{same_round}
use Rattle.foundry_rule.specs.Spots.{highest_of, led_by, cube_at, led}
use Rattle.foundry_rule.proofs.Rounds.{begun_by, begun_add, round_begun}

-- by a number for each vertex: that of the third is above the others
pub record Highest (cube : ℕ → ℕ) (q : Quad) : Type 0 where
  pub above_first : cube q.v0 < cube q.v2
  pub above_second : cube q.v1 < cube q.v2
  pub above_fourth : cube q.v3 < cube q.v2

above : (x c d : ℕ) (t : Bool) → c < x → d < x → ltb x (cond t d c) ≡ false
above x c d true hc hd = le-ltb x d (omega arith)
above x c d false hc hd = le-ltb x c (omega arith)

under : (x a b : ℕ) (t : Bool) → a < x → b < x → ltb (cond t b a) x ≡ true
under x a b true ha hb = lt-ltb b x hb
under x a b false ha hb = lt-ltb a x ha

module _ (a b c d : ℕ) where
  first_highest : b < a → c < a → d < a → highest_of a b c d ≡ 0
  first_highest hb hc hd = rw (le-ltb a b (omega arith), above a c d (ltb c d) hc hd)

  second_highest : a < b → c < b → d < b → highest_of a b c d ≡ 1
  second_highest ha hc hd = rw (lt-ltb a b ha, above b c d (ltb c d) hc hd)

  third_highest : a < c → b < c → d < c → highest_of a b c d ≡ 2
  third_highest ha hb hd = rw (le-ltb c d (omega arith), under c a b (ltb a b) ha hb)

  fourth_highest : a < d → b < d → c < d → highest_of a b c d ≡ 3
  fourth_highest ha hb hc = rw (lt-ltb c d hc, under d a b (ltb a b) ha hb)

by_begun : (h : ℕ) (q : Quad) → (m : ℕ) × (led_by h q ≡ begun_by m q)
by_begun zero q = (2, refl)
by_begun (suc zero) q = (3, refl)
by_begun (suc (suc zero)) q = (0, refl)
by_begun (suc (suc (suc h))) q = (1, refl)

module _ (words : List ℕ) where
  -- `led` begins the quad at some vertex of it
  pub led_begun : (q : Quad) → (m : ℕ) × (led words q ≡ begun_by m q)
  led_begun q = by_begun (highest_of (cube_at words q.v0) (cube_at words q.v1) (cube_at words q.v2) (cube_at words q.v3)) q

  -- and so that the third vertex is in the highest cube, where one cube is the highest
  pub led_highest : (m : ℕ) (q : Quad) → Highest (cube_at words) (begun_by m q) → led words q ≡ begun_by m q
  led_highest zero q h = ap (λ (x : ℕ). led_by x q) (third_highest _ _ _ _ h.above_first h.above_second h.above_fourth)
  led_highest (suc zero) q h = ap (λ (x : ℕ). led_by x q) (fourth_highest _ _ _ _ h.above_fourth h.above_first h.above_second)
  led_highest (suc (suc zero)) q h = ap (λ (x : ℕ). led_by x q) (first_highest _ _ _ _ h.above_fourth h.above_first h.above_second)
  led_highest (suc (suc (suc zero))) q h = ap (λ (x : ℕ). led_by x q) (second_highest _ _ _ _ h.above_second h.above_fourth h.above_first)
  led_highest (suc (suc (suc (suc m)))) q h = led_highest m q h

  -- so it begins the same round at the same vertex
  pub led_round : (q p : Quad) → same_round q p ≡ true → Highest (cube_at words) (led words p) → led words q ≡ led words p
  led_round q p e h =
      let r = round_begun q p e in
      let b = led_begun p in
      let same : begun_by (b.0 + r.0) q ≡ led words p = sym (begun_add b.0 r.0 q) ∙ ap (begun_by b.0) r.1 ∙ sym b.1 in
      led_highest (b.0 + r.0) q (rw same h) ∙ same
