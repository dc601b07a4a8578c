-- The words of a plane row by row: five words of a row of samples, stored behind those of the rows before.
-- Assumes nothing.
use mathlib.Core.Path.{◌≡◌, ap, ap₂, ◌∙◌}
use mathlib.Core.List.{List, [], ◌∷◌}
use Prim.Native.Nat.{ℕ, suc, ◌+◌, ◌*◌, ◌/◌, ◌%◌, ◌≤◌, ◌<◌}
use native.Mathlib.Nat.{add-zero}
use native.Mathlib.Omega.{arith}
use lib.ListN.{length, set}
use lib.Seq.{sets}
use Rattle.laws.specs.Below.{over}
use Rattle.laws.proofs.Over.{each, over_put}
use Rattle.block.specs.declared.Cut.{Cut}
use Rattle.signs.specs.Steps.{row_from, plane_from, words_from}

-- five places more of a buffer whose front is written
five_more : (f : ℕ → ℕ) (b l : List ℕ) (q v0 v1 v2 v3 v4 : ℕ) → l ≡ over (each f q) b → v0 ≡ f q → v1 ≡ f (q + 1) → v2 ≡ f (q + 2) → v3 ≡ f (q + 3) → v4 ≡ f (q + 4) → q + 5 ≤ length b
    → sets l q (v0 ∷ v1 ∷ v2 ∷ v3 ∷ v4 ∷ []) ≡ over (each f (q + 5)) b
five_more f b l q v0 v1 v2 v3 v4 e e0 e1 e2 e3 e4 h =
    let s1 = over_put f b l q v0 e e0 (omega arith) in
    let s2 = at (set l q v0) (suc q) (q + 1) v1 (omega arith) ∙ over_put f b (set l q v0) (q + 1) v1 s1 e1 (omega arith) ∙ ap (λ (m : ℕ). over (each f m) b) (two q) in
    let s3 = at (set (set l q v0) (suc q) v1) (suc (suc q)) (q + 2) v2 (omega arith) ∙ over_put f b _ (q + 2) v2 s2 e2 (omega arith) ∙ ap (λ (m : ℕ). over (each f m) b) (three q) in
    let s4 = at (set (set (set l q v0) (suc q) v1) (suc (suc q)) v2) (suc (suc (suc q))) (q + 3) v3 (omega arith) ∙ over_put f b _ (q + 3) v3 s3 e3 (omega arith) ∙ ap (λ (m : ℕ). over (each f m) b) (four q) in
    at (set (set (set (set l q v0) (suc q) v1) (suc (suc q)) v2) (suc (suc (suc q))) v3) (suc (suc (suc (suc q)))) (q + 4) v4 (omega arith) ∙ over_put f b _ (q + 4) v4 s4 e4 (omega arith) ∙ ap (λ (m : ℕ). over (each f m) b) (all q)
  where
    at : (l : List ℕ) (i j v : ℕ) → i ≡ j → set l i v ≡ set l j v
    at l i j v e = ap (λ (k : ℕ). set l k v) e

    two : (q : ℕ) → q + 1 + 1 ≡ q + 2
    two q = omega arith

    three : (q : ℕ) → q + 2 + 1 ≡ q + 3
    three q = omega arith

    four : (q : ℕ) → q + 3 + 1 ≡ q + 4
    four q = omega arith

    all : (q : ℕ) → q + 4 + 1 ≡ q + 5
    all q = omega arith

-- the row j of plane k, behind those before
module _ (s : List ℕ) (cut : Cut) (nx ny j k : ℕ) where
  word_is : (w : ℕ) → w < 5 → row_from s cut.t (nx * (j + ny * k)) nx w ≡ plane_from s cut.t nx ny k (5 * j + w)
  word_is w h = ap₂ (λ (y v : ℕ). row_from s cut.t (nx * (y + ny * k)) nx v) quotient rest
    where
      quotient : j ≡ (5 * j + w) / 5
      quotient = omega arith

      rest : w ≡ (5 * j + w) % 5
      rest = omega arith

  pub row_stored : (plane₀ plane plane' : List ℕ) → plane ≡ over (each (plane_from s cut.t nx ny k) (5 * j)) plane₀ → plane' ≡ sets plane (5 * j) (words_from s cut.t (nx * (j + ny * k)) nx) → 5 * j + 5 ≤ length plane₀
      → plane' ≡ over (each (plane_from s cut.t nx ny k) (5 * (j + 1))) plane₀
  row_stored plane₀ plane plane' e e' h =
      e'
      ∙ five_more (plane_from s cut.t nx ny k) plane₀ plane (5 * j) _ _ _ _ _ e
      (word_is 0 (omega arith) ∙ ap (plane_from s cut.t nx ny k) (add-zero (5 * j))) (word_is 1 (omega arith)) (word_is 2 (omega arith)) (word_is 3 (omega arith)) (word_is 4 (omega arith)) h
      ∙ ap (λ (m : ℕ). over (each (plane_from s cut.t nx ny k) m) plane₀) next
    where
      next : 5 * j + 5 ≡ 5 * (j + 1)
      next = omega arith
