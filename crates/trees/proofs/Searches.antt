-- Searches: one follows no more links than it has steps, at a top it is over, in trees it finds a top, and where something falls at each link it comes to an end.
-- Assumes nothing.
use Prim.Native.Nat.{ℕ, zero, suc, ◌+◌, ◌≤◌, ◌<◌}
use mathlib.Core.Path.{◌≡◌, refl, ap, sym, ◌∙◌}
use mathlib.Core.List.{List}
use native.Mathlib.Numerals.{add-one}
use native.Mathlib.Omega.{arith}
use Rattle.std.proofs.lemmas.Bool.Decides.{nat_tests}
use borrow.Author.Tests.{eq-eqb, ne_eqb}
use Rattle.trees.specs.Forest.{at, top_of, links_of}
use Rattle.trees.specs.Steps.{Ends, Standing, Tops}

pub links_le : (up : ℕ → ℕ) (steps v : ℕ) → links_of up steps v ≤ steps
unfolding links_of
links_le up zero v = omega arith
links_le up (suc steps) v = grind (arith, nat_tests, links_le up steps (up v))

pub at_top : (up : ℕ → ℕ) (steps v : ℕ) → up v ≡ v → (top_of up steps v ≡ v) × (links_of up steps v ≡ 0)
unfolding top_of links_of
at_top up zero v e = (refl, refl)
at_top up (suc steps) v e = (rw (eq-eqb (up v) v e), rw (eq-eqb (up v) v e))

-- one link from a top
pub one_link : (up : ℕ → ℕ) (n v w : ℕ) → v < n → (w ≡ v → ⊥) → up v ≡ w → up w ≡ w → (top_of up n v ≡ w) × (links_of up n v ≡ 1)
unfolding top_of links_of
one_link up zero v w h ne e f = absurd (omega arith)
one_link up (suc n) v w h ne e f =
    let t = at_top up n w f in
    (rw (e, ne_eqb w v ne) t.0, rw (e, ne_eqb w v ne) (ap suc t.1))

module _ {n : ℕ} {up : List ℕ} (E : Ends n up) where
  -- a link leads to a vertex
  pub inside : (v : ℕ) → v < n → at up v < n
  inside v h = grind (arith, nat_tests, E.nearer v h)

  -- one step nearer to the same top
  pub nearer_to : (v w : ℕ) → v < n → w ≡ at up v → (w ≡ v → ⊥) → (top_of (at up) n v ≡ top_of (at up) n w) × (links_of (at up) n v ≡ links_of (at up) n w + 1)
  nearer_to v w h e ne =
      let s = E.nearer v h (λ z. ne (e ∙ z)) in
      rw e (s.1, s.2 ∙ sym (add-one _))

-- ---- in trees

-- what two searches find are tops
pub tops : {n : ℕ} {up size : List ℕ} → Standing n up size → (v w : ℕ) → v < n → w < n → (a b : ℕ) → a ≡ top_of (at up) n v → b ≡ top_of (at up) n w → Tops n up a b
tops {n} {up} {size} S v w hv hw a b ea eb = record {
  first_lt = rw ea (S.trees.inside v hv);
  second_lt = rw eb (S.trees.inside w hw);
  first_top = rw ea (S.trees.tops v hv);
  second_top = rw eb (S.trees.tops w hw);
}

-- ---- where something falls at each link

first_link_lem : (up : ℕ → ℕ) (m x : ℕ) → (up x ≡ x → ⊥) → (top_of up (suc m) x ≡ top_of up m (up x)) × (links_of up (suc m) x ≡ suc (links_of up m (up x)))
unfolding top_of links_of
first_link_lem up m x ne = (rw (ne_eqb (up x) x ne), rw (ne_eqb (up x) x ne))

module _ (n : ℕ) (up left : ℕ → ℕ) (goes : (x : ℕ) → x < n → (up x ≡ x → ⊥) → (up x < n) × (left (up x) < left x)) where
  -- one step more finds the same
  stable : (m x : ℕ) → x < n → left x ≤ m → (top_of up m x ≡ top_of up (suc m) x) × (links_of up m x ≡ links_of up (suc m) x)
  unfolding top_of links_of
  stable zero x l h = (grind (arith, nat_tests, goes x l), grind (arith, nat_tests, goes x l))
  stable (suc m) x l h = (grind (arith, nat_tests, goes x l, stable m (up x)), grind (arith, nat_tests, goes x l, stable m (up x)))

  -- a link leads one step nearer to the same top
  pub nearer_by : ((x : ℕ) → x < n → left x ≤ n) → (x : ℕ) → x < n → (up x ≡ x → ⊥) → (up x < n) × (top_of up n x ≡ top_of up n (up x)) × (links_of up n x ≡ suc (links_of up n (up x)))
  nearer_by few x l ne = go n l (few x l)
    where
      first : (m : ℕ) → (top_of up (suc m) x ≡ top_of up m (up x)) × (links_of up (suc m) x ≡ suc (links_of up m (up x)))
      first m = first_link_lem up m x ne

      go : (m : ℕ) → x < m → left x ≤ m → (up x < n) × (top_of up m x ≡ top_of up m (up x)) × (links_of up m x ≡ suc (links_of up m (up x)))
      go zero h f = absurd (omega arith)
      go (suc m) h f =
          let g = goes x l ne in
          let s = stable m (up x) g.0 (omega (arith, g.1)) in
          (g.0, (first m).0 ∙ s.0, (first m).1 ∙ ap suc s.1)

  -- a search ends where a function says that does not change on the way
  pub ends_at : (root : ℕ → ℕ) → ((x : ℕ) → x < n → up x ≡ x → root x ≡ x) → ((x : ℕ) → x < n → (up x ≡ x → ⊥) → root (up x) ≡ root x)
      → (m x : ℕ) → x < n → left x ≤ m → top_of up m x ≡ root x
  unfolding top_of
  ends_at root stops same zero x l h = grind (arith, nat_tests, goes x l, stops x l)
  ends_at root stops same (suc m) x l h = grind (arith, nat_tests, goes x l, stops x l, same x l, ends_at root stops same m (up x))
