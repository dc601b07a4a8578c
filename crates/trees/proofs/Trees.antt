-- Vertices hung by size: each tree of height d has at least 2 ^ d vertices, so no way to a top is longer than the logarithm. `up` and `size` are
-- the stored state as functions, `depth` and `root` the length of the way from a vertex to its top, and that top.
-- Assumes nothing.
use Prim.Native.Nat.{ℕ, zero, suc, ◌+◌, ◌^◌, ◌≤◌, ◌<◌}
use mathlib.Core.Path.{◌≡◌, refl, ap, sym, ◌∙◌}
use mathlib.Core.Bool.{Bool, true, false, cond, ◌||◌}
use native.Mathlib.Nat.{pow-suc}
use native.Mathlib.Omega.{arith}
use lib.Dec.{eqb}
use Rattle.std.proofs.lemmas.Bool.Decides.{nat_tests}
use borrow.Author.Tests.{eq-eqb, ne_eqb, eqb-true, eqb-false}
use Rattle.laws.specs.Bits.{bit}
use Rattle.laws.specs.Counting.{count}
use Rattle.laws.proofs.Counting.{count_same, count_le_all, count_two, count_this}
use Rattle.trees.specs.Forest.{top_of, links_of}
use Rattle.trees.specs.Steps.{Trees}

-- ---- trees

pub start : (n : ℕ) (up size : ℕ → ℕ) → ((v : ℕ) → v < n → up v ≡ v) → ((v : ℕ) → v < n → size v ≡ 1) → Trees n up size (λ v. 0) (λ v. v)
start n up size eu es = record {
  inside = λ v l. l;
  tops = λ v l. eu v l;
  stay = λ v l e. (refl, refl);
  step = λ v l ne. absurd (ne (eu v l));
  heavy = λ v l. omega (arith, es v l);
  counted = λ r l e. es r l ∙ sym (count_this n r l);
  spent = λ v l ne. absurd (ne (eu v l));
}

-- ---- the top a hung under the top b

abbrev pub hung_up : (ℕ → ℕ) → ℕ → ℕ → ℕ → ℕ
hung_up up a b v = cond (eqb v a) b (up v)

abbrev pub hung_size : (ℕ → ℕ) → ℕ → ℕ → ℕ → ℕ
hung_size size a b v = cond (eqb v a) 0 (cond (eqb v b) (size a + size b) (size v))

module _ (n : ℕ) (up size depth root : ℕ → ℕ) (F : Trees n up size depth root) (a b : ℕ) (ha : a < n) (hb : b < n)
    (ta : up a ≡ a) (tb : up b ≡ b) (ne : a ≡ b → ⊥) (less : size a ≤ size b) where
  abbrev depth' : ℕ → ℕ
  depth' v = cond (eqb (root v) a) (suc (depth v)) (depth v)

  abbrev root' : ℕ → ℕ
  root' v = cond (eqb (root v) a) b (root v)

  root_b : eqb (root b) a ≡ false
  root_b = ne_eqb (root b) a (λ x. ne (sym x ∙ (F.stay b hb tb).0))

  root_a : eqb (root a) a ≡ true
  root_a = eq-eqb (root a) a (F.stay a ha ta).0

  inside' : (v : ℕ) → v < n → root' v < n
  inside' v l = grind (arith, nat_tests, F.inside v l)

  tops' : (v : ℕ) → v < n → hung_up up a b (root' v) ≡ root' v
  tops' v l = grind (arith, nat_tests, F.tops v l)

  stay' : (v : ℕ) → v < n → hung_up up a b v ≡ v → (root' v ≡ v) × (depth' v ≡ 0)
  stay' v l e = (grind (arith, nat_tests, F.stay v l), grind (arith, nat_tests, F.stay v l))

  step' : (v : ℕ) → v < n → (hung_up up a b v ≡ v → ⊥)
      → (hung_up up a b v < n) × (root' v ≡ root' (hung_up up a b v)) × (depth' v ≡ suc (depth' (hung_up up a b v)))
  step' v l = go (eqb v a) refl
    where
      here : (hung_up up a b a < n) × (root' a ≡ root' (hung_up up a b a)) × (depth' a ≡ suc (depth' (hung_up up a b a)))
      here =
          (rw (eq-eqb a a refl) hb, rw (eq-eqb a a refl, root_a, root_b) (sym (F.stay b hb tb).0), rw (eq-eqb a a refl, root_a, root_b) (ap suc ((F.stay a ha ta).1 ∙ sym (F.stay b hb tb).1)))

      there : (c : Bool) → (eqb (root (up v)) a ≡ c) → depth v ≡ suc (depth (up v)) → root v ≡ root (up v)
          → (cond (eqb (root v) a) b (root v) ≡ cond (eqb (root (up v)) a) b (root (up v))) × (cond (eqb (root v) a) (suc (depth v)) (depth v) ≡ suc (cond (eqb (root (up v)) a) (suc (depth (up v))) (depth (up v))))
      there true q d r = (rw r, rw (r, q) (ap suc d))
      there false q d r = (rw r, rw (r, q) d)

      go : (c : Bool) → eqb v a ≡ c → (cond c b (up v) ≡ v → ⊥)
          → (hung_up up a b v < n) × (root' v ≡ root' (hung_up up a b v)) × (depth' v ≡ suc (depth' (hung_up up a b v)))
      go true q m = rw (eqb-true v a q) here
      go false q m =
          let s = F.step v l m in
          let w = there (eqb (root (up v)) a) refl s.2 s.1 in
          rw q (s.0, w.0, w.1)

  heavy' : (v : ℕ) → v < n → 2 ^ depth' v ≤ hung_size size a b (root' v)
  heavy' v l = grind (arith, nat_tests, F.heavy v l, pow-suc 2 (depth v))

  -- the vertices under b are those that were under a or b
  both_under : (x : ℕ) → bit (eqb (cond (eqb x a) b x) b) ≡ bit (eqb x a) + bit (eqb x b)
  both_under x = grind (arith, nat_tests)

  others : (x r : ℕ) → (r ≡ a → ⊥) → (r ≡ b → ⊥) → eqb x r ≡ eqb (cond (eqb x a) b x) r
  others x r na nb = grind (arith, nat_tests)

  counted' : (r : ℕ) → r < n → hung_up up a b r ≡ r → hung_size size a b r ≡ count (λ (v : ℕ). eqb (root' v) r) n
  counted' r l = go (eqb r a) (eqb r b) refl refl
    where
      go : (c d : Bool) → eqb r a ≡ c → eqb r b ≡ d → cond c b (up r) ≡ r → cond c 0 (cond d (size a + size b) (size r)) ≡ count (λ (v : ℕ). eqb (root' v) r) n
      go true d p q e = absurd (ne (sym (eqb-true r a p) ∙ sym e))
      go false true p q e =
          rw (eqb-true r b q, F.counted a ha ta, F.counted b hb tb)
          (sym (count_two (λ v. eqb (root v) a) (λ v. eqb (root v) b) (λ v. eqb (root' v) b) n (λ v lv. both_under (root v))))
      go false false p q e =
          F.counted r l e
          ∙ count_same _ _ n (λ v lv. others (root v) r (eqb-false r a p) (eqb-false r b q))

  spent' : (v : ℕ) → v < n → (hung_up up a b v ≡ v → ⊥) → hung_size size a b v ≡ 0
  spent' v l m = grind (arith, nat_tests, F.spent v l)

  pub hang : Trees n (hung_up up a b) (hung_size size a b) depth' root'
  hang = record { inside = inside'; tops = tops'; stay = stay'; step = step'; heavy = heavy'; counted = counted'; spent = spent' }

-- ---- the bound

pow_gt : (d : ℕ) → d < 2 ^ d
pow_gt zero = omega arith
pow_gt (suc d) = rw pow-suc (omega (arith, pow_gt d))

module _ {n : ℕ} {up size depth root : ℕ → ℕ} (F : Trees n up size depth root) where
  -- 2 to the power of the links on any way is at most n
  pub small : (v : ℕ) → v < n → 2 ^ depth v ≤ n
  small v l = omega (arith, F.heavy v l, F.counted (root v) (F.inside v l) (F.tops v l), count_le_all (λ (w : ℕ). eqb (root w) (root v)) n)

  pub shallow : (v : ℕ) → v < n → depth v < n
  shallow v l = omega (arith, small v l, pow_gt (depth v))

  -- a search finds the top, and follows `depth v` links
  search_is : (steps v : ℕ) → v < n → depth v ≤ steps → (top_of up steps v ≡ root v) × (links_of up steps v ≡ depth v)
  unfolding top_of links_of
  search_is zero v l h = (grind (arith, nat_tests, F.stay v l, F.step v l), grind (arith, nat_tests, F.stay v l, F.step v l))
  search_is (suc steps) v l h =
      (grind (arith, nat_tests, F.stay v l, F.step v l, search_is steps (up v)), grind (arith, nat_tests, F.stay v l, F.step v l, search_is steps (up v)))

  -- n steps are enough
  pub found : (v : ℕ) → v < n → (top_of up n v ≡ root v) × (links_of up n v ≡ depth v)
  found v l = search_is n v l (omega (arith, shallow v l))

  -- so tops and depths are those that searches find
  pub settled : Trees n up size (links_of up n) (top_of up n)
  settled = record {
    inside = λ v l. rw (found v l).0 (F.inside v l);
    tops = λ v l. rw (found v l).0 (F.tops v l);
    stay = λ v l e. ((found v l).0 ∙ (F.stay v l e).0, (found v l).1 ∙ (F.stay v l e).1);
    step = λ v l ne.
        let s = F.step v l ne in
        (s.0, (found v l).0 ∙ s.1 ∙ sym (found (up v) s.0).0, (found v l).1 ∙ s.2 ∙ ap suc (sym (found (up v) s.0).1));
    heavy = λ v l. rw ((found v l).0, (found v l).1) (F.heavy v l);
    counted = λ r l e. F.counted r l e ∙ count_same _ _ n (λ v lv. ap (λ (x : ℕ). eqb x r) (sym (found v lv).0));
    spent = F.spent;
  }

  -- two trees have at most n vertices together
  pub two_tops : (a b : ℕ) → a < n → b < n → up a ≡ a → up b ≡ b → (a ≡ b → ⊥) → size a + size b ≤ n
  two_tops a b ha hb ta tb ne =
      omega (arith, F.counted a ha ta, F.counted b hb tb, count_two (λ (v : ℕ). eqb (root v) a) (λ (v : ℕ). eqb (root v) b) (λ (v : ℕ). eqb (root v) a || eqb (root v) b) n (λ v l. grind (arith, nat_tests)), count_le_all (λ (v : ℕ). eqb (root v) a || eqb (root v) b) n)
